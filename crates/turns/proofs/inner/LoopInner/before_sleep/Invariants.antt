use Rattle.std.proofs.Common.{◌≡◌, [], drop}
use Rattle.token.specs.declared.token.Token.{Token}
use Rattle.list.specs.Slots.{Calm, fitting}
use Rattle.model.specs.Course.{Takes}
use Rattle.model.specs.Dispatch.{Hooked, asks_hooks}
use Rattle.turns.proofs.inner.LoopInner.before_sleep.Given as goal

-- what the sources that are left are asked is all that is left of the whole
abbrev pub invariant-loop-token : goal.invariant-loop-token
invariant-loop-token g l =
    Calm l.sources
    × ((u : Token) → fitting l.sources u ≡ fitting l.initial.sources u)
    × ((o : Hooked g.row.S.Denot) → Takes g.S.EventSource (asks_hooks (drop l.token-index l.token-items) l.sources l.queue.items.items) [] o → Takes g.S.EventSource (asks_hooks l.token-items l.initial.sources l.initial.queue.items.items) [] o)
