use Rattle.std.proofs.Common.{◌≡◌, List, [], drop}
use Rattle.token.specs.declared.token.Token.{Token}
use Rattle.list.specs.Slots.{Calm, fitting}
use Rattle.list.specs.declared.slots.Slot.{Slot}
use Rattle.model.specs.Course.{Takes}
use Rattle.model.specs.Dispatch.{shows_hooks}
use Rattle.turns.proofs.inner.LoopInner.before_handle_events.Given as goal

-- what the sources that are left are shown is all that is left of the whole
abbrev pub invariant-loop-token : goal.invariant-loop-token
invariant-loop-token g l =
    Calm l.sources
    × ((u : Token) → fitting l.sources u ≡ fitting l.initial.sources u)
    × ((o : List (Slot g.row.S.Denot)) → Takes g.S.EventSource (shows_hooks l.events (drop l.token-index l.token-items) l.sources) [] o → Takes g.S.EventSource (shows_hooks l.events l.token-items l.initial.sources) [] o)
