use Rattle.std.proofs.Common.{◌≡◌, ◌+◌, List, ◌++◌, drop, vec_len}
use Rattle.token.specs.Refusal.{done}
use Rattle.sys.specs.World.{Exchange, Exchanged, world_of}
use Rattle.model.specs.Course.{Takes}
use Rattle.model.specs.Dispatch.{Turns, turns_of}
use Rattle.turns.specs.Turns.{turns_as}
use Rattle.turns.proofs.inner.LoopInner.turns.Given as goal

-- a line for each event so far, and the turns of the events that are left are all that is left of the whole
abbrev pub invariant-loop-i : goal.invariant-loop-i
invariant-loop-i g l =
    (vec_len l.sheet.items ≡ vec_len l.initial.sheet.items + l.i)
    × (xs : List Exchange) × Exchanged g.P.Poller g.C.Clock xs l.initial.self.handle.registry.poll l.self.handle.registry.poll
    × ((ys : List Exchange) (o : Turns g.row.S.Denot)
    → Takes g.S.EventSource (turns_of g.S.EventSource (drop l.i l.events) (turns_as (done tt) l.self (world_of g.P.Poller l.self.handle.registry.poll) l.sheet.items.items)) ys o
    → Takes g.S.EventSource (turns_of g.S.EventSource l.events (turns_as (done tt) l.initial.self (world_of g.P.Poller l.initial.self.handle.registry.poll) l.initial.sheet.items.items)) (xs ++ ys) o)
