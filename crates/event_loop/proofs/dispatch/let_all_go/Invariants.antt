use Rattle.std.proofs.Common.{List, ◌++◌, length, reverse}
use Rattle.sys.specs.World.{Exchange, Exchanged, World, world_of}
use Rattle.model.specs.Course.{Takes}
use Rattle.event_loop.specs.End.{vacates_all}
use Rattle.event_loop.proofs.dispatch.let_all_go.Given as goal

-- the slots that are left are all that is left of the whole
abbrev pub invariant-loop-slot : goal.invariant-loop-slot
invariant-loop-slot g l =
    (xs : List Exchange) × Exchanged g.P.Poller g.C.Clock xs l.initial.poll l.poll
    × ((ys : List Exchange) (w : World) → Takes g.S.EventSource (vacates_all (reverse l.sources) (world_of g.P.Poller l.poll)) ys w → Takes g.S.EventSource (vacates_all (reverse l.initial.sources) (world_of g.P.Poller l.initial.poll)) (xs ++ ys) w)

abbrev pub decreases-loop-slot : goal.decreases-loop-slot
decreases-loop-slot g l = length l.sources
