use Rattle.std.proofs.Common.{vec_items}
use Rattle.sys.proofs.Waits.{Arming}
use Rattle.sys.proofs.waiting.arm_again.Given as goal

abbrev pub invariant-loop-event : goal.invariant-loop-event
invariant-loop-event g l =
    Arming g.P.Poller l.levels (vec_items l.events.items) l.initial.poller l.event-index l.poller
