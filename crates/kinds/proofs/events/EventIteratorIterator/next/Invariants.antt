use Rattle.std.proofs.Common.{◌≡◌, length}
use Rattle.kinds.specs.Shown.{left}
use Rattle.kinds.proofs.events.EventIteratorIterator.next.Given as goal

-- what was passed over is another source's
abbrev pub invariant-loop-event : goal.invariant-loop-event
invariant-loop-event l = left l.self ≡ left l.initial.self

abbrev pub decreases-loop-event : goal.decreases-loop-event
decreases-loop-event l = length l.self.events.now
