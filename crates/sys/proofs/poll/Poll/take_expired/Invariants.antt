use Rattle.std.proofs.Common.{◌≡◌, ◌+◌, ◌≤◌, length, vec_items, vec_len}
use Rattle.timer_wheel.specs.Wheel.{wheel_of}
use Rattle.sys.specs.Polling.{state_of, with_wheel}
use Rattle.sys.proofs.Waits.{Taking}
use Rattle.sys.proofs.poll.Poll.take_expired.Given as goal

abbrev pub invariant-loop-token : goal.invariant-loop-token
invariant-loop-token g l =
    record {
      room : vec_len l.events.items + length (wheel_of l.self.timers).timers ≤ 512;
      taking : Taking l.clock (wheel_of l.initial.self.timers) (vec_items l.initial.events.items) (wheel_of l.self.timers) (vec_items l.events.items);
      same : state_of l.self ≡ with_wheel (state_of l.initial.self) (wheel_of l.self.timers);
    }

abbrev pub decreases-loop-token : goal.decreases-loop-token
decreases-loop-token g l = length (wheel_of l.self.timers).timers
