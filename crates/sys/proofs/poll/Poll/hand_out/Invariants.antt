use Rattle.std.proofs.Common.{◌≡◌, map, take, vec_items, vec_len}
use Rattle.sys.specs.Event.{polled}
use Rattle.sys.proofs.poll.Poll.hand_out.Given as goal

abbrev pub invariant-loop-event : goal.invariant-loop-event
invariant-loop-event g l =
    (vec_len l.events.items ≡ l.event-index)
    × (vec_items l.events.items ≡ map polled (take l.event-index (vec_items l.self.events.items)))
