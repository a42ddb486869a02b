use Rattle.std.proofs.Common.{◌≡◌, ◌++◌, take}
use Rattle.model.specs.Dispatch.{lost}
use Rattle.turns.proofs.turns.lose.Given as goal

abbrev pub invariant-loop-event : goal.invariant-loop-event
invariant-loop-event l = l.sheet.items.items ≡ l.initial.sheet.items.items ++ lost (take l.event-index l.events)
