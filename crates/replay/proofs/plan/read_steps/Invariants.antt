-- The text is a list just where the rest is one, of a step or more.
use Rattle.std.proofs.Common.{length, vec_items}
use Rattle.replay.proofs.Lists.{Progress}
use Rattle.replay.proofs.plan.read_steps.Given as goal

abbrev pub invariant-loop-step : goal.invariant-loop-step
invariant-loop-step l = Progress l.text l.rest (vec_items l.steps)

abbrev pub decreases-loop-step : goal.decreases-loop-step
decreases-loop-step l = length l.rest
