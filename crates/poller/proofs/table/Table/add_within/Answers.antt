use Rattle.std.proofs.Common.{arith}
use Rattle.std.proofs.lemmas.Grind.{common_steps}
use Rattle.poller.proofs.Outcomes.{found}
use Rattle.poller.proofs.Standing.{others}
use Rattle.poller.proofs.table.Table.add_within.Goals as goal

pub invariant_of-self : goal.invariant_of-self
invariant_of-self g c = grind (arith, common_steps, found, others c.args.request.file)
