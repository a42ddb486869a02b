use Rattle.std.proofs.Common.{sym}
use Rattle.bench.proofs.bench.Bench.enable.Goals as goal

pub returns-clause-order : goal.returns-clause-order
returns-clause-order c = λ h v o. rw (sym c.in_ok-token.ensures) (c.enable.ensures.order h v o)
