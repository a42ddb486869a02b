use Rattle.bench.proofs.bench.Bench.dispatch.Goals as goal

pub returns-clause-order : goal.returns-clause-order
returns-clause-order c = λ h v o. c.dispatch.ensures.order h v (c.arrange.ensures.order h v o)
