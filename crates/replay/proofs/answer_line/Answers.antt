use Rattle.replay.proofs.answer_line.Goals as goal

pub returns-in-Some-clause-order : goal.returns-in-Some-clause-order
returns-in-Some-clause-order c = λ o. (o.0, o.1, c.arrange.ensures.order o.0 o.1 o.2)
