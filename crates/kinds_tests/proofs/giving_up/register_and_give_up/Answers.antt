use Rattle.kinds_tests.proofs.Steps.{registered_then}
use Rattle.kinds_tests.proofs.Timing.{over_two}
use Rattle.kinds_tests.proofs.giving_up.register_and_give_up.Goals as goal

pub returns-clause-entries : goal.returns-clause-entries
returns-clause-entries g c = λ free.
    let a = c.register.ensures in
    let b = c.give_up.ensures in
    let entered = g.met.S.EventSource.registering c.args.source.now _ c.args.factory.now _ _ c.register.new.self _ c.register.new.factory a.2 in
    registered_then _ _ _ c.args.factory.now c.register.new.factory a.0 b.0 _ _ _ _ entered b.2 free

pub returns-clause-timers : goal.returns-clause-timers
returns-clause-timers g c =
    let a = c.register.ensures in
    let b = c.give_up.ensures in
    let entered = g.met.S.EventSource.registering c.args.source.now _ c.args.factory.now _ _ c.register.new.self _ c.register.new.factory a.2 in
    over_two _ _ _ _ _ _ _ entered.reaches.timers b.2.reaches.timers
