use Rattle.kinds_tests.proofs.Steps.{waited_then}
use Rattle.kinds_tests.proofs.Timing.{asked_readings, polls_left, timed_then}
use Rattle.kinds_tests.proofs.waiting.register_wait_and_give_up.Goals as goal

pub returns-clause-entries : goal.returns-clause-entries
returns-clause-entries g c =
    let a = c.register.ensures in
    let b = c.give_up.ensures in
    let entered = g.met.S.EventSource.registering c.args.source.now _ c.args.factory.now _ _ c.register.new.self _ c.register.new.factory a.2 in
    waited_then _ _ _ c.args.factory.now c.register.new.factory a.0 b.0 _ _ _ _ _ entered c.poll.ensures.wakeful b.2

pub returns-clause-timers : goal.returns-clause-timers
returns-clause-timers g c =
    let k = g.C.Clock in
    let p = g.P.Poller in
    let a = c.register.ensures in
    let b = c.give_up.ensures in
    let entered = g.met.S.EventSource.registering c.args.source.now _ c.args.factory.now _ _ c.register.new.self _ c.register.new.factory a.2 in
    let one = asked_readings k p a.0 _ _ _ _ a.1.asked in
    let two = polls_left k p _ _ _ _ c.args.timeout c.poll.ensures.is in
    let three = asked_readings k p b.0 _ _ _ _ b.1.asked in
    timed_then k _ one.0 two.0 three.0 _ _ _ _ _ _ _ _ _ _ _ one.1 entered.reaches.timers two.1 two.2 three.1 b.2.reaches.timers
