use Rattle.sys.proofs.Plain.{exchanged_then}
use Rattle.kinds_tests.proofs.Steps.{given_up}
use Rattle.kinds_tests.proofs.giving_up.give_up.Goals as goal

pub returns : goal.returns
returns g c =
    let p = g.P.Poller in
    let a = c.unregister.ensures in
    let b = c.let_go.ensures in
    let kind = g.met.S.EventSource in
    let off = kind.unregistering c.args.source.now _ _ _ c.unregister.new.self _ a.2 in
    let gone = kind.leaving c.unregister.new.self _ _ c.let_go.new.self _ b.2 in
    (_, exchanged_then p g.C.Clock a.1 b.1, given_up _ _ _ _ _ _ a.0 b.0 _ off gone)
