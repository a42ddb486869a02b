use Rattle.std.proofs.Common.{[], refl, sym}
use Rattle.std.proofs.lemmas.List.{append-nil}
use Rattle.token.specs.Refusal.{done}
use Rattle.rules.specs.Calls.{went}
use Rattle.sys.specs.World.{world_of}
use Rattle.event_loop.proofs.dispatch.vacate.Goals as goal

pub returns-in-Occupied : goal.returns-in-Occupied
returns-in-Occupied g c =
    let e = c.let_go.ensures in
    (e.0, e.1, rw c.in-Occupied.is (went e.0 (done tt) c.let_go.new.self (world_of g.P.Poller c.let_go.new.poll), e.2, [], sym (append-nil e.0), (c.end.ensures, (refl, refl))))
