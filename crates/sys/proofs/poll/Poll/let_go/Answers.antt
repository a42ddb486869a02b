use Rattle.std.proofs.Common.{None, rules}
use Rattle.sys.specs.Polling.{LetsGo, state_of}
use Rattle.sys.specs.World.{let_go_of}
use Rattle.sys.proofs.Locality.{let_go_touches}
use Rattle.sys.proofs.Plain.{came_touches, lets_go_plain}
use Rattle.sys.proofs.poll.Poll.let_go.Goals as goal

-- As the answer of `unregister`: the goals of the two are of no one record that a lemma could take.
pub returns : goal.returns
returns g c =
    let p = g.P.Poller in
    let i : LetsGo p c.args.file (state_of c.args.self.now) (state_of c.forget.new.self) = search rules in
    let came = lets_go_plain p g.C.Clock g.met.P.Poller.deleting c.args.file c.args.self.now c.forget.new.self i in
    record { is = i; plain = came; touches = came_touches p g.C.Clock (let_go_of c.args.file) c.args.file None _ _ _ (let_go_touches c.args.file) came }
