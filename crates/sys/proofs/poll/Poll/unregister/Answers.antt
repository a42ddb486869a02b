use Rattle.std.proofs.Common.{None}
use Rattle.sys.specs.World.{unregister_of}
use Rattle.sys.proofs.Locality.{unregister_touches}
use Rattle.sys.proofs.Plain.{came_touches, unregisters_plain}
use Rattle.sys.proofs.poll.Poll.unregister.Goals as goal

-- As the answer of `let_go`: the goals of the two are of no one record that a lemma could take.
pub returns : goal.returns
returns g c =
    let p = g.P.Poller in
    let came = unregisters_plain p g.C.Clock g.met.P.Poller.deleting c.args.file c.args.self.now _ c.delete.new.self c.delete.ensures in
    record { is = c.delete.ensures; plain = came; touches = came_touches p g.C.Clock (unregister_of c.args.file) c.args.file None _ _ _ (unregister_touches c.args.file) came }
