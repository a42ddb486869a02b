use Rattle.std.proofs.Common.{Some, arith}
use Rattle.std.proofs.lemmas.Grind.{common_steps}
use Rattle.token.specs.Key.{key_of}
use Rattle.token.specs.Refusal.{outcome}
use Rattle.sys.specs.Polling.{Registers, line_for, state_of}
use Rattle.sys.specs.World.{register_of}
use Rattle.sys.proofs.Locality.{register_touches}
use Rattle.sys.proofs.Plain.{came_touches, registers_plain}
use Rattle.sys.proofs.poll.Poll.register.Goals as goal

-- As the answer of `reregister`: the goals of the two are of no one record that a lemma could take.
pub returns : goal.returns
returns g c =
    let p = g.P.Poller in
    let line = line_for c.args.file c.args.interest c.args.token in
    let i : Registers p.adds line c.args.mode (state_of c.args.self.now) (outcome c.send.result) (state_of c.send.new.self) = grind (arith, common_steps, c.send.ensures) in
    let came = registers_plain p g.C.Clock line c.args.mode c.args.self.now (outcome c.send.result) c.send.new.self g.met.P.Poller.adding i in
    record { is = i; plain = came; touches = came_touches p g.C.Clock (register_of line c.args.mode) c.args.file (Some (key_of c.args.token)) _ _ _ (register_touches line c.args.mode) came }
