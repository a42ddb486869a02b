use Rattle.std.proofs.Common.{◌++◌, arith}
use Rattle.std.proofs.lemmas.Grind.{common_steps}
use Rattle.token.specs.Refusal.{outcome}
use Rattle.sys.proofs.Plain.{exchanged_then}
use Rattle.model.proofs.Calls.{let_go, released}
use Rattle.loop_handle.proofs.handle.Registry.release.Goals as goal

pub returns-then-is_ok-clause-is : goal.returns-then-is_ok-clause-is
returns-then-is_ok-clause-is g c =
    let e = c.unregister-answer.ensures in
    (e.0, e.1, released g.S.EventSource c.args.self.now.lifecycle _ _ c.args.source c.unregister-answer.new.self c.args.token e.0 (outcome c.unregister-answer.result) _ e.2 (grind (arith, common_steps)) c.end.ensures (grind (arith, common_steps)))

pub returns-clause-is : goal.returns-clause-is
returns-clause-is g c =
    let e = c.unregister-answer.ensures in
    let f = c.let_go.ensures in (
      e.0 ++ f.0,
      exchanged_then g.P.Poller g.C.Clock e.1 f.1,
      let_go g.S.EventSource c.args.self.now.lifecycle _ _ _ c.args.source c.unregister-answer.new.self c.let_go.new.self c.args.token e.0 f.0 (outcome c.unregister-answer.result) _ e.2 (grind (arith, common_steps)) f.2 c.end-2.ensures (grind (arith, common_steps)),
    )
