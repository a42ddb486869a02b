use Rattle.std.proofs.Common.{true, arith}
use Rattle.std.proofs.lemmas.Grind.{common_steps}
use Rattle.model.proofs.Calls.{acted_is, enables}
use Rattle.model.proofs.Order.{back_listed}
use Rattle.loop_handle.specs.State.{loop_of}
use Rattle.sys.specs.World.{world_of}
use Rattle.loop_handle.proofs.handle.LoopHandle.enable.Goals as goal

pub returns-clause-is : goal.returns-clause-is
returns-clause-is g c =
    let e = c.register-answer.ensures.is in
    (e.0, e.1, enables g.S.EventSource (loop_of c.args.self.now (world_of g.P.Poller c.args.self.now.registry.poll)) c.args.token c.take_out-source.result (grind (arith, common_steps)) e.0 _ _ (grind (arith, common_steps)) e.2 (acted_is (loop_of c.args.self.now (world_of g.P.Poller c.args.self.now.registry.poll)) c.args.token.id true c.is_ok.result _ c.put_back.new.self (grind (arith, common_steps)) (grind (arith, common_steps)) (grind (arith, common_steps))))

pub returns-clause-listed : goal.returns-clause-listed
returns-clause-listed g c listed =
    back_listed c.args.self.now.sources c.args.token c.args.self.now.registry.lifecycle listed (grind (arith, common_steps)) c.register-answer.new.source c.is_ok.result c.register-answer.new.self.lifecycle c.put_back.new.self (grind (arith, common_steps)) c.register-answer.ensures.joins
