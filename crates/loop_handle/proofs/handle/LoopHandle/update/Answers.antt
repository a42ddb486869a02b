use Rattle.std.proofs.Common.{true, arith}
use Rattle.std.proofs.lemmas.Grind.{common_steps}
use Rattle.model.proofs.Calls.{acted_is, updates}
use Rattle.model.proofs.Order.{back_listed}
use Rattle.loop_handle.specs.State.{loop_of}
use Rattle.sys.specs.World.{world_of}
use Rattle.loop_handle.proofs.handle.LoopHandle.update.Goals as goal

pub returns-clause-is : goal.returns-clause-is
returns-clause-is g c =
    let e = c.reregister-answer.ensures.is in
    (e.0, e.1, updates g.S.EventSource (loop_of c.args.self.now (world_of g.P.Poller c.args.self.now.registry.poll)) c.args.token c.take_out-source.result (grind (arith, common_steps)) e.0 _ _ e.2 (acted_is (loop_of c.args.self.now (world_of g.P.Poller c.args.self.now.registry.poll)) c.args.token.id true c.map_or-enabled.result _ c.put_back.new.self (grind (arith, common_steps)) (grind (arith, common_steps)) (grind (arith, common_steps))))

pub returns-clause-listed : goal.returns-clause-listed
returns-clause-listed g c listed =
    back_listed c.args.self.now.sources c.args.token c.args.self.now.registry.lifecycle listed (grind (arith, common_steps)) c.reregister-answer.new.source c.map_or-enabled.result c.reregister-answer.new.self.lifecycle c.put_back.new.self (grind (arith, common_steps)) c.reregister-answer.ensures.joins
