use Rattle.std.proofs.Common.{arith}
use Rattle.std.proofs.lemmas.Grind.{common_steps}
use Rattle.model.proofs.Calls.{emptied_is, removes}
use Rattle.model.proofs.Order.{taken_listed}
use Rattle.loop_handle.specs.State.{loop_of}
use Rattle.sys.specs.World.{world_of}
use Rattle.loop_handle.proofs.handle.LoopHandle.remove.Goals as goal

pub returns-clause-is : goal.returns-clause-is
returns-clause-is g c =
    let e = c.release.ensures.is in
    (e.0, e.1, removes g.S.EventSource (loop_of c.args.self.now (world_of g.P.Poller c.args.self.now.registry.poll)) c.args.token c.take_out-source.result (grind (arith, common_steps)) e.0 _ _ e.2 (emptied_is (loop_of c.args.self.now (world_of g.P.Poller c.args.self.now.registry.poll)) c.args.token _ _ c.empty-2.new.self (grind (arith, common_steps)) (grind (arith, common_steps))))

pub returns-clause-listed : goal.returns-clause-listed
returns-clause-listed g c calm listed =
    taken_listed c.args.self.now.sources c.args.token c.args.self.now.registry.lifecycle listed (grind (arith, common_steps)) c.release.new.self.lifecycle c.empty-2.new.self (grind (arith, common_steps)) c.release.ensures.gone
