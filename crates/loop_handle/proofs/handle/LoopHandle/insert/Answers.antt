use Rattle.std.proofs.Common.{◌≡◌, Some, subst, sym, arith}
use Rattle.std.proofs.lemmas.Grind.{common_steps}
use Rattle.model.proofs.Calls.{inserts}
use Rattle.sys.specs.Laws.{In}
use Rattle.list.specs.Slots.{fitting}
use Rattle.model.proofs.Order.{given_listed, inserted_listed}
use Rattle.loop_handle.specs.State.{loop_of}
use Rattle.sys.specs.World.{world_of}
use Rattle.loop_handle.proofs.handle.LoopHandle.insert.Goals as goal

pub returns-in-Err-clause-is : goal.returns-in-Err-clause-is
returns-in-Err-clause-is g c =
    let e = c.register.ensures.is in
    (e.0, e.1, inserts g.S.EventSource (loop_of c.args.self.now (world_of g.P.Poller c.args.self.now.registry.poll)) c.args.source c.vacant_entry.new.self c.in-Some.token e.0 _ _ (grind (arith, common_steps)) e.2 (grind (arith, common_steps)))

pub returns-clause-is : goal.returns-clause-is
returns-clause-is g c =
    let e = c.register.ensures.is in
    (e.0, e.1, inserts g.S.EventSource (loop_of c.args.self.now (world_of g.P.Poller c.args.self.now.registry.poll)) c.args.source c.vacant_entry.new.self c.in-Some.token e.0 _ _ (grind (arith, common_steps)) e.2 (grind (arith, common_steps)))

pub returns-in-Err-clause-listed : goal.returns-in-Err-clause-listed
returns-in-Err-clause-listed g c listed =
    let given = given_listed c.args.self.now.sources c.in-Some.token c.args.self.now.registry.lifecycle listed c.vacant_entry.new.self (grind (arith, common_steps)) c.register.new.self.lifecycle c.register.ensures.joins in
    λ u m. given u (subst (In u) c.drop_all.ensures m)

pub returns-clause-listed : goal.returns-clause-listed
returns-clause-listed g c listed =
    let stands = inserted_listed c.args.self.now.sources c.in-Some.token c.args.self.now.registry.lifecycle listed c.vacant_entry.new.self (grind (arith, common_steps)) c.register.new.source c.register.new.self.lifecycle c.register.ensures.joins in
    λ u m. subst (λ ys. fitting ys u ≡ Some u.id) (sym c.put_back.ensures) (stands u m)
