use Rattle.std.proofs.Common.{subst, arith}
use Rattle.std.proofs.lemmas.Grind.{common_steps}
use Rattle.token.specs.Refusal.{outcome}
use Rattle.sys.specs.Laws.{In}
use Rattle.model.proofs.Entries.{left_joins}
use Rattle.model.proofs.Calls.{withdrawn}
use Rattle.loop_handle.proofs.handle.Registry.unregister.Goals as goal

pub returns-in_err-unregister-clause-is : goal.returns-in_err-unregister-clause-is
returns-in_err-unregister-clause-is g c =
    let e = c.unregister.ensures in
    (e.0, e.1, withdrawn g.S.EventSource c.args.self.now.lifecycle _ _ c.args.source.now c.unregister.new.self c.args.token e.0 (outcome c.unregister.result) _ e.2 (grind (arith, common_steps)))

pub returns-clause-is : goal.returns-clause-is
returns-clause-is g c =
    let e = c.unregister.ensures in
    (e.0, e.1, withdrawn g.S.EventSource c.args.self.now.lifecycle _ _ c.args.source.now c.unregister.new.self c.args.token e.0 (outcome c.unregister.result) _ e.2 (grind (arith, common_steps)))

pub returns-clause-joins : goal.returns-clause-joins
returns-clause-joins g c u m = left_joins c.args.token c.args.self.now.lifecycle u (subst (In u) c.drop_all.ensures m)
