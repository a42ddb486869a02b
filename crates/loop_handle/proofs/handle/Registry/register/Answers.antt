use Rattle.std.proofs.Common.{ap, subst, arith}
use Rattle.std.proofs.lemmas.Grind.{common_steps}
use Rattle.token.specs.Refusal.{outcome}
use Rattle.sys.specs.Laws.{In}
use Rattle.model.proofs.Entries.{listed_joins}
use Rattle.model.proofs.Calls.{admitted}
use Rattle.loop_handle.proofs.handle.Registry.register.Goals as goal

pub returns-clause-is : goal.returns-clause-is
returns-clause-is g c =
    let e = c.register.ensures in
    (e.0, e.1, admitted g.S.EventSource c.args.self.now.lifecycle c.enter.new.lifecycle _ _ c.args.source.now c.register.new.self c.args.token c.new.result c.register.new.factory e.0 (outcome c.register.result) (grind (arith, common_steps)) c.new.ensures e.2)

pub returns-clause-joins : goal.returns-clause-joins
returns-clause-joins g c u m = listed_joins c.needs_hooks.result c.args.token c.args.self.now.lifecycle u (subst (In u) (ap (λ v. v.1) c.enter.ensures) m)
