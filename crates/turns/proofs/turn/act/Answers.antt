use Rattle.std.proofs.Common.{arith}
use Rattle.std.proofs.lemmas.Grind.{common_steps}
use Rattle.model.proofs.Order.{joined_but, same_but}
use Rattle.model.proofs.Parts.{disabled, reregistered}
use Rattle.turns.proofs.turn.act.Goals as goal

pub returns-in_err-reregister-in-Reregister-clause-is : goal.returns-in_err-reregister-in-Reregister-clause-is
returns-in_err-reregister-in-Reregister-clause-is g c =
    let e = c.reregister.ensures.is in
    (e.0, e.1, rw c.in-Reregister.is (reregistered g.S.EventSource c.args.token c.args.sources.now c.args.registry.now.lifecycle _ c.args.source.now e.0 _ _ e.2 (grind (arith, common_steps))))

pub returns-in_ok-reregister-in-Reregister-clause-listed : goal.returns-in_ok-reregister-in-Reregister-clause-listed
returns-in_ok-reregister-in-Reregister-clause-listed g c =
    let but = joined_but c.args.token c.args.sources.now c.args.registry.now.lifecycle c.requires.listed c.reregister.new.self.lifecycle c.reregister.ensures.joins in
    same_but c.args.token c.args.sources.now c.reregister.new.self.lifecycle but c.mark.new.sources c.mark.ensures.fits

pub returns-in_ok-reregister-in-Reregister-clause-is : goal.returns-in_ok-reregister-in-Reregister-clause-is
returns-in_ok-reregister-in-Reregister-clause-is g c =
    let e = c.reregister.ensures.is in
    (e.0, e.1, rw c.in-Reregister.is (reregistered g.S.EventSource c.args.token c.args.sources.now c.args.registry.now.lifecycle _ c.args.source.now e.0 _ _ e.2 (grind (arith, common_steps))))

pub returns-in_err-unregister-in-Disable-clause-is : goal.returns-in_err-unregister-in-Disable-clause-is
returns-in_err-unregister-in-Disable-clause-is g c =
    let e = c.unregister.ensures.is in
    (e.0, e.1, rw c.in-Disable.is (disabled g.S.EventSource c.args.token c.args.sources.now c.args.registry.now.lifecycle _ c.args.source.now e.0 _ _ e.2 (grind (arith, common_steps))))

pub returns-in_ok-unregister-in-Disable-clause-listed : goal.returns-in_ok-unregister-in-Disable-clause-listed
returns-in_ok-unregister-in-Disable-clause-listed g c =
    let but = joined_but c.args.token c.args.sources.now c.args.registry.now.lifecycle c.requires.listed c.unregister.new.self.lifecycle c.unregister.ensures.joins in
    same_but c.args.token c.args.sources.now c.unregister.new.self.lifecycle but c.mark-in-Disable.new.sources c.mark-in-Disable.ensures.fits

pub returns-in_ok-unregister-in-Disable-clause-is : goal.returns-in_ok-unregister-in-Disable-clause-is
returns-in_ok-unregister-in-Disable-clause-is g c =
    let e = c.unregister.ensures.is in
    (e.0, e.1, rw c.in-Disable.is (disabled g.S.EventSource c.args.token c.args.sources.now c.args.registry.now.lifecycle _ c.args.source.now e.0 _ _ e.2 (grind (arith, common_steps))))
