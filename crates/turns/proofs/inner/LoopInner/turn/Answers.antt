use Rattle.std.proofs.Common.{◌≡◌, ◌++◌, Result, ap, arith, refl, subst, sym}
use Rattle.std.proofs.lemmas.Grind.{common_steps}
use Rattle.token.specs.Refusal.{outcome}
use Rattle.token.specs.declared.error.Error.{Error}
use Rattle.poller.specs.Meaning.{Answer}
use Rattle.sys.specs.World.{world_of}
use Rattle.sys.proofs.Plain.{exchanged_then}
use Rattle.loop_handle.specs.State.{loop_of}
use Rattle.post_action.specs.declared.PostAction.TheVariants.{Continue}
use Rattle.sheet.specs.declared.Verdict.TheVariants.{Delivered}
use Rattle.std.specs.Result.{result_map_both}
use Rattle.model.specs.Dispatch.{Settled, fate_of}
use Rattle.model.proofs.Parts.{turn_made}
use Rattle.turns.proofs.Aside.{others_untouched}
use Rattle.turns.proofs.Fates.{own_first, turned_as}
use Rattle.turns.proofs.inner.LoopInner.turn.Goals as goal

pub returns-clause-is : goal.returns-clause-is
returns-clause-is g c =
    let before = c.args.self.now.handle in
    let processed = c.process_events-answer in
    let acted = c.act-acted in
    let settled = c.settle-fate in
    let e = processed.ensures in
    let a = acted.ensures.is in
    let b = settled.ensures.is in
    let l = loop_of before (world_of g.P.Poller before.registry.poll) in
    let went : Settled g.row.S.Denot = record { slots = settled.new.sources; lifecycle = settled.new.registry.lifecycle; world = world_of g.P.Poller settled.new.registry.poll } in
    let fate : c.map.result ≡ result_map_both (λ u. Delivered) (λ f. f) c.and.result = grind (arith, common_steps) in
    let cleared : c.replace-pending.new.dest ≡ Continue = grind (arith, common_steps) in
    let end = ap (λ p. record l { slots = went.slots; lifecycle = went.lifecycle; world = went.world; pending = p }) (sym cleared) in (
      e.0 ++ (a.0 ++ b.0),
      exchanged_then g.P.Poller g.C.Clock e.1 (exchanged_then g.P.Poller g.C.Clock a.1 b.1),
      turn_made g.S.EventSource l c.args.event c.forget_sub_id-token.result c.take_out-source.result processed.new.self
          (world_of g.P.Poller processed.new.poll) (outcome processed.result) c.clear.new.self processed.new.errands c.decide-action.result c.take_out-source.new.self (outcome c.and.result) e.0 a.0 b.0
          (record { answer = outcome acted.result; source = acted.new.source; slots = acted.new.sources; lifecycle = acted.new.registry.lifecycle; world = world_of g.P.Poller acted.new.registry.poll })
          went _ (grind (arith, common_steps)) (grind (arith, common_steps)) (grind (arith, common_steps)) e.2 (grind (arith, common_steps)) (grind (arith, common_steps)) a.2 (subst (λ (r : Result (Unit {0}) Error). ◌≡◌ {A = Answer} (outcome r) (fate_of (outcome processed.result) (outcome acted.result))) (sym c.and.ensures) (own_first processed.result acted.result)) b.2
          (turned_as l c.and.result processed.new.errands went c.map.result _ _ fate end refl),
    )

pub returns-clause-leaves : goal.returns-clause-leaves
returns-clause-leaves g c =
    let e = returns-clause-is g c in
    others_untouched g.P.Poller g.S.EventSource (record { registering = g.met.S.EventSource.registering; reregistering = g.met.S.EventSource.reregistering; unregistering = g.met.S.EventSource.unregistering; leaving = g.met.S.EventSource.leaving; processing = g.met.S.EventSource.processing; sleeping = g.met.S.EventSource.sleeping; seeing = g.met.S.EventSource.seeing }) c.args.self.now.handle _ c.args.event _ c.args.self.now.calm e.0 e.2
