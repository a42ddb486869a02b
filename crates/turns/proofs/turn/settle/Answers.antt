use Rattle.std.proofs.Common.{◌≡◌, ◌++◌, None, subst, sym, arith}
use Rattle.std.proofs.lemmas.Grind.{common_steps}
use Rattle.token.specs.Refusal.{outcome}
use Rattle.list.specs.Slots.{fitting}
use Rattle.sys.specs.Laws.{In}
use Rattle.sys.specs.World.{Between}
use Rattle.sys.proofs.Plain.{exchanged_then}
use Rattle.model.specs.Order.{ListedBut}
use Rattle.model.proofs.Order.{gone_listed}
use Rattle.model.proofs.Parts.{dismissed, let_go}
use Rattle.turns.proofs.Fates.{accepted, failed}
use Rattle.turns.proofs.turn.settle.Goals as goal
use Rattle.turns.proofs.turn.settle.Goals.{then-is_ok, else-is_ok}

pub returns-clause-listed : goal.returns-clause-listed
returns-clause-listed g c =
    let t = c.args.token in
    let xs = c.args.sources.now in
    let but : ListedBut t xs c.if-is_ok.registry.lifecycle = elim c.if-is_ok.branch [
      | then-is_ok w ↦ subst (λ r. ListedBut t xs r.lifecycle) (sym w.registry-is) c.requires.listed
      | else-is_ok w ↦ subst (λ r. ListedBut t xs r.lifecycle) (sym w.registry-is) c.requires.listed
    ] in
    λ u m. gone_listed t xs c.if-is_ok.registry.lifecycle but u (subst (In u) c.drop_all.ensures m)

pub returns-clause-is : goal.returns-clause-is
returns-clause-is g c =
    let kind = g.S.EventSource in
    let left = c.let_go.new in
    let out : fitting c.args.sources.now c.args.token ≡ None = grind (arith, common_steps) in
    elim c.if-is_ok.branch [
      | then-is_ok w ↦
          let went = w.unregister.new in
          let e = w.unregister.ensures in
          let k = subst (λ s. Between g.P.Poller g.C.Clock went.poll left.poll (λ v xs v'. kind.leaves s v xs left.self v')) w.source-is
          (subst (λ r. Between g.P.Poller g.C.Clock r.poll left.poll (λ v xs v'. kind.leaves c.if-is_ok.source v xs left.self v')) w.registry-is c.let_go.ensures) in
          let fate = accepted c.args.fate (grind (arith, common_steps)) in (
            e.0 ++ k.0,
            exchanged_then g.P.Poller g.C.Clock e.1 k.1,
            rw (out, fate) (dismissed kind c.args.token c.args.sources.now c.args.registry.now.lifecycle _ _ c.args.source went.self e.0 _ _ left.self k.0 (outcome w.unregister.result) e.2 k.2 c.end.ensures (grind (arith, common_steps))),
          )
      | else-is_ok w ↦
          let k = subst (λ s. Between g.P.Poller g.C.Clock c.args.registry.now.poll left.poll (λ v xs v'. kind.leaves s v xs left.self v')) w.source-is
          (subst (λ r. Between g.P.Poller g.C.Clock r.poll left.poll (λ v xs v'. kind.leaves c.if-is_ok.source v xs left.self v')) w.registry-is c.let_go.ensures) in
          let fate = failed c.args.fate (grind (arith, common_steps)) in
          (k.0, k.1, rw (out, fate.2) (let_go kind c.args.token c.args.sources.now c.args.registry.now.lifecycle _ _ c.args.source left.self k.0 _ fate.0 fate.1 k.2 c.end.ensures (grind (arith, common_steps))))
    ]
