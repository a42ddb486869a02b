use Rattle.std.proofs.Common.{◌≡◌, List, [], ◌∷◌, ◌++◌, ◌∙◌, ap, refl, reverse, subst, arith}
use Rattle.std.proofs.lemmas.Grind.{common_steps}
use Rattle.std.proofs.lemmas.List.{append-nil, reverse-append}
use Rattle.list.specs.declared.slots.Slot.{Slot}
use Rattle.sys.specs.World.{world_of}
use Rattle.sys.proofs.Plain.{exchanged_then}
use Rattle.model.specs.Course.{Takes}
use Rattle.model.proofs.Course.{takes_then}
use Rattle.event_loop.specs.End.{vacates, vacates_all}
use Rattle.event_loop.proofs.dispatch.let_all_go.Goals as goal

pub loop-slot-preserved : goal.loop-slot-preserved
loop-slot-preserved g c =
    let kind = g.S.EventSource in
    let inv = c.loop-slot.invariant in
    let v = c.vacate.ensures in
    let rest = c.take_last.new.self in
    let before = world_of g.P.Poller c.loop-slot.poll in
    let after = world_of g.P.Poller c.vacate.new.poll in
    let was : ◌≡◌ {A = List (Slot g.row.S.Denot)} c.loop-slot.sources (rest ++ c.in-Some.slot ∷ []) = grind (arith, common_steps) in
    let split = ap reverse was ∙ reverse-append rest (c.in-Some.slot ∷ []) in (
      inv.0 ++ v.0,
      exchanged_then g.P.Poller g.C.Clock inv.1 v.1,
      λ ys w k.
          let one : Takes kind (vacates_all (reverse c.loop-slot.sources) before) (v.0 ++ ys) w = rw split (takes_then kind (vacates_all (reverse rest)) ys w (vacates c.in-Some.slot.place before) v.0 after v.2 k) in
          let same : inv.0 ++ (v.0 ++ ys) ≡ (inv.0 ++ v.0) ++ ys = grind (arith, common_steps) in
          subst (λ zs. Takes kind (vacates_all (reverse c.args.sources.now) (world_of g.P.Poller c.args.poll.now)) zs w) same (inv.2 (v.0 ++ ys) w one),
    )

pub returns-clause-is : goal.returns-clause-is
returns-clause-is g c =
    let kind = g.S.EventSource in
    let inv = c.loop-slot.invariant in
    let now = world_of g.P.Poller c.loop-slot.poll in
    let none : ◌≡◌ {A = List (Slot g.row.S.Denot)} c.loop-slot.sources [] = grind (arith, common_steps) in
    let end : Takes kind (vacates_all (reverse c.loop-slot.sources) now) [] now = rw none (refl, refl) in
    (inv.0, inv.1, subst (λ zs. Takes kind (vacates_all (reverse c.args.sources.now) (world_of g.P.Poller c.args.poll.now)) zs now) (append-nil inv.0) (inv.2 [] now end))
