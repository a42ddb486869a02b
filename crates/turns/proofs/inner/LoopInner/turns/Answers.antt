use Rattle.std.proofs.Common.{◌≡◌, ◌+◌, ◌++◌, ◌∙◌, [], ◌∷◌, ap, drop, false, refl, slice_index_or, subst, sym, arith}
use Rattle.std.proofs.lemmas.Grind.{common_steps}
use Rattle.std.proofs.lemmas.List.{append-nil, drop_more}
use Rattle.token.specs.Refusal.{code_of, done, number_of, refused}
use Rattle.poller.specs.Meaning.{Answer}
use Rattle.sys.specs.World.{world_of}
use Rattle.sys.specs.declared.event.Class.TheVariants.{Synthetic}
use Rattle.sys.specs.declared.event.PollEvent.{PollEvent}
use Rattle.sys.proofs.Plain.{exchanged_then}
use Rattle.sheet.specs.Printed.{line_of}
use Rattle.model.specs.Course.{Takes}
use Rattle.model.specs.Dispatch.{lost, turns_of, with_lost}
use Rattle.model.proofs.Parts.{turned_last, turned_one}
use Rattle.turns.specs.Turns.{turn_as, turns_as}
use Rattle.turns.proofs.Fates.{with_turn_is}
use Rattle.turns.proofs.inner.LoopInner.turns.Goals as goal

-- an event that stands for a place past the end
abbrev none : PollEvent
none = record { class = Synthetic; readiness = record { readable = false; writable = false; error = false }; token = record { id = 0; version = 0; sub_id = 0 } }

pub returns-in-Err-clause-is : goal.returns-in-Err-clause-is
returns-in-Err-clause-is g c =
    let kind = g.S.EventSource in
    let inv = c.loop-i.invariant in
    let t = c.turn-turn.ensures.is in
    let e = slice_index_or c.args.events.now c.loop-i.i none in
    let later = drop (c.loop-i.i + 1) c.args.events.now in
    let before = c.loop-i.self in
    let after = c.turn-turn.new.self in
    let w = world_of g.P.Poller after.handle.registry.poll in
    let a = turns_as (done tt) before (world_of g.P.Poller before.handle.registry.poll) c.loop-i.sheet.items.items in
    let u = turn_as c.turn-turn.result after w in
    let fault = c.in-Err.error in
    let o = turns_as (refused (number_of fault) (code_of fault)) after w c.lose.new.sheet.items.items in
    let stops : u.answer ≡ refused (number_of fault) (code_of fault) = grind (arith, common_steps) in
    let line = a.sheet ++ line_of c.unwrap_or-verdict.result e ∷ [] in
    let lines : line ++ lost later ≡ c.lose.new.sheet.items.items = grind (arith, common_steps) in
    let leaves = ap (λ b. with_lost b later) (with_turn_is a e c.turn-turn.result c.unwrap_or-verdict.result after w c.unwrap_or-verdict.ensures)
    ∙ subst (λ r. turns_as r after w (line ++ lost later) ≡ o) (sym stops) (ap (turns_as (refused (number_of fault) (code_of fault)) after w) lines) in
    let last = turned_last kind a e later t.0 u o t.2 (number_of fault) (code_of fault) stops leaves in
    (inv.1 ++ t.0, exchanged_then g.P.Poller g.C.Clock inv.2 t.1, inv.3 t.0 o (rw (drop_more c.args.events.now c.loop-i.i none c.loop-i-test.true) last))

pub loop-i-preserved : goal.loop-i-preserved
loop-i-preserved g c =
    let kind = g.S.EventSource in
    let inv = c.loop-i.invariant in
    let t = c.turn-turn.ensures.is in
    let events = c.args.events.now in
    let e = slice_index_or events c.loop-i.i none in
    let later = drop (c.loop-i.i + 1) events in
    let before = c.loop-i.self in
    let after = c.turn-turn.new.self in
    let w = world_of g.P.Poller after.handle.registry.poll in
    let begin = turns_as (done tt) c.args.self.now (world_of g.P.Poller c.args.self.now.handle.registry.poll) c.args.sheet.now.items.items in
    let a = turns_as (done tt) before (world_of g.P.Poller before.handle.registry.poll) c.loop-i.sheet.items.items in
    let u = turn_as c.turn-turn.result after w in
    let fine : u.answer ≡ done tt = grind (arith, common_steps) in
    let line : c.push_reserved.new.self.items ≡ a.sheet ++ line_of c.unwrap_or-verdict.result e ∷ [] = grind (arith, common_steps) in
    let next = with_turn_is a e c.turn-turn.result c.unwrap_or-verdict.result after w c.unwrap_or-verdict.ensures
    ∙ subst (λ (r : Answer). turns_as r after w (a.sheet ++ line_of c.unwrap_or-verdict.result e ∷ []) ≡ turns_as (done tt) after w c.push_reserved.new.self.items) (sym fine) (ap (turns_as (done tt) after w) (sym line)) in (
      grind (arith, common_steps),
      inv.1 ++ t.0,
      exchanged_then g.P.Poller g.C.Clock inv.2 t.1,
      λ ys o k.
          let one = turned_one kind a e later t.0 u o t.2 ys fine (subst (λ b. Takes kind (turns_of kind later b) ys o) (sym next) k) in
          let whole = inv.3 (t.0 ++ ys) o (rw (drop_more events c.loop-i.i none c.loop-i-test.true) one) in
          let same : inv.1 ++ (t.0 ++ ys) ≡ (inv.1 ++ t.0) ++ ys = grind (arith, common_steps) in
          subst (λ zs. Takes kind (turns_of kind events begin) zs o) same whole,
    )

pub returns-clause-is : goal.returns-clause-is
returns-clause-is g c =
    let kind = g.S.EventSource in
    let inv = c.loop-i.invariant in
    let begin = turns_as (done tt) c.args.self.now (world_of g.P.Poller c.args.self.now.handle.registry.poll) c.args.sheet.now.items.items in
    let o = turns_as (done tt) c.loop-i.self (world_of g.P.Poller c.loop-i.self.handle.registry.poll) c.loop-i.sheet.items.items in
    let none_left : drop c.loop-i.i c.args.events.now ≡ [] = grind (arith, common_steps) in
    let end : Takes kind (turns_of kind (drop c.loop-i.i c.args.events.now) o) [] o = rw none_left (refl, refl) in
    (inv.1, inv.2, subst (λ zs. Takes kind (turns_of kind c.args.events.now begin) zs o) (append-nil inv.1) (inv.3 [] o end))
