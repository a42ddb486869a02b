use Rattle.std.proofs.Common.{◌≡◌, ◌∙◌, ◌+◌, [], ◌∷◌, ◌++◌, None, Option, Some, false, true, rules, drop, nat_le, length, refl, slice_index_or, subst, arith}
use Rattle.std.proofs.lemmas.Grind.{common_steps}
use Rattle.std.proofs.lemmas.List.{drop_more}
use Rattle.sys.specs.Laws.{In}
use Rattle.token.specs.Refusal.{Outcome, code_of, done, number_of, outcome, refusal, refused}
use Rattle.token.specs.declared.token.Token.{Token}
use Rattle.poller.specs.declared.entry.Readiness.{Readiness}
use Rattle.list.specs.Slots.{placed}
use Rattle.list.specs.declared.slots.Place.TheVariants.{Occupied}
use Rattle.model.specs.Course.{Takes}
use Rattle.model.specs.Dispatch.{Hooked, asks_hooks, hooked_by, queued, synthetic}
use Rattle.model.proofs.Parts.{one_asked}
use Rattle.turns.proofs.Places.{in_at}
use Rattle.turns.proofs.inner.LoopInner.before_sleep.Goals as goal
use Rattle.turns.proofs.inner.LoopInner.before_sleep.Goals.{in-Some, in_default}

pub ask-requires-clause-fits : goal.ask-requires-clause-fits
ask-requires-clause-fits g c =
    let items = c.as_slice-token-items.result.now in
    let token = slice_index_or items c.loop-token.token-index (record { id = 0; version = 0; sub_id = 0 }) in
    c.loop-token.invariant.1 token ∙ c.args.self.now.listed token (subst (In token) c.as_slice-token-items.ensures.is (in_at items c.loop-token.token-index _ c.loop-token-test.true))

pub returns-then-is_full-clause-is : goal.returns-then-is_full-clause-is
returns-then-is_full-clause-is g c =
    let kind = g.S.EventSource in
    let items = c.as_slice-token-items.result.now in
    let xs = c.loop-token.sources in
    let q = c.loop-token.queue.items.items in
    let split = drop_more items c.loop-token.token-index (record { id = 0; version = 0; sub_id = 0 }) c.loop-token-test.true in
    let o = hooked_by (refusal 19) xs q in
    let full : nat_le 128 (length q) ≡ true = grind (arith, common_steps) in
    let stops : Takes kind (asks_hooks (drop c.loop-token.token-index items) xs q) [] o = rw split (rw full (refl, refl)) in
    subst (λ ts. Takes kind (asks_hooks ts c.args.self.now.handle.sources c.args.queue.now.items.items) [] o) c.as_slice-token-items.ensures.is (c.loop-token.invariant.2 o stops)

pub returns-in_err-answer-clause-is : goal.returns-in_err-answer-clause-is
returns-in_err-answer-clause-is g c =
    let kind = g.S.EventSource in
    let items = c.as_slice-token-items.result.now in
    let xs = c.loop-token.sources in
    let q = c.loop-token.queue.items.items in
    let token = slice_index_or items c.loop-token.token-index (record { id = 0; version = 0; sub_id = 0 }) in
    let later = drop (c.loop-token.token-index + 1) items in
    let split = drop_more items c.loop-token.token-index (record { id = 0; version = 0; sub_id = 0 }) c.loop-token-test.true in
    let o = hooked_by (outcome c.from_residual.result) c.ask.new.sources q in
    let a = c.ask.ensures.asked in
    let room : nat_le 128 (length q) ≡ false = grind (arith, common_steps) in
    let asked : kind.sleeps a.0 (outcome c.ask.result) a.1 = search rules in
    let fault = c.in_err-answer.field-0.0 in
    let refuses : ◌≡◌ {A = Outcome (Option (Readiness × Token))} (outcome c.ask.result) (refused (number_of fault) (code_of fault)) = grind (arith, common_steps) in
    let stops : Takes kind (queued (outcome c.ask.result) (placed xs token.id (Occupied a.1)) q (asks_hooks later)) [] o = rw refuses (refl, grind (arith, common_steps)) in
    let rest : Takes kind (asks_hooks (drop c.loop-token.token-index items) xs q) [] o = rw split (one_asked kind token later xs q a.0 a.1 (outcome c.ask.result) [] o room a.2 asked stops) in
    subst (λ ts. Takes kind (asks_hooks ts c.args.self.now.handle.sources c.args.queue.now.items.items) [] o) c.as_slice-token-items.ensures.is (c.loop-token.invariant.2 o rest)

pub loop-token-preserved : goal.loop-token-preserved
loop-token-preserved g c =
    let kind = g.S.EventSource in
    let items = c.as_slice-token-items.result.now in
    let xs = c.loop-token.sources in
    let q = c.loop-token.queue.items.items in
    let token = slice_index_or items c.loop-token.token-index (record { id = 0; version = 0; sub_id = 0 }) in
    let later = drop (c.loop-token.token-index + 1) items in
    let split = drop_more items c.loop-token.token-index (record { id = 0; version = 0; sub_id = 0 }) c.loop-token-test.true in
    let a = c.ask.ensures.asked in
    let room : nat_le 128 (length q) ≡ false = grind (arith, common_steps) in
    let asked : kind.sleeps a.0 (outcome c.ask.result) a.1 = search rules in
    let on : (o : Hooked g.row.S.Denot) → Takes kind (asks_hooks later c.ask.new.sources c.match-answer.queue.items.items) [] o → Takes kind (queued (outcome c.ask.result) (placed xs token.id (Occupied a.1)) q (asks_hooks later)) [] o =
    λ o k. elim c.match-answer.branch [
      | in-Some w ↦
          let event : Readiness × Token = (w.in-Some.readiness, w.in-Some.token) in
          let answered : ◌≡◌ {A = Outcome (Option (Readiness × Token))} (outcome c.ask.result) (done (Some event)) = grind (arith, common_steps) in
          let joins : c.match-answer.queue.items.items ≡ q ++ synthetic event ∷ [] = grind (arith, common_steps) in
          rw answered (subst (λ ys. Takes kind (asks_hooks later ys (q ++ synthetic event ∷ [])) [] o) a.3 (subst (λ p. Takes kind (asks_hooks later c.ask.new.sources p) [] o) joins k))
      | in_default w ↦
          let answered : ◌≡◌ {A = Outcome (Option (Readiness × Token))} (outcome c.ask.result) (done None) = grind (arith, common_steps) in
          rw answered (subst (λ ys. Takes kind (asks_hooks later ys q) [] o) a.3 (subst (λ p. Takes kind (asks_hooks later c.ask.new.sources p.items.items) [] o) w.queue-is k))
    ] in
    (c.ask.ensures.calm, λ u. c.ask.ensures.fits u ∙ c.loop-token.invariant.1 u, λ o k. c.loop-token.invariant.2 o (rw split (one_asked kind token later xs q a.0 a.1 (outcome c.ask.result) [] o room a.2 asked (on o k))))
