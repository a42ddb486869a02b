use Rattle.std.proofs.Common.{◌≡◌, ◌-◌, ◌++◌, ◌∙◌, [], None, Some, suc, true, ap, refl, subst, sym, arith}
use Rattle.std.proofs.lemmas.Grind.{common_steps}
use Rattle.token.specs.Refusal.{code_of, done, number_of, outcome, refused}
use Rattle.poller.specs.Meaning.{Answer}
use Rattle.sys.specs.World.{Between, world_of}
use Rattle.sys.proofs.Plain.{exchanged_then}
use Rattle.loop_handle.specs.State.{loop_of}
use Rattle.model.specs.Course.{Takes}
use Rattle.model.specs.Dispatch.{handled, hands_out, lost, timeout_by, unhandled, waits_by}
use Rattle.model.specs.Retries.{Again, Retries, interrupted, remaining_of}
use Rattle.model.proofs.Parts.{waited_again, waited_out}
use Rattle.model.proofs.Waits.{interrupted_quiet}
use Rattle.turns.specs.Turns.{turns_as}
use Rattle.event_loop.proofs.Dispatching.{wait_last, wait_then}
use Rattle.event_loop.proofs.state.EventLoop.wait_and_hand_out.Goals as goal
use Rattle.event_loop.proofs.state.EventLoop.wait_and_hand_out.Goals.{then-retries-eq0, else-retries-eq0}

pub loop-poll-init : goal.loop-poll-init
loop-poll-init g c =
    let t = timeout_by c.args.self.now.synthetic_events.items.items c.args.timeout in
    let begin = world_of g.P.Poller c.args.self.now.inner.handle.registry.poll in
    (c.timeout_with-timeout.ensures, λ none. none, refl, [], record { asked = (refl, refl) }, λ ys r es w k. subst (λ left. Retries 63 t c.args.start left begin ys r es w) c.timeout_with-timeout.ensures k)

-- a fault, or the last interruption
pub returns-in-Err : goal.returns-in-Err
returns-in-Err g c =
    let kind = g.S.EventSource in
    let before = c.args.self.now.inner.handle in
    let errands = c.args.self.now.inner.errands in
    let q = c.args.self.now.synthetic_events.items.items in
    let t = timeout_by q c.args.timeout in
    let start = c.args.start in
    let inv = c.loop-poll.invariant in
    let p = c.poll.ensures.plain in
    let es = c.poll.new.events.items.items in
    let lines = c.lose.new.sheet.items.items in
    let n = number_of c.in-Err.error in
    let code = code_of c.in-Err.error in
    let last : interrupted (outcome c.poll.result) ≡ true → c.loop-poll.retries ≡ 0 = λ is. elim c.if-retries-eq0.branch [
      | then-retries-eq0 w ↦ grind (arith, common_steps)
      | else-retries-eq0 w ↦ grind (arith, common_steps)
    ] in
    let answered : ◌≡◌ {A = Answer} (outcome c.poll.result) (refused n code) = ap outcome c.in-Err.is in
    let waited : Between g.P.Poller g.C.Clock before.registry.poll c.poll.new.self (λ w xs w'. Retries 63 t start t w xs (Some (refused n code)) es w') = (
      inv.3 ++ p.0,
      exchanged_then g.P.Poller g.C.Clock inv.4 p.1,
      subst (λ (r : Answer). Retries 63 t start t (world_of g.P.Poller before.registry.poll) (inv.3 ++ p.0) (Some r) es (world_of g.P.Poller c.poll.new.self)) answered
          (inv.5 p.0 _ _ _ (waited_out t start c.loop-poll.left _ _ p.0 (outcome c.poll.result) _ p.2 c.loop-poll.retries (interrupted (outcome c.poll.result)) refl last)),
    ) in
    let none : errands ≡ [] = c.requires.errands in
    let listed : lines ≡ lost es = grind (arith, common_steps, inv.2) in
    wait_last g.P.Poller g.C.Clock kind c.args.timeout before q start c.poll.new.self (Some (refused n code)) es waited (λ w. record (unhandled (refused n code) (loop_of before w) q es lines) { errands = errands })
    (λ w. (refl, rw (none, listed) refl))

-- A WAIT THAT IS MADE AGAIN, with what is left of the timeout
pub loop-poll-preserved-in-Some-remaining : goal.loop-poll-preserved-in-Some-remaining
loop-poll-preserved-in-Some-remaining g c =
    let inv = c.loop-poll.invariant in
    let p = c.poll.ensures.plain in
    let n = c.now.ensures.plain in
    let m = c.loop-poll.retries - 1 in
    let t = timeout_by c.args.self.now.synthetic_events.items.items c.args.timeout in
    let start = c.args.start in
    let v = world_of g.P.Poller c.poll.new.self in
    let is : interrupted (outcome c.poll.result) ≡ true = grind (arith, common_steps) in
    let left : remaining_of c.in-Some.given start c.now.result ≡ Some c.in-Some-remaining.time = grind (arith, common_steps) in
    let one : suc m ≡ c.loop-poll.retries = grind (arith, common_steps) in
    let given : t ≡ Some c.in-Some.given = sym inv.0 ∙ c.in-Some.is in (
      sym given,
      λ no. grind (arith, common_steps),
      inv.2,
      inv.3 ++ (p.0 ++ n.0),
      exchanged_then g.P.Poller g.C.Clock inv.4 (exchanged_then g.P.Poller g.C.Clock p.1 n.1),
      λ ys r es w k.
          let on : Retries m t start (Some c.in-Some-remaining.time) v ys r es w = subst (λ u. Retries m t start (Some c.in-Some-remaining.time) u ys r es w) n.2.1 k in
          let again : Again (Some c.in-Some.given) start (Retries m t start) v (n.0 ++ ys) r es w = (c.now.result, ys, ap (λ zs. zs ++ ys) n.2.0, rw left on) in
          let all = waited_again t start c.loop-poll.left _ v p.0 (outcome c.poll.result) _ p.2 m (n.0 ++ ys) r es w is (subst (λ u. Again u start (Retries m t start) v (n.0 ++ ys) r es w) (sym given) again) in
          let whole = inv.5 (p.0 ++ (n.0 ++ ys)) r es w (subst (λ k. Retries k t start c.loop-poll.left (world_of g.P.Poller c.loop-poll.poll) (p.0 ++ (n.0 ++ ys)) r es w) one all) in
          let same : inv.3 ++ (p.0 ++ (n.0 ++ ys)) ≡ (inv.3 ++ (p.0 ++ n.0)) ++ ys = grind (arith, common_steps) in
          subst (λ zs. Retries 63 t start t (world_of g.P.Poller c.args.self.now.inner.handle.registry.poll) zs r es w) same whole,
    )

-- no time is left
pub returns-in-None : goal.returns-in-None
returns-in-None g c =
    let kind = g.S.EventSource in
    let before = c.args.self.now.inner.handle in
    let errands = c.args.self.now.inner.errands in
    let q = c.args.self.now.synthetic_events.items.items in
    let t = timeout_by q c.args.timeout in
    let start = c.args.start in
    let inv = c.loop-poll.invariant in
    let p = c.poll.ensures.plain in
    let n = c.now.ensures.plain in
    let m = c.loop-poll.retries - 1 in
    let v = world_of g.P.Poller c.poll.new.self in
    let es = c.poll.new.events.items.items in
    let after = world_of g.P.Poller c.now.new.self in
    let is : interrupted (outcome c.poll.result) ≡ true = grind (arith, common_steps) in
    let none : es ≡ [] = (interrupted_quiet c.loop-poll.left (world_of g.P.Poller c.loop-poll.poll) p.0 (outcome c.poll.result) es v p.2 is).0 in
    let out : remaining_of c.in-Some.given start c.now.result ≡ None = grind (arith, common_steps) in
    let one : suc m ≡ c.loop-poll.retries = grind (arith, common_steps) in
    let given : t ≡ Some c.in-Some.given = sym inv.0 ∙ c.in-Some.is in
    let quiet : Again (Some c.in-Some.given) start (Retries m t start) v n.0 None es after = (c.now.result, [], n.2.0, rw out (refl, refl, none, n.2.1)) in
    let all = waited_again t start c.loop-poll.left _ v p.0 (outcome c.poll.result) _ p.2 m n.0 None es after is (subst (λ u. Again u start (Retries m t start) v n.0 None es after) (sym given) quiet) in
    let whole = inv.5 (p.0 ++ n.0) None es after (subst (λ k. Retries k t start c.loop-poll.left (world_of g.P.Poller c.loop-poll.poll) (p.0 ++ n.0) None es after) one all) in
    let waited : Between g.P.Poller g.C.Clock before.registry.poll c.now.new.self (λ w xs w'. Retries 63 t start t w xs None es w') = (
      inv.3 ++ (p.0 ++ n.0),
      exchanged_then g.P.Poller g.C.Clock inv.4 (exchanged_then g.P.Poller g.C.Clock p.1 n.1),
      whole,
    ) in
    let none_asked : errands ≡ [] = c.requires.errands in
    let none_listed : c.loop-poll.sheet.items.items ≡ [] = rw inv.2 c.requires.sheet in
    wait_last g.P.Poller g.C.Clock kind c.args.timeout before q start c.now.new.self None es waited (λ w. record (unhandled (done tt) (loop_of before w) q es c.loop-poll.sheet.items.items) { errands = errands })
    (λ w. (refl, rw (none_asked, none_listed) refl))

pub loop-poll-preserved : goal.loop-poll-preserved
loop-poll-preserved g c =
    let inv = c.loop-poll.invariant in
    let p = c.poll.ensures.plain in
    let m = c.loop-poll.retries - 1 in
    let t = timeout_by c.args.self.now.synthetic_events.items.items c.args.timeout in
    let start = c.args.start in
    let v = world_of g.P.Poller c.poll.new.self in
    let is : interrupted (outcome c.poll.result) ≡ true = grind (arith, common_steps) in
    let one : suc m ≡ c.loop-poll.retries = grind (arith, common_steps) in
    let none : t ≡ None = sym inv.0 ∙ c.in_default.is in (
      inv.0,
      inv.1,
      inv.2,
      inv.3 ++ p.0,
      exchanged_then g.P.Poller g.C.Clock inv.4 p.1,
      λ ys r es w k.
          let on : Retries m t start None v ys r es w = subst (λ l. Retries m t start l v ys r es w) (inv.1 c.in_default.is) k in
          let all = waited_again t start c.loop-poll.left _ v p.0 (outcome c.poll.result) _ p.2 m ys r es w is (subst (λ u. Again u start (Retries m t start) v ys r es w) (sym none) on) in
          let whole = inv.5 (p.0 ++ ys) r es w (subst (λ k. Retries k t start c.loop-poll.left (world_of g.P.Poller c.loop-poll.poll) (p.0 ++ ys) r es w) one all) in
          let same : inv.3 ++ (p.0 ++ ys) ≡ (inv.3 ++ p.0) ++ ys = grind (arith, common_steps) in
          subst (λ zs. Retries 63 t start t (world_of g.P.Poller c.args.self.now.inner.handle.registry.poll) zs r es w) same whole,
    )

-- EVENTS, which are handed out
pub returns : goal.returns
returns g c =
    let kind = g.S.EventSource in
    let before = c.args.self.now.inner.handle in
    let q = c.args.self.now.synthetic_events.items.items in
    let t = timeout_by q c.args.timeout in
    let start = c.args.start in
    let inv = c.loop-poll.invariant in
    let p = c.poll.ensures.plain in
    let es = c.poll.new.events.items.items in
    let end = c.hand_out.new in
    let fine : ◌≡◌ {A = Answer} (outcome c.poll.result) (done tt) = ap outcome c.in-Ok.is in
    let whole : interrupted (outcome c.poll.result) ≡ true → c.loop-poll.retries ≡ 0 = λ is. grind (arith, common_steps) in
    let waited : Between g.P.Poller g.C.Clock before.registry.poll c.poll.new.self (λ w xs w'. Retries 63 t start t w xs (Some (done tt)) es w') = (
      inv.3 ++ p.0,
      exchanged_then g.P.Poller g.C.Clock inv.4 p.1,
      subst (λ (r : Answer). Retries 63 t start t (world_of g.P.Poller before.registry.poll) (inv.3 ++ p.0) (Some r) es (world_of g.P.Poller c.poll.new.self)) fine
          (inv.5 p.0 _ _ _ (waited_out t start c.loop-poll.left _ _ p.0 (outcome c.poll.result) _ p.2 c.loop-poll.retries (interrupted (outcome c.poll.result)) refl whole)),
    ) in
    let handed = subst (λ vs. Between g.P.Poller g.C.Clock c.poll.new.self end.inner.handle.registry.poll (λ w xs w'. Takes kind (hands_out kind q vs (loop_of before w)) xs (handled vs (turns_as (outcome c.hand_out.result) end.inner w' end.sheet.items.items)))) c.as_slice-reported.ensures.value c.hand_out.ensures.is in
    subst (λ rest. Between g.P.Poller g.C.Clock before.registry.poll end.inner.handle.registry.poll (λ w xs w'. Takes kind (waits_by kind (done tt) c.args.timeout start (loop_of before w) q) xs (record (handled es (turns_as (outcome c.hand_out.result) end.inner w' end.sheet.items.items)) { waiting = rest }))) (sym c.hand_out.ensures.none)
    (wait_then g.P.Poller g.C.Clock kind c.args.timeout before q start c.poll.new.self (Some (done tt)) es waited end.inner.handle.registry.poll (λ w. handled es (turns_as (outcome c.hand_out.result) end.inner w end.sheet.items.items)) handed)
