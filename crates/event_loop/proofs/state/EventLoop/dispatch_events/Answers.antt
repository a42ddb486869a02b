use Rattle.std.proofs.Common.{◌≡◌, ◌∙◌, [], refl, subst, sym, arith}
use Rattle.std.proofs.lemmas.Grind.{common_steps}
use Rattle.token.specs.Refusal.{code_of, done, number_of, outcome, refused}
use Rattle.poller.specs.Meaning.{Answer}
use Rattle.sys.specs.World.{Between}
use Rattle.loop_handle.specs.State.{loop_of}
use Rattle.model.specs.Course.{Takes}
use Rattle.model.specs.Dispatch.{dispatch_of, hooked_by, unhandled, waits_by}
use Rattle.event_loop.specs.State.{left_by}
use Rattle.event_loop.proofs.Dispatching.{hooks_then}
use Rattle.event_loop.proofs.state.EventLoop.dispatch_events.Goals as goal

-- a hook answered a fault
pub returns-in_err-before_sleep : goal.returns-in_err-before_sleep
returns-in_err-before_sleep g c =
    let kind = g.S.EventSource in
    let before = c.args.self.now.inner.handle in
    let start = c.now-start.new.self in
    let after = c.before_sleep.new.self in
    let q = c.args.self.now.synthetic_events.items.items in
    let queue = c.before_sleep.new.queue.items.items in
    let n = number_of c.in_err-before_sleep.field-0.0 in
    let code = code_of c.in_err-before_sleep.field-0.0 in
    let fault : ◌≡◌ {A = Answer} (outcome c.before_sleep.result) (refused n code) = grind (arith, common_steps) in
    let answered : ◌≡◌ {A = Answer} (outcome c.from_residual.result) (refused n code) = grind (arith, common_steps) in
    let none_asked : after.errands ≡ [] = c.before_sleep.ensures.errands ∙ c.clear-3.ensures in
    let ends : Between g.P.Poller g.C.Clock start start (λ w xs w'. Takes kind (waits_by kind (outcome c.before_sleep.result) c.args.timeout c.now-start.result (record (loop_of before w) { slots = after.handle.sources }) queue) xs (unhandled (refused n code) (record (loop_of before w') { slots = after.handle.sources }) queue [] [])) =
    ([], record { asked = (refl, refl) }, rw fault (refl, refl)) in
    let run = hooks_then g.P.Poller g.C.Clock kind c.args.timeout before q c.now-start.result start (hooked_by (outcome c.before_sleep.result) after.handle.sources queue) c.now-start.ensures.plain c.before_sleep.ensures.is
    start (λ w. unhandled (refused n code) (record (loop_of before w) { slots = after.handle.sources }) queue [] []) ends in
    let there = subst (λ h. Between g.P.Poller g.C.Clock before.registry.poll h.registry.poll (λ w xs w'. Takes kind (dispatch_of kind c.args.timeout (loop_of before w) q) xs (unhandled (refused n code) (loop_of h w') queue [] []))) (sym c.before_sleep.ensures.same) run in
    rw (answered, none_asked, c.clear-2.ensures.items, c.clear.ensures.items) there

pub returns : goal.returns
returns g c =
    let kind = g.S.EventSource in
    let before = c.args.self.now.inner.handle in
    let after = c.before_sleep.new.self.handle in
    let q = c.args.self.now.synthetic_events.items.items in
    let queue = c.before_sleep.new.queue.items.items in
    let end = c.wait_and_hand_out.new.self in
    let fine : ◌≡◌ {A = Answer} (outcome c.before_sleep.result) (done tt) = grind (arith, common_steps) in
    let on = subst (λ h. Between g.P.Poller g.C.Clock h.registry.poll end.inner.handle.registry.poll (λ w xs w'. Takes kind (waits_by kind (done tt) c.args.timeout c.now-start.result (loop_of h w) queue) xs (left_by end (outcome c.wait_and_hand_out.result) w'))) c.before_sleep.ensures.same c.wait_and_hand_out.ensures in
    hooks_then g.P.Poller g.C.Clock kind c.args.timeout before q c.now-start.result c.now-start.new.self (hooked_by (outcome c.before_sleep.result) after.sources queue) c.now-start.ensures.plain c.before_sleep.ensures.is
    end.inner.handle.registry.poll (λ w. left_by end (outcome c.wait_and_hand_out.result) w)
    (subst (λ (r : Answer). Between g.P.Poller g.C.Clock c.now-start.new.self end.inner.handle.registry.poll (λ w xs w'. Takes kind (waits_by kind r c.args.timeout c.now-start.result (record (loop_of before w) { slots = after.sources }) queue) xs (left_by end (outcome c.wait_and_hand_out.result) w'))) (sym fine) on)
