use Rattle.std.proofs.Common.{◌≡◌, ◌++◌, subst, sym, arith}
use Rattle.std.proofs.lemmas.Grind.{common_steps}
use Rattle.token.specs.Refusal.{code_of, done, number_of, outcome, refused}
use Rattle.poller.specs.Meaning.{Answer}
use Rattle.sys.specs.World.{Between}
use Rattle.loop_handle.specs.State.{loop_of}
use Rattle.model.specs.Course.{Takes}
use Rattle.model.specs.Dispatch.{handled, hands_out, lost, no_turns, turns_of}
use Rattle.turns.specs.Turns.{turns_as}
use Rattle.event_loop.proofs.Handing.{stopped, whole}
use Rattle.event_loop.proofs.dispatch.hand_out.Goals as goal

pub returns-in-Err-clause-is : goal.returns-in-Err-clause-is
returns-in-Err-clause-is g c =
    let kind = g.S.EventSource in
    let before = c.args.inner.now.handle in
    let middle = c.turns-answer.new.self in
    let sheet = c.turns-answer.new.sheet.items.items in
    let q = c.args.synthetic_events.now.items.items in
    let es = c.args.reported.now in
    let first = subst (λ h. Between g.P.Poller g.C.Clock h.registry.poll middle.handle.registry.poll (λ w xs w'. Takes kind (turns_of kind q (no_turns (loop_of h w))) xs (turns_as (outcome c.turns-answer.result) middle w' sheet))) c.before_handle_events.ensures.same
    (rw (c.requires.sheet, c.as_slice.ensures.value, c.before_handle_events.ensures.errands, c.requires.errands) at c.turns-answer.ensures.is) in
    let n = number_of c.in-Err.error in
    let code = code_of c.in-Err.error in
    let fault : ◌≡◌ {A = Answer} (outcome c.turns-answer.result) (refused n code) = grind (arith, common_steps) in
    let run = stopped g.P.Poller g.C.Clock kind before middle.handle.registry.poll c.before_handle_events.new.self.handle.sources q es (λ w. turns_as (outcome c.turns-answer.result) middle w sheet) c.before_handle_events.ensures.is first n code (λ w. fault) in
    subst (λ ls. Between g.P.Poller g.C.Clock before.registry.poll middle.handle.registry.poll (λ w xs w'. Takes kind (hands_out kind q es (loop_of before w)) xs (handled es (turns_as (refused n code) middle w' ls)))) (sym c.lose.ensures)
    (subst (λ r. Between g.P.Poller g.C.Clock before.registry.poll middle.handle.registry.poll (λ w xs w'. Takes kind (hands_out kind q es (loop_of before w)) xs (handled es (turns_as r middle w' (sheet ++ lost es))))) fault run)

pub returns-clause-is : goal.returns-clause-is
returns-clause-is g c =
    let kind = g.S.EventSource in
    let before = c.args.inner.now.handle in
    let middle = c.turns-answer.new.self in
    let after = c.turns.new.self in
    let sheet = c.turns-answer.new.sheet.items.items in
    let lines = c.turns.new.sheet.items.items in
    let q = c.args.synthetic_events.now.items.items in
    let es = c.args.reported.now in
    let first = subst (λ h. Between g.P.Poller g.C.Clock h.registry.poll middle.handle.registry.poll (λ w xs w'. Takes kind (turns_of kind q (no_turns (loop_of h w))) xs (turns_as (outcome c.turns-answer.result) middle w' sheet))) c.before_handle_events.ensures.same
    (rw (c.requires.sheet, c.as_slice.ensures.value, c.before_handle_events.ensures.errands, c.requires.errands) at c.turns-answer.ensures.is) in
    let fine : ◌≡◌ {A = Answer} (outcome c.turns-answer.result) (done tt) = grind (arith, common_steps) in
    let next = subst (λ r. Between g.P.Poller g.C.Clock middle.handle.registry.poll after.handle.registry.poll (λ w xs w'. Takes kind (turns_of kind es (turns_as r middle w sheet)) xs (turns_as (outcome c.turns.result) after w' lines))) (sym fine) c.turns.ensures.is in
    whole g.P.Poller g.C.Clock kind before middle.handle.registry.poll c.before_handle_events.new.self.handle.sources q es (λ w. turns_as (outcome c.turns-answer.result) middle w sheet) c.before_handle_events.ensures.is first
    after.handle.registry.poll (λ w. turns_as (outcome c.turns.result) after w lines) (λ w. fine) next
