use Rattle.std.proofs.Common.{◌++◌, inl, refl}
use Rattle.token.specs.Refusal.{outcome}
use Rattle.model.specs.Order.{given_out}
use Rattle.event_loop.specs.State.{handle_of}
use Rattle.bench.specs.Answer.{insert_text}
use Rattle.bench.specs.Calls.{accepted, enable_refused}
use Rattle.bench.specs.Handlers.{nth_token}
use Rattle.bench.proofs.answer.perform.Goals as goal

-- WHAT A LINE COMES TO

pub returns-in_ok-insert-in-Some-Timer-clause-is : goal.returns-in_ok-insert-in-Some-Timer-clause-is
returns-in_ok-insert-in-Some-Timer-clause-is c =
    let arm = c.in-Some-Timer in
    let made = c.in_ok-insert-in-Some-Timer in
    rw (arm.is, arm.field-0-is) (inl (insert_text made.field-0, (made.field-0, rw c.from_deadline-timer.ensures at made.ensures.is, refl), c.write_insert.ensures))

pub returns-in_ok-insert-in-Some-Generic-clause-is : goal.returns-in_ok-insert-in-Some-Generic-clause-is
returns-in_ok-insert-in-Some-Generic-clause-is c =
    let arm = c.in-Some-Generic in
    let made = c.in_ok-insert-in-Some-Generic in
    rw (arm.is, arm.field-0-is) (inl (insert_text made.field-0, (made.field-0, rw c.new-generic.ensures at made.ensures.is, refl), c.write_insert-in-Some-Generic.ensures))

-- ORDER

pub returns-in_err-insert-in-Some-Timer-clause-order : goal.returns-in_err-insert-in-Some-Timer-clause-order
returns-in_err-insert-in-Some-Timer-clause-order c = λ o. rw c.in_err-insert-in-Some-Timer.ensures.full.same o

pub returns-in_err-insert-in-Some-Generic-clause-order : goal.returns-in_err-insert-in-Some-Generic-clause-order
returns-in_err-insert-in-Some-Generic-clause-order c = λ o. rw c.in_err-insert-in-Some-Generic.ensures.full.same o

-- a new source is free
pub returns-in_ok-insert-in-Some-Timer-clause-order : goal.returns-in_ok-insert-in-Some-Timer-clause-order
returns-in_ok-insert-in-Some-Timer-clause-order c = λ o.
    (o.0 ++ given_out (handle_of c.args.bench.now.event_loop).sources, o.1, c.in_ok-insert-in-Some-Timer.ensures.order o.0 o.1 o.2 (rw c.from_deadline-timer.ensures (record { held = refl; entered = refl; counters = refl })))

pub returns-in_ok-insert-in-Some-Generic-clause-order : goal.returns-in_ok-insert-in-Some-Generic-clause-order
returns-in_ok-insert-in-Some-Generic-clause-order c = λ o.
    (o.0 ++ given_out (handle_of c.args.bench.now.event_loop).sources, o.1, c.in_ok-insert-in-Some-Generic.ensures.order o.0 o.1 o.2 (rw c.new-generic.ensures (record { held = refl; entered = refl; counters = refl })))

pub returns-in-Some-Enable-clause-order : goal.returns-in-Some-Enable-clause-order
returns-in-Some-Enable-clause-order c = λ o.
    let refused = enable_refused (nth_token (accepted c.args.bench.now) c.in-Some-Enable.n) (outcome c.enable.result) in
    (o.0, o.1 ++ refused, c.enable.ensures.order o.0 o.1 o.2)

pub returns-in-Some-Update-clause-order : goal.returns-in-Some-Update-clause-order
returns-in-Some-Update-clause-order c = λ o. (o.0, o.1, c.update.ensures.order o.0 o.1 o.2)

pub returns-in-Some-Disable-clause-order : goal.returns-in-Some-Disable-clause-order
returns-in-Some-Disable-clause-order c = λ o. (o.0, o.1, c.disable.ensures.order o.0 o.1 o.2)

pub returns-in-Some-Remove-clause-order : goal.returns-in-Some-Remove-clause-order
returns-in-Some-Remove-clause-order c = λ o. (o.0, o.1, c.remove.ensures.order o.0 o.1 o.2)

pub returns-in-Some-Wait-clause-order : goal.returns-in-Some-Wait-clause-order
returns-in-Some-Wait-clause-order c = λ o. (o.0, o.1, c.dispatch-answer.ensures.order o.0 o.1 o.2)
