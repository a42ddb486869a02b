use Rattle.std.proofs.Common.{◌≡◌, ◌-◌, ◌∷◌, length, take, drop, arith}
use Rattle.std.proofs.lemmas.Grind.{common_steps}
use Rattle.script.proofs.Unique.{the_form}
use Rattle.script.proofs.Lines.{timer_no_deadline, timer_no_space, timer_no_period, timer_read}
use Rattle.script.proofs.read_timer.Goals as goal

pub returns-in_err-deadline : goal.returns-in_err-deadline
returns-in_err-deadline c = rw c.from_residual.ensures (timer_no_deadline c.args.text.now c.in_err-deadline.ensures)

pub returns-in_default : goal.returns-in_default
returns-in_default c =
    timer_no_space c.args.text.now _ c.in_ok-deadline.rest.now c.in_ok-deadline.ensures
    (λ s e. grind (arith, common_steps))

pub returns-in_err-period : goal.returns-in_err-period
returns-in_err-period c =
    let rest = c.in_ok-deadline.rest.now in
    let b : rest ≡ 32 ∷ take (length rest - 1) (drop 1 rest) = grind (arith, common_steps) in
    rw c.from_residual-in_err-period.ensures
    (timer_no_period c.args.text.now _ rest _ c.in_ok-deadline.ensures b c.in_err-period.ensures)

pub returns : goal.returns
returns c =
    let rest = c.in_ok-deadline.rest.now in
    let b : rest ≡ 32 ∷ take (length rest - 1) (drop 1 rest) = grind (arith, common_steps) in
    the_form _ _ (timer_read c.args.text.now _ rest _ _ c.in_ok-deadline.ensures b c.in_ok-period.ensures)
