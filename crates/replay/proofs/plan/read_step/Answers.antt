use Rattle.std.proofs.Common.{arith, rules}
use Rattle.std.proofs.lemmas.Grind.{common_steps}
use Rattle.replay.proofs.Steps.{large_number}
use Rattle.replay.proofs.plan.read_step.Goals as goal
use Rattle.replay.proofs.plan.read_step.Goals.{in_default-via-then-text-lt1, in_default-via-else-text-lt1+in_default-1}

pub returns-in_err-code-in_default : goal.returns-in_err-code-in_default
returns-in_err-code-in_default c =
    rw c.from_residual-in_err-code-in_default.ensures
    (large_number c.args.text.now
    (λ s e. elim c.in_default.branch [
      | in_default-via-then-text-lt1 w ↦ grind (arith, common_steps)
      | in_default-via-else-text-lt1+in_default-1 w ↦ grind (arith, common_steps)
    ])
    (λ s e. elim c.in_default.branch [
      | in_default-via-then-text-lt1 w ↦ grind (arith, common_steps)
      | in_default-via-else-text-lt1+in_default-1 w ↦ grind (arith, common_steps)
    ])
    _ _ c.in_ok-number-in_default.ensures (search rules))
