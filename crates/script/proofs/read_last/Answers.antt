use Rattle.std.proofs.Common.{arith}
use Rattle.std.proofs.lemmas.Grind.{common_steps}
use Rattle.script.proofs.Lines.{last_no_bracket}
use Rattle.script.proofs.read_last.Goals as goal

-- nothing follows the number
pub returns-in_default : goal.returns-in_default
returns-in_default c =
    last_no_bracket c.args.text.now _ c.in_ok-read_number.field-0.1.now c.in_ok-read_number.ensures
    (λ e. grind (arith, common_steps))

-- another byte follows it, or more than one
pub returns-in_default-3 : goal.returns-in_default-3
returns-in_default-3 c =
    last_no_bracket c.args.text.now _ c.in_ok-read_number.field-0.1.now c.in_ok-read_number.ensures
    (λ e. grind (arith, common_steps))
