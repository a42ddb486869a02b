use Rattle.std.proofs.Common.{rules}
use Rattle.script.proofs.Reading.{refused_form, refused_large, number_read}
use Rattle.script.proofs.read_number.Goals as goal

pub returns-in_err-number_of-in_default : goal.returns-in_err-number_of-in_default
returns-in_err-number_of-in_default c =
    rw c.from_residual.ensures (refused_large _ _ _ c.split_digits.ensures c.in_err-number_of-in_default.ensures)

pub returns-in_ok-number_of-in_default : goal.returns-in_ok-number_of-in_default
returns-in_ok-number_of-in_default c =
    number_read _ _ _ c.split_digits.ensures _ c.in_ok-number_of-in_default.ensures.1 c.in_ok-number_of-in_default.ensures.0 (search rules) (search rules)

pub returns-in-empty : goal.returns-in-empty
returns-in-empty c = refused_form _ _ _ c.split_digits.ensures (search rules)
