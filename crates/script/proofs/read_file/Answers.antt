use Rattle.std.proofs.Common.{rules}
use Rattle.script.proofs.Reading.{refused_file}
use Rattle.script.proofs.read_file.Goals as goal

pub returns-in_err-file : goal.returns-in_err-file
returns-in_err-file c =
    rw c.from_residual-in_err-file.ensures
    (refused_file _ _ _ c.in_ok-number.ensures (search rules))
