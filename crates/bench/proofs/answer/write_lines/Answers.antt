use Rattle.std.proofs.Common.{◌++◌, codes}
use Rattle.sheet.specs.Printed.{line_text}
use Rattle.bench.proofs.Written.{cut_at, cut_off}
use Rattle.bench.proofs.answer.write_lines.Goals as goal

pub returns-in_err-write_line : goal.returns-in_err-write_line
returns-in_err-write_line c =
    let cut = cut_at (λ line. codes " " ++ line_text line) c.loop-line.line-index _ _ c.loop-line-test.true _ _ _ c.loop-line.invariant c.in_err-write_line.ensures in
    cut_off _ _ _ _ c.from_residual.ensures.0 cut
