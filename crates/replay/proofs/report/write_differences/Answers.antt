use Rattle.std.proofs.Common.{subst}
use Rattle.bench.specs.Written.{Cut}
use Rattle.bench.proofs.Written.{cut_at, cut_off}
use Rattle.replay.specs.Report.{difference_text}
use Rattle.replay.proofs.report.write_differences.Goals as goal

pub returns-in_err-write_difference : goal.returns-in_err-write_difference
returns-in_err-write_difference c =
    let line = c.line-item.result in
    let cut = subst (λ x. Cut (difference_text x) c.loop-line.out c.write_difference.new.out) c.line-item.is c.in_err-write_difference.ensures in
    cut_off _ _ _ _ c.from_residual.ensures.0 (cut_at difference_text c.loop-line.line-index _ line c.loop-line-test.true _ _ _ c.loop-line.invariant cut)
