use Rattle.std.proofs.Common.{count_by, length, refl}
use Rattle.bench.proofs.Written.{cut_first, written_then}
use Rattle.replay.specs.Report.{counts_text, differences_text, differs}
use Rattle.replay.proofs.report.write_report.Goals as goal

pub returns-in_err-write_differences : goal.returns-in_err-write_differences
returns-in_err-write_differences c =
    let xs = c.args.answered.now in
    cut_first (differences_text xs) (counts_text c.args.scripts (length xs) (count_by differs xs)) _ _ _ _ refl c.from_residual.ensures.0 c.in_err-write_differences.ensures

pub returns : goal.returns
returns c =
    let xs = c.args.answered.now in
    let counts = rw c.count_differences-differences.ensures at c.write_counts.ensures in
    written_then (differences_text xs) (counts_text c.args.scripts (length xs) (count_by differs xs)) _ _ _ _ _ refl c.in_ok-write_differences.ensures counts
