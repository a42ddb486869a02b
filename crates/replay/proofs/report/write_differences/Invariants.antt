use Rattle.std.proofs.Common.{take}
use Rattle.bench.specs.Written.{Appended}
use Rattle.replay.specs.Report.{differences_text}
use Rattle.replay.proofs.report.write_differences.Given as goal

abbrev pub invariant-loop-line : goal.invariant-loop-line
invariant-loop-line l = Appended (differences_text (take l.line-index l.answered)) l.initial.out l.out
