use Rattle.std.proofs.Common.{take}
use Rattle.bench.specs.Answer.{lines_text}
use Rattle.bench.specs.Written.{Appended}
use Rattle.bench.proofs.answer.write_lines.Given as goal

abbrev pub invariant-loop-line : goal.invariant-loop-line
invariant-loop-line l = Appended (lines_text (take l.line-index l.lines)) l.initial.out l.out
