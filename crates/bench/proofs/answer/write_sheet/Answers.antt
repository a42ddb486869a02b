use Rattle.std.proofs.Common.{◌++◌, codes, refl}
use Rattle.bench.specs.Answer.{lines_text}
use Rattle.bench.proofs.Written.{appended_then, cut_first, written_then}
use Rattle.bench.proofs.answer.write_sheet.Goals as goal

pub returns-in_err-push_all : goal.returns-in_err-push_all
returns-in_err-push_all c = cut_first (codes "(sheet") (lines_text c.args.lines.now ++ codes ")") _ _ _ _ refl c.from_residual.ensures.0 c.in_err-push_all.ensures

pub returns : goal.returns
returns c =
    let begun = appended_then (codes "(sheet") (lines_text c.args.lines.now) _ _ _ _ refl c.in_ok-push_all.ensures c.in_ok-write_lines.ensures in
    written_then _ (codes ")") _ _ _ _ _ refl begun c.push_all-2.ensures
