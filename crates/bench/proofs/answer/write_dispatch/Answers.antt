use Rattle.std.proofs.Common.{refl}
use Rattle.token.specs.Refusal.{outcome}
use Rattle.bench.specs.Answer.{sheet_text, stop_text}
use Rattle.bench.proofs.Written.{cut_first}
use Rattle.bench.proofs.answer.write_dispatch.Goals as goal

pub returns-in_err-write_sheet : goal.returns-in_err-write_sheet
returns-in_err-write_sheet c = cut_first (sheet_text c.args.lines.now) (stop_text (outcome c.args.answer)) _ _ _ _ refl c.from_residual.ensures.0 c.in_err-write_sheet.ensures
