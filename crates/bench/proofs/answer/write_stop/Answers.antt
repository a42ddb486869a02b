use Rattle.std.proofs.Common.{codes, refl}
use Rattle.token.specs.Refusal.{number_of}
use Rattle.bench.specs.Answer.{refusal_text}
use Rattle.bench.proofs.Written.{cut_first}
use Rattle.bench.proofs.answer.write_stop.Goals as goal

pub returns-in_err-push_all-in-Err : goal.returns-in_err-push_all-in-Err
returns-in_err-push_all-in-Err c =
    rw c.in-Err.is (cut_first (codes " ") (refusal_text (number_of c.in-Err.error)) _ _ _ _ refl c.from_residual.ensures.0 c.in_err-push_all-in-Err.ensures)
