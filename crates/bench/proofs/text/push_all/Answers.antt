use Rattle.bench.proofs.Written.{cut_at, cut_off, unwritten}
use Rattle.bench.proofs.text.push_all.Goals as goal

pub returns-in_err-push_str : goal.returns-in_err-push_str
returns-in_err-push_str c =
    let pushed = c.in_err-push_str.ensures in
    let cut = unwritten _ c.loop-piece.out c.push_str.new.self pushed.bytes pushed.full in
    cut_off _ _ _ _ c.from_residual.ensures.0 (cut_at (λ piece. piece.now) c.loop-piece.piece-index _ _ c.loop-piece-test.true _ _ _ c.loop-piece.invariant cut)
