use Rattle.std.proofs.Common.{take}
use Rattle.std.specs.List.{flat_map}
use Rattle.bench.specs.Written.{Appended}
use Rattle.bench.proofs.text.push_all.Given as goal

abbrev pub invariant-loop-piece : goal.invariant-loop-piece
invariant-loop-piece l = Appended (flat_map (λ piece. piece.now) (take l.piece-index l.pieces)) l.initial.out l.out
