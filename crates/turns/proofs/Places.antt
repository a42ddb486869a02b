-- What stands in a list.
use Rattle.std.proofs.Common.{List, [], ◌∷◌, arith, inl, inr, length, refl, slice_index_or, suc, zero, ℕ, ◌<◌}
use Rattle.std.proofs.lemmas.Grind.{common_steps}
use Rattle.sys.specs.Laws.{In}

-- what stands at a place of a list is in it
pub in_at : {X : Type 0} (xs : List X) (i : ℕ) (d : X) → i < length xs → In (slice_index_or xs i d) xs
in_at [] i d l = grind (arith, common_steps)
in_at (x ∷ xs) zero d l = inl refl
in_at (x ∷ xs) (suc i) d l = inr (in_at xs i d (omega (arith, l)))
