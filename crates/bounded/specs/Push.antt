-- What a push on a list with room for n items comes to.
use Rattle.std.specs.Prelude.{ℕ, if◌then◌else◌, List, [], ◌∷◌, ◌++◌, length, nat_le, Result, Ok, Err}

-- the item stands behind the others; a full list stays as it was and hands the item back
abbrev pub push_of : {T : Type 0} → ℕ → T → List T → Result (Unit {0}) T × List T
push_of n x xs = if nat_le n (length xs) then (Err x, xs) else (Ok tt, xs ++ x ∷ [])
