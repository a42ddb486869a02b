-- Room for a line of the level table.
use Rattle.std.proofs.Common.{◌≡◌, ℕ, ◌<◌, ◌≤◌, true, false, List, [], ◌∷◌, length, is_some, Some, Option, arith}
use Rattle.std.proofs.lemmas.Grind.{common_steps}
use Rattle.std.proofs.lemmas.List.Sums.{count_by-le-length, length-filter}
use Rattle.levels.specs.declared.table.Line.{Line}
use Rattle.levels.specs.Table.{dropped, line_of, full_for, stays}

pub dropped_le : (f : ℕ) (k : Option ℕ) (ls : List Line) → length (dropped f k ls) ≤ length ls
dropped_le f k ls = omega (arith, length-filter (stays f k) ls, count_by-le-length (stays f k) ls)

-- a drop of a key that has a line drops that line
pub dropped_lt : (f k : ℕ) (ls : List Line) → is_some (line_of k ls) ≡ true → length (dropped f (Some k) ls) < length ls
dropped_lt f k [] e = grind (arith, common_steps)
dropped_lt f k (l ∷ ls) e = grind (arith, common_steps, dropped_le f (Some k) ls, dropped_lt f k ls)

-- where the table is not full for the key, its line finds room once the old lines are gone
pub room : (f k : ℕ) (ls : List Line) → length ls ≤ 256 → full_for k ls ≡ false → length (dropped f (Some k) ls) < 256
room f k ls few e = grind (arith, common_steps, dropped_le f (Some k) ls, dropped_lt f k ls)
