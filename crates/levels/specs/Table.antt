-- The level table: at most 256 lines, each a key with its file and interest.
use Rattle.std.specs.Prelude.{ℕ, Bool, not, ◌&&◌, ◌||◌, List, [], ◌∷◌, ◌++◌, length, is_some, Some, None, filter, Option, ◌==◌, nat_le}
use Rattle.poller.specs.declared.entry.Mode.{Mode}
use Rattle.poller.specs.declared.entry.Mode.TheVariants.{Level}
use Rattle.std.specs.List.{find}
use Rattle.levels.specs.declared.table.Line.{Line}

-- a line of the file or, where one is given, of the key
abbrev pub hits : ℕ → Option ℕ → Line → Bool
hits f None l = l.file == f
hits f (Some k) l = l.file == f || l.key == k

abbrev pub stays : ℕ → Option ℕ → Line → Bool
stays f k l = not (hits f k l)

abbrev pub dropped : ℕ → Option ℕ → List Line → List Line
dropped f k ls = filter (stays f k) ls

-- the key's line
abbrev pub line_of : ℕ → List Line → Option Line
line_of k ls = find (λ (l : Line). l.key == k) ls

-- a line for a new key would find no room
abbrev pub full_for : ℕ → List Line → Bool
full_for k ls = nat_le 256 (length ls) && not (is_some (line_of k ls))

-- the lines after an accepted registration
abbrev pub entered : Line → Mode → List Line → List Line
entered l Level ls = dropped l.file (Some l.key) ls ++ l ∷ []
entered l m ls = dropped l.file (Some l.key) ls
