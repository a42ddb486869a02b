-- What a call of a source may do to the lines of the level table.
use Rattle.std.specs.Prelude.{ℕ, ◌⊎◌, List, Option}
use Rattle.levels.specs.declared.table.Line.{Line}
use Rattle.sys.specs.Laws.{In, Noted}

-- the table went from `ls` to `ls'`; `o` are the files that were the source's own
pub record LinesStay (Drew : ℕ → Type 0) (o : List ℕ) (ls ls' : Option (List Line)) : Type 0 where
  -- a line of a file that is not its own stays, but for one under a key that was drawn in this call
  pub stay : (l : Line) → Noted l ls → (In l.file o → ⊥) → (Drew l.key → ⊥) → Noted l ls'
  -- a line that joins is under a key that was drawn
  pub join : (l : Line) → Noted l ls' → Noted l ls ⊎ Drew l.key
