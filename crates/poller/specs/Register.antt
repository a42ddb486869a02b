-- A poller's entries, as a list with distinct files.
use Rattle.std.specs.Prelude.{ℕ, ◌≤◌, Bool, true, false, if◌then◌else◌, not, List, map, length, is_some, filter, find, Option, ◌==◌, ◌≢◌}
use Rattle.std.specs.List.{AllPairs}
use Rattle.poller.specs.declared.entry.Entry.{Entry}
use Rattle.poller.specs.declared.entry.Request.{Request}

-- the file's entry
abbrev pub entry_of : ℕ → List Entry → Option Entry
entry_of f es = find (λ e. e.file == f) es

abbrev pub holds : ℕ → List Entry → Bool
holds f es = is_some (entry_of f es)

-- no two entries have one file
abbrev pub Distinct : List Entry → Type 0
Distinct es = AllPairs (λ (d e : Entry). d.file ≢ e.file) es

-- what every poller's entries are, at the most `m` of them
pub record Sound (m : ℕ) (es : List Entry) : Type 0 where
  pub apart : Distinct es
  pub some : 1 ≤ m
  pub most : m ≤ 256
  pub room : length es ≤ m

-- the file's entry is changed in its place, and all others stay
abbrev pub changed : ℕ → (Entry → Entry) → List Entry → List Entry
changed f g es = map (λ (e : Entry). if e.file == f then g e else e) es

-- the file's entry goes, and all others stay
abbrev pub removed : ℕ → List Entry → List Entry
removed f es = filter (λ (e : Entry). not (e.file == f)) es

-- a newcomer is armed and not stuck
abbrev pub fresh : Request → Entry
fresh q = record { file = q.file; key = q.key; interest = q.interest; mode = q.mode; armed = true; stuck = false }

-- key, interest and mode are replaced, and the entry is armed; stuck stays what it was
abbrev pub renewed : Request → Entry → Entry
renewed q e = record e { key = q.key; interest = q.interest; mode = q.mode; armed = true }

abbrev pub marked : Entry → Entry
marked e = record e { stuck = true }

abbrev pub disarmed : Entry → Entry
disarmed e = record e { armed = false }
