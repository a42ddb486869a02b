-- The poller of a board's lines, over plain values.
use Rattle.std.specs.Prelude.{◌≡◌, ℕ, Bool, true, false, if◌then◌else◌, not, ◌&&◌, ◌||◌, List, Some, None, Ok, Err, filter, Option, ◌==◌, nat_lt}
use Rattle.std.specs.List.{range_with_len}
use Rattle.std.specs.Int.{bit_at}
use Rattle.poller.specs.declared.entry.Entry.{Entry}
use Rattle.poller.specs.declared.entry.Event.{Event}
use Rattle.poller.specs.declared.entry.Mode.{Mode}
use Rattle.poller.specs.declared.entry.Mode.TheVariants.{Edge}
use Rattle.poller.specs.declared.line.LinePoller.{LinePoller}
use Rattle.poller.specs.Meaning.{Answer, Fate, add_of, modify_of, delete_of, leaving}
use Rattle.poller.specs.Places.{entries_of}
use Rattle.poller.specs.declared.entry.Request.{Request}
use Rattle.poller.specs.Register.{entry_of}
use Rattle.poller.specs.Reports.{ripe, reporting}

pub record LineView : Type 0 where
  pub entries : List Entry
  -- the lines that are set, file f at bit f
  pub lines : ℕ
  -- those that have risen since the last wait
  pub risen : ℕ

-- a function and no model: the laws read the table's facts
abbrev pub line_of : LinePoller → LineView
line_of p = record { entries = entries_of p.table; lines = p.lines; risen = p.risen }

abbrev pub bit : ℕ → ℕ → Bool
bit n f = bit_at n f == 1

-- the lines are set: a line that was clear and is set now has risen
pub record LinesSet (v : LineView) (n : ℕ) (v' : LineView) : Type 0 where
  pub entries : v'.entries ≡ v.entries
  pub lines : v'.lines ≡ n
  pub risen : (f : ℕ) → bit v'.risen f ≡ (bit v.risen f || bit n f && not (bit v.lines f))

-- there is no line for a file above 63
abbrev pub line_fate : ℕ → Fate
line_fate f = if nat_lt f 64 then Ok tt else Err 9

-- a name, since `leaving` and `reporting` take the change as a function; one for each poller, since a change is of one
-- record's fields
abbrev pub with_entries : LineView → List Entry → LineView
with_entries v es = record v { entries = es }

abbrev pub line_add : LineView → Request → Answer × LineView
line_add v q = leaving (with_entries v) (add_of 64 v.entries q (line_fate q.file))

abbrev pub line_modify : LineView → Request → Answer × LineView
line_modify v q = leaving (with_entries v) (modify_of v.entries q (Ok tt))

abbrev pub line_delete : LineView → ℕ → Answer × LineView
line_delete v f = leaving (with_entries v) (delete_of v.entries f (Ok tt))

-- an Edge entry is reported only if its line has risen
abbrev pub awaited : Bool → Mode → Bool
awaited b Edge = b
awaited b m = true

abbrev pub awaited_at : Bool → Option Entry → Bool
awaited_at b None = false
awaited_at b (Some e) = awaited b e.mode

-- a wait reports the entry, by its line and whether that has risen
abbrev pub due_by : Bool → Bool → Option Entry → Bool
due_by set risen o = set && ripe o && awaited_at risen o

abbrev pub due : LineView → ℕ → Bool
due v f = due_by (bit v.lines f) (bit v.risen f) (entry_of f v.entries)

-- the numbers below n that pass, in rising order; unfoldable, since at 64 it would compute to each choice of them
unfoldable pub passing : (ℕ → Bool) → ℕ → List ℕ
passing p n = filter p (range_with_len 0 n)

abbrev pub line_wait : LineView → Answer × List Event × LineView
line_wait v = reporting (with_entries (record v { risen = 0 })) v.entries (passing (due v) 64)
