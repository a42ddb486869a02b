-- What a wait reports of files that are readable.
use Rattle.std.specs.Prelude.{◌≡◌, ℕ, ◌<◌, Bool, true, false, ◌&&◌, List, map, length, get_or, Some, None, Option, slice_index_or}
use Rattle.std.specs.Option.{option_map, option_to_list}
use Rattle.std.specs.List.{flat_map}
use Rattle.poller.specs.declared.entry.Entry.{Entry}
use Rattle.poller.specs.declared.entry.Event.{Event}
use Rattle.token.specs.Refusal.{done}
use Rattle.poller.specs.Meaning.{Answer, among, once_told, told}
use Rattle.poller.specs.Register.{entry_of}

-- an entry that a wait may report: it stands, is armed and wants reads
abbrev pub ripe : Option Entry → Bool
ripe None = false
ripe (Some e) = e.armed && e.interest.readable

abbrev pub event_of : Entry → Event
event_of e = record { key = e.key; readable = true; writable = false }

-- the event of the file's entry
abbrev pub event_at : List Entry → ℕ → List Event
event_at es f = option_to_list (option_map event_of (entry_of f es))

-- one event for each file, in their order
abbrev pub events_of : List Entry → List ℕ → List Event
events_of es fs = flat_map (event_at es) fs

abbrev pub reported_once : Entry → Entry
reported_once e = once_told e e.mode

-- what a wait that reports these files comes to
abbrev pub reporting : {V : Type 0} → (List Entry → V) → List Entry → List ℕ → Answer × List Event × V
reporting left es fs = (done tt, events_of es fs, left (map (told fs) es))

-- in the midst of a wait: the entries `es` have come to `now`, with an event for each of the files
pub record Midst (es : List Entry) (fs : List ℕ) (now : List Entry) (vs : List Event) : Type 0 where
  pub entries : now ≡ map (told fs) es
  pub events : vs ≡ events_of es fs

-- the marks say which entries are among the files
pub record Marks (es : List Entry) (fs : List ℕ) (ms : List Bool) : Type 0 where
  pub each : (i : ℕ) (d : Entry) (b : Bool) → i < length es → slice_index_or ms i b ≡ among (get_or es i d).file fs
