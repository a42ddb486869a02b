-- THE POLLER AND THE SOURCES SHARE ONE REGISTER.
use Rattle.std.specs.Prelude.{◌≡◌, ℕ, ◌<◌, true, if◌then◌else◌, ◌⊎◌, List, Some, None, Option, ◌==◌, ◌≢◌}
use Rattle.token.specs.declared.token.Token.{Token}
use Rattle.token.specs.Key.{same_source, token_of}
use Rattle.poller.specs.declared.entry.Entry.{Entry}
use Rattle.poller.specs.Register.{entry_of}
use Rattle.timer_wheel.specs.declared.timeout.TimeoutData.{TimeoutData}
use Rattle.timer_wheel.specs.Wheel.{Wheel}
use Rattle.sys.specs.Laws.{Consistent, In}
use Rattle.sys.specs.World.{World}
use Rattle.rules.specs.Files.{Sound, Stood}
use Rattle.rules.specs.Meaning.{Held, Meaning}
use Rattle.kinds.specs.declared.source.EventSource.{Ghosts as EventSourceOf}
use Rattle.list.specs.Slots.{slot_at, token_at}
use Rattle.list.specs.declared.slots.Place.{Place}
use Rattle.list.specs.declared.slots.Place.TheVariants.{Occupied}
use Rattle.list.specs.declared.slots.Slot.{Slot}

-- a source by its token and by what it means
pub record Owner : Type 0 where
  pub token : Token
  pub means : Meaning

-- the same source with another meaning
abbrev pub meaning : Owner → Meaning → Owner
meaning o m = record o { means = m }

-- the source in each slot, where one stands
abbrev pub Owners : Type 0
Owners = ℕ → Option Owner

-- slot i is given another source, or none, and all others stay
abbrev pub changed : Owners → ℕ → Option Owner → Owners
changed who i o = λ j. if j == i then o else who j

-- the key is one of the token's source
abbrev pub KeyOf : Token → ℕ → Type 0
KeyOf t k = same_source (token_of k) t ≡ true

-- the files of a source are as it says, and their entries have keys of its token
pub record OwnFiles (o : Owner) (es : List Entry) : Type 0 where
  pub sound : Sound o.means.held o.means.entered es
  pub keys : (f : ℕ) → In f o.means.entered → (e : Entry) → entry_of f es ≡ Some e → KeyOf o.token e.key

-- the file is a source's own
abbrev pub Owned : Owners → ℕ → Type 0
Owned who f = (i : ℕ) × (o : Owner) × (who i ≡ Some o) × In f o.means.entered

-- THE COUNTERS of timers: each was given out by the wheel, and none is two sources' own.
pub record OneWheel (who : Owners) (t : Wheel) : Type 0 where
  pub timers : (x : TimeoutData) → In x t.timers → x.counter < t.next
  pub given : (i : ℕ) (o : Owner) → who i ≡ Some o → (k : ℕ) → In k o.means.counters → k < t.next
  pub apart : (i j : ℕ) (o p : Owner) → who i ≡ Some o → who j ≡ Some p → (i ≢ j) → (k : ℕ) → In k o.means.counters → In k p.means.counters → ⊥

-- the files of the sources, and the poller's entries, one by one; and their timers
pub record OneRegister (who : Owners) (w : World) : Type 0 where
  pub files : (i : ℕ) (o : Owner) → who i ≡ Some o → OwnFiles o w.entries
  -- no file is two sources' own
  pub apart : (i j : ℕ) (o p : Owner) → who i ≡ Some o → who j ≡ Some p → (i ≢ j) → (f : ℕ) → In f o.means.entered → In f p.means.entered → ⊥
  -- an entry is a source's own, or stuck
  pub only : (f : ℕ) (e : Entry) → entry_of f w.entries ≡ Some e → Owned who f ⊎ (e.stuck ≡ true)
  -- the level table agrees with the poller
  pub level : Consistent w.entries w.lines
  pub wheel : OneWheel who w.wheel

-- a source holds the file under the key
abbrev pub HeldBy : Owners → ℕ → ℕ → Type 0
HeldBy who f k = (i : ℕ) × (o : Owner) × (who i ≡ Some o) × In (record { file = f; key = k }) o.means.held

-- what that says of files and keys
pub record Shared (who : Owners) (w : World) : Type 0 where
  -- each file that a source holds stands in the poller under a key of its token
  pub held : (i : ℕ) (o : Owner) → who i ≡ Some o → (x : Held) → In x o.means.held → Stood w.entries x.file x.key × KeyOf o.token x.key
  -- any other entry is stuck
  pub others : (f : ℕ) (e : Entry) → entry_of f w.entries ≡ Some e → HeldBy who f e.key ⊎ (e.stuck ≡ true)

-- THE SLOTS

-- the token of slot i at its version
abbrev pub token_in : {S : Type 0} → List (Slot S) → ℕ → Token
token_in xs i = token_at i (slot_at xs i).version

abbrev pub owner : {S : Type 0} → EventSourceOf S → Token → S → Owner
owner kind t s = record { token = t; means = kind.means s }

-- a source that is being handled is out of its slot
abbrev pub owner_in : {S : Type 0} → EventSourceOf S → Token → Place S → Option Owner
owner_in kind t (Occupied s) = Some (owner kind t s)
owner_in kind t p = None

-- the sources of the slots
abbrev pub owners : {S : Type 0} → EventSourceOf S → List (Slot S) → Owners
owners kind xs = λ i. owner_in kind (token_in xs i) (slot_at xs i).place

-- the number of the source in hand, whose event is being handled; slots are numbered below it
abbrev pub in_hand : ℕ
in_hand = 1024

-- the sources of the slots, and the one in hand, if there is one
abbrev pub holders : {S : Type 0} → EventSourceOf S → List (Slot S) → Option Owner → Owners
holders kind xs hand = changed (owners kind xs) in_hand hand
