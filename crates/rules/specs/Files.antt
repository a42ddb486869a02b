-- What a call of a source may do to the poller's entries.
use Rattle.std.specs.Prelude.{◌≡◌, ℕ, true, ◌⊎◌, List, Some, None, nat_eq}
use Rattle.std.specs.List.{IsDistinct}
use Rattle.poller.specs.declared.entry.Entry.{Entry}
use Rattle.poller.specs.Register.{entry_of}
use Rattle.sys.specs.Laws.{In}
use Rattle.rules.specs.Meaning.{Held}

-- the file stands under the key
abbrev pub Stood : List Entry → ℕ → ℕ → Type 0
Stood es f k = (e : Entry) × (entry_of f es ≡ Some e) × (e.key ≡ k)

-- the files of a source are as it says: `h` it holds, `o` are its own
pub record Sound (h : List Held) (o : List ℕ) (es : List Entry) : Type 0 where
  -- each file that it holds stands under its key
  pub stands : (x : Held) → In x h → Stood es x.file x.key
  pub own : (x : Held) → In x h → In x.file o
  -- each file of its own stands, and is held or stuck
  pub rest : (f : ℕ) → In f o → (e : Entry) × (entry_of f es ≡ Some e) × (In (record { file = f; key = e.key }) h ⊎ (e.stuck ≡ true))
  -- none is its own twice
  pub once : IsDistinct nat_eq o

-- A call took a source that held `h` over the entries `es` to one that holds `h'` over `es'`.
-- `Drew` says which keys the call's factory gave.
pub record Files (Drew : ℕ → Type 0) (h : List Held) (o : List ℕ) (es : List Entry) (h' : List Held) (o' : List ℕ) (es' : List Entry) : Type 0 where
  -- an entry under a file that is not its own stands as it did
  pub others : (f : ℕ) → (In f o → ⊥) → (e : Entry) → entry_of f es ≡ Some e → entry_of f es' ≡ Some e
  pub sound : Sound h' o' es'
  -- each entry stood as it does and is not its own, or is its own now, or is stuck
  pub only : (f : ℕ) (e : Entry) → entry_of f es' ≡ Some e → ((In f o → ⊥) × (entry_of f es ≡ Some e)) ⊎ (In f o' ⊎ (e.stuck ≡ true))
  -- an entry's key is the one that its file had, or was drawn in this call
  pub keys : (f : ℕ) (e : Entry) → entry_of f es' ≡ Some e → Stood es f e.key ⊎ Drew e.key
  -- nobody adopts an entry: a file that is its own now was so before, or had no entry
  pub fresh : (f : ℕ) → In f o' → In f o ⊎ (entry_of f es ≡ None)

-- the rule speaks of sources whose files are as they say
abbrev pub Keeps : (ℕ → Type 0) → List Held → List ℕ → List Entry → List Held → List ℕ → List Entry → Type 0
Keeps Drew h o es h' o' es' = Sound h o es → Files Drew h o es h' o' es'
