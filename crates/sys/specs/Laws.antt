-- What callers of the polling system may lean on, in place of the text of its calls.
use Rattle.std.specs.Prelude.{◌≡◌, ℕ, true, ◌⊎◌, List, [], ◌∷◌, map, Some, None, Option, ◌≢◌, IfSome}
use Rattle.std.specs.Option.{option_map}
use Rattle.poller.specs.declared.entry.Entry.{Entry}
use Rattle.poller.specs.declared.entry.Mode.TheVariants.{OneShot}
use Rattle.poller.specs.declared.poller.Poller.{Ghosts as PollerOf}
use Rattle.poller.specs.Register.{disarmed, entry_of}
use Rattle.levels.specs.declared.table.Line.{Line}
use Rattle.levels.specs.Table.{dropped, line_of}
use Rattle.token.specs.Key.{key_of}
use Rattle.sys.specs.declared.event.Class.TheVariants.{Polled}
use Rattle.sys.specs.declared.event.PollEvent.{PollEvent}
use Rattle.sys.specs.declared.poll.Poll.{Poll}

-- membership by cases, as proofs over a list go; the library's is by index
abbrev pub In : {X : Type 0} → X → List X → Type 0
In x [] = ⊥
In x (y ∷ ys) = (x ≡ y) ⊎ In x ys

-- the line and the entry of its file are one registration
pub record Agrees (l : Line) (e : Entry) : Type 0 where
  pub key : e.key ≡ l.key
  pub interest : e.interest ≡ l.interest
  pub mode : e.mode ≡ OneShot

-- THE LEVEL TABLE AGREES WITH THE POLLER: each line names a file that stands in the poller, by an entry that has the line's key
abbrev pub Consistent : List Entry → Option (List Line) → Type 0
Consistent es t = IfSome t (λ ls. (l : Line) → In l ls → (e : Entry) × (entry_of l.file es ≡ Some e) × Agrees l e)

-- the line stands in the table, where there is one
abbrev pub Noted : Line → Option (List Line) → Type 0
Noted l None = ⊥
Noted l (Some ls) = In l ls

-- entries under other files than f stand as they did
abbrev pub Untouched : ℕ → List Entry → List Entry → Type 0
Untouched f es es' = (g : ℕ) → (g ≢ f) → entry_of g es' ≡ entry_of g es

-- a registration of the file f under the key k, or, with no key, an unregistration or a letting go of it
pub record Touches (f : ℕ) (k : Option ℕ) (es : List Entry) (ls : Option (List Line)) (es' : List Entry) (ls' : Option (List Line)) : Type 0 where
  pub others : Untouched f es es'
  -- lines of other files and keys stay, in their order
  pub lines : option_map (dropped f k) ls' ≡ option_map (dropped f k) ls
  pub consistent : Consistent es ls → Consistent es' ls'

-- the same of one polling system and the next
abbrev pub TouchesFile : {P C : Type 0} → PollerOf P → ℕ → Option ℕ → Poll P C → Poll P C → Type 0
TouchesFile poller f k s s' = Touches f k (poller.entries s.poller) s.level_triggered (poller.entries s'.poller) s'.level_triggered

-- a wait changes nothing of the entries but which are armed, and the level table stays
pub record Wakeful (es : List Entry) (ls : Option (List Line)) (es' : List Entry) (ls' : Option (List Line)) : Type 0 where
  pub same : Consistent es ls → map disarmed es' ≡ map disarmed es
  pub consistent : Consistent es ls → Consistent es' ls'
  pub lines : ls' ≡ ls

-- each reported key that has a line is armed again: the entry of the line's file, if it stands, is armed
abbrev pub Rearmed : Option (List Line) → List PollEvent → List Entry → Type 0
Rearmed t vs es =
    IfSome t (λ ls. (v : PollEvent) → In v vs → v.class ≡ Polled → (l : Line) → line_of (key_of v.token) ls ≡ Some l
    → (e : Entry) → entry_of l.file es ≡ Some e → e.armed ≡ true)
