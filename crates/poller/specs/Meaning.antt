-- What each call of a poller does to its entries.
use Rattle.std.specs.Prelude.{◌≡◌, ℕ, Bool, true, if◌then◌else◌, ◌⊎◌, List, [], ◌∷◌, ◌++◌, map, length, is_some, Some, None, Ok, Err, Result, nat_eq, nat_lt}
use Rattle.std.specs.List.{AllZip, IsDistinct, list_any}
use Rattle.token.specs.Refusal.{Outcome, done, refused, refusal}
use Rattle.poller.specs.declared.entry.Entry.{Entry}
use Rattle.poller.specs.declared.entry.Event.{Event}
use Rattle.poller.specs.declared.entry.Mode.{Mode}
use Rattle.poller.specs.declared.entry.Mode.TheVariants.{OneShot}
use Rattle.poller.specs.declared.entry.Request.{Request}
use Rattle.poller.specs.Register.{entry_of, holds, changed, removed, fresh, renewed, marked, disarmed}

abbrev pub Answer : Type 0
Answer = Outcome (Unit {0})

-- what is left to a poller past the checks of add, modify and delete: it works, or fails with a code
abbrev pub Fate : Type 0
Fate = Result (Unit {0}) ℕ

abbrev pub grown : List Entry → Request → Fate → Answer × List Entry
grown es q (Ok u) = (done tt, es ++ fresh q ∷ [])
grown es q (Err c) = (refused 14 (Some c), es)

-- add: Exists exactly if the file is held, else PollerFull exactly if `m` entries stand
abbrev pub add_of : ℕ → List Entry → Request → Fate → Answer × List Entry
add_of m es q fate = if holds q.file es then (refusal 11, es) else if nat_lt (length es) m then grown es q fate else (refusal 13, es)

abbrev pub altered : List Entry → Request → Fate → Answer × List Entry
altered es q (Ok u) = (done tt, changed q.file (renewed q) es)
altered es q (Err c) = (refused 14 (Some c), es)

-- modify: NotFound exactly if the file is not held
abbrev pub modify_of : List Entry → Request → Fate → Answer × List Entry
modify_of es q fate = if holds q.file es then altered es q fate else (refusal 12, es)

abbrev pub lessened : List Entry → ℕ → Fate → Answer × List Entry
lessened es f (Ok u) = (done tt, removed f es)
lessened es f (Err c) = (refused 14 (Some c), changed f marked es)

-- delete: NotFound exactly if the file is not held; a failed one marks its entry stuck
abbrev pub delete_of : List Entry → ℕ → Fate → Answer × List Entry
delete_of es f fate = if holds f es then lessened es f fate else (refusal 12, es)

-- a call's answer, and the poller that is left with these entries
abbrev pub leaving : {V : Type 0} → (List Entry → V) → Answer × List Entry → Answer × V
leaving left o = (o.0, left o.1)

-- the call came out as the definition says, for one fate
abbrev pub By : (Fate → Answer × List Entry) → Answer → List Entry → Type 0
By of r es = (fate : Fate) × ((r, es) ≡ of fate)

-- a wait reports the file f by the event v: its entry is armed, and v has its key and only sides that it wants
pub record Tells (es : List Entry) (f : ℕ) (v : Event) : Type 0 where
  pub entry : Entry
  pub stands : entry_of f es ≡ Some entry
  pub armed : entry.armed ≡ true
  pub key : v.key ≡ entry.key
  pub reads : v.readable ≡ true → entry.interest.readable ≡ true
  pub writes : v.writable ≡ true → entry.interest.writable ≡ true

-- a test and no proposition, as `In` of `sys` is, since `told` computes by it
abbrev pub among : ℕ → List ℕ → Bool
among f = list_any (nat_eq f)

abbrev pub once_told : Entry → Mode → Entry
once_told e OneShot = disarmed e
once_told e m = e

-- a reported one-shot entry is disarmed, and nothing else changes
abbrev pub told : List ℕ → Entry → Entry
told fs e = if among e.file fs then once_told e e.mode else e

-- the events of a wait: at most one for each armed entry
pub record Reported (es : List Entry) (vs : List Event) (es' : List Entry) : Type 0 where
  pub files : List ℕ
  pub apart : IsDistinct nat_eq files
  pub tell : AllZip (Tells es) files vs
  pub after : es' ≡ map (told files) es

-- wait: events, or Interrupted or PollerFailed with none and the entries as before
abbrev pub Waited : List Entry → Answer → List Event → List Entry → Type 0
Waited es (done u) vs es' = Reported es vs es'
Waited es (refused n c) vs es' = (vs ≡ []) × (es' ≡ es) × (((n ≡ 15) × (c ≡ None)) ⊎ ((n ≡ 14) × (is_some c ≡ true)))
