-- The rule of the files: nothing done, one call after another, and one file changed.
use Rattle.std.proofs.Common.{◌≡◌, ℕ, true, ◌⊎◌, List, [], ◌∷◌, Some, None, Option, inr, arith}
use Rattle.std.specs.Prelude.{nat_eq}
use Rattle.std.specs.List.{IsDistinct}
use Rattle.std.proofs.lemmas.Bool.{cases_eq}
use Rattle.std.proofs.lemmas.Grind.{common_steps}
use Rattle.poller.specs.declared.entry.Entry.{Entry}
use Rattle.poller.specs.Register.{entry_of}
use Rattle.sys.specs.Laws.{In, Untouched}
use Rattle.rules.specs.Meaning.{Held}
use Rattle.rules.specs.Files.{Files, Keeps, Sound, Stood}
use Rattle.rules.specs.OneFile.{own_files, under}

among_or_not : (f : ℕ) (o : List ℕ) → In f o ⊎ (In f o → ⊥)
among_or_not f [] = inr (λ m. m)
among_or_not f (x ∷ o) = grind (arith, common_steps, among_or_not f o)

pub keeps_same : (D : ℕ → Type 0) (h : List Held) (o : List ℕ) (es es' : List Entry) → es' ≡ es → Keeps D h o es h o es'
keeps_same D h o es es' eq sound = grind (arith, common_steps, λ (f : ℕ). among_or_not f o)

pub keeps_weaker : (D F : ℕ → Type 0) (h h' : List Held) (o o' : List ℕ) (es es' : List Entry) → ((k : ℕ) → D k → F k) → Keeps D h o es h' o' es' → Keeps F h o es h' o' es'
keeps_weaker D F h h' o o' es es' df one sound =
    let r : Files D h o es h' o' es' = one sound in
    grind (arith, common_steps, df)

pub keeps_then : (D E F : ℕ → Type 0) (h h' h'' : List Held) (o o' o'' : List ℕ) (es es' es'' : List Entry)
    → ((k : ℕ) → D k → F k) → ((k : ℕ) → E k → F k)
    → Keeps D h o es h' o' es' → Keeps E h' o' es' h'' o'' es'' → Keeps F h o es h'' o'' es''
keeps_then D E F h h' h'' o o' o'' es es' es'' df ef one two sound =
    let r : Files D h o es h' o' es' = one sound in
    let s : Files E h' o' es' h'' o'' es'' = two r.sound in
    grind (arith, common_steps, λ (f : ℕ). among_or_not f o, df, ef)

-- A SOURCE WITH ONE FILE

lone_once : (f : ℕ) (k : Option ℕ) → IsDistinct nat_eq (own_files f k)
unfolding IsDistinct
lone_once f None = tt
lone_once f (Some k) = (tt, tt)

-- what is known of the file's entry `now` after a call: under the key `k'` where there is one, else stuck
pub record Placed (D : ℕ → Type 0) (f : ℕ) (k k' : Option ℕ) (es : List Entry) (now : Option Entry) : Type 0 where
  pub mine : In f (own_files f k) ⊎ (entry_of f es ≡ None)
  pub under_key : (n : ℕ) → k' ≡ Some n → (e : Entry) × (now ≡ Some e) × (e.key ≡ n)
  pub held_or_stuck : (e : Entry) → now ≡ Some e → (k' ≡ Some e.key) ⊎ (e.stuck ≡ true)
  pub from : (e : Entry) → now ≡ Some e → Stood es f e.key ⊎ D e.key

module _ (D : ℕ → Type 0) (f : ℕ) (k k' : Option ℕ) (es es' : List Entry) where
  pub keeps_placed : Untouched f es es' → (Sound (under f k) (own_files f k) es → Placed D f k k' es (entry_of f es'))
      → Keeps D (under f k) (own_files f k) es (under f k') (own_files f k') es'
  keeps_placed there facts sound =
      let w = facts sound in
      grind (arith, common_steps, λ (g : ℕ). cases_eq g f, there, lone_once f k')
