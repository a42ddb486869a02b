-- What a change of the entries or of the lines leaves.
use Rattle.std.proofs.Common.{◌≡◌, ℕ, Bool, true, false, cond, get_or, filter, eqb, ◌⊎◌, List, [], ◌∷◌, ◌++◌, map, Some, None, refl, inr, arith}
use Rattle.std.specs.Option.{option_map}
use Rattle.std.proofs.lemmas.Grind.{common_steps}
use Rattle.std.proofs.lemmas.List.Folds.{find-append}
use Rattle.std.specs.List.{All}
use Rattle.std.proofs.lemmas.List.Elements.{All-head, All-tail}
use Rattle.poller.proofs.Standing.{entry_found, place_at}
use Rattle.poller.specs.declared.entry.Entry.{Entry}
use Rattle.poller.specs.Register.{Distinct, entry_of, holds, changed, disarmed, removed}
use Rattle.poller.specs.Meaning.{told}
use Rattle.levels.specs.declared.table.Line.{Line}
use Rattle.levels.specs.Table.{line_of}
use Rattle.sys.specs.Laws.{In}

-- ENTRIES

pub push_other : (g : ℕ) (es : List Entry) (x : Entry) → (g ≡ x.file → ⊥) → entry_of g (es ++ x ∷ []) ≡ entry_of g es
push_other g es x ne = grind (arith, common_steps, find-append (λ (e : Entry). eqb e.file g) es (x ∷ []))

pub push_here : (es : List Entry) (x : Entry) → holds x.file es ≡ false → entry_of x.file (es ++ x ∷ []) ≡ Some x
push_here es x h = grind (arith, common_steps, find-append (λ (e : Entry). eqb e.file x.file) es (x ∷ []))

-- a change that keeps the file
module _ (h : Entry → Entry) (keeps : (e : Entry) → (h e).file ≡ e.file) (f : ℕ) where
  pub changed_other : (g : ℕ) → (g ≡ f → ⊥) → (es : List Entry) → entry_of g (changed f h es) ≡ entry_of g es
  changed_other g ne [] = refl
  changed_other g ne (e ∷ es) = grind (arith, common_steps, keeps e, changed_other g ne es)

  pub changed_here : (es : List Entry) → entry_of f (changed f h es) ≡ option_map h (entry_of f es)
  changed_here [] = refl
  changed_here (e ∷ es) = grind (arith, common_steps, keeps e, changed_here es)

pub removed_other : (f g : ℕ) → (g ≡ f → ⊥) → (es : List Entry) → entry_of g (removed f es) ≡ entry_of g es
removed_other f g ne [] = refl
removed_other f g ne (e ∷ es) = grind (arith, common_steps, removed_other f g ne es)

pub removed_here : (f : ℕ) (es : List Entry) → entry_of f (removed f es) ≡ None
removed_here f [] = refl
removed_here f (e ∷ es) = grind (arith, common_steps, removed_here f es)

-- a change that keeps the files keeps them distinct
pub distinct_mapped : (h : Entry → Entry) → ((e : Entry) → (h e).file ≡ e.file) → (es : List Entry) → Distinct es → Distinct (map h es)
distinct_mapped h keeps es a = λ i j d k l. grind (arith, common_steps, a i j d, keeps)

-- ENTRIES BUT FOR WHETHER THEY ARE ARMED

abbrev pub Alike : List Entry → List Entry → Type 0
Alike es es' = map disarmed es' ≡ map disarmed es

disarmed_of : (g : ℕ) (es : List Entry) → entry_of g (map disarmed es) ≡ option_map disarmed (entry_of g es)
disarmed_of g [] = refl
disarmed_of g (e ∷ es) = grind (arith, common_steps, disarmed_of g es)

-- what stands among the one stands among the other
pub alike_at : (g : ℕ) (es es' : List Entry) (e' : Entry) → Alike es es' → entry_of g es' ≡ Some e' → (e : Entry) × (entry_of g es ≡ Some e) × (disarmed e' ≡ disarmed e)
alike_at g es es' e' same at = grind (arith, common_steps, disarmed_of g es, disarmed_of g es')

alike_map : (k : Entry → Entry) (es : List Entry) → All (λ (e : Entry). disarmed (k e) ≡ disarmed e) es → Alike es (map k es)
alike_map k [] a = refl
alike_map k (e ∷ es) a =
    let same = λ (x : Entry). disarmed (k x) ≡ disarmed x in
    grind (arith, All-head same e es a, alike_map k es (All-tail same e es a))

-- a wait disarms, and nothing else
pub told_alike : (fs : List ℕ) (es : List Entry) → Alike es (map (told fs) es)
told_alike fs es = alike_map (told fs) es (λ i x l. grind arith)

-- a change that only arms the file's entry, of which there is one
pub changed_alike : (h : Entry → Entry) (f : ℕ) (es : List Entry) → Distinct es → ((e : Entry) → entry_of f es ≡ Some e → disarmed (h e) ≡ disarmed e) → Alike es (changed f h es)
changed_alike h f es d arms =
    alike_map (λ (e : Entry). cond (eqb e.file f) (h e) e) es (λ i x l. grind (arith, place_at x es i d l, entry_found f x es i, arms (get_or es i x)))

-- LISTS

-- a filter after a wider one
pub kept_within : {X : Type 0} (p q : X → Bool) → ((x : X) → p x ≡ true → q x ≡ true) → (xs : List X) → filter p (filter q xs) ≡ filter p xs
kept_within p q h [] = refl
kept_within p q h (x ∷ xs) = grind (arith, common_steps, h x, kept_within p q h xs)

-- what a filter leaves was there, and passes
pub in_filter : {X : Type 0} (p : X → Bool) (xs : List X) (x : X) → In x (filter p xs) → In x xs × (p x ≡ true)
in_filter p [] x m = elim m [ ]
in_filter p (y ∷ ys) x m = grind (arith, common_steps, in_filter p ys x)

pub in_append : {X : Type 0} (x : X) (xs ys : List X) → In x (xs ++ ys) → In x xs ⊎ In x ys
in_append x [] ys h = inr h
in_append x (y ∷ xs) ys h = grind (arith, common_steps, in_append x xs ys)

pub in_front : {X : Type 0} (x : X) (xs ys : List X) → In x xs → In x (xs ++ ys)
in_front x [] ys h = elim h [ ]
in_front x (y ∷ xs) ys h = grind (arith, common_steps, in_front x xs ys)

pub in_back : {X : Type 0} (x : X) (xs ys : List X) → In x ys → In x (xs ++ ys)
in_back x [] ys h = h
in_back x (y ∷ xs) ys h = inr (in_back x xs ys h)

-- what stands there and passes is left by a filter
pub passes : {X : Type 0} (p : X → Bool) (xs : List X) (x : X) → In x xs → p x ≡ true → In x (filter p xs)
passes p [] x m e = elim m [ ]
passes p (y ∷ xs) x m e = grind (arith, common_steps, passes p xs x)

pub found_in : (k : ℕ) (ls : List Line) (l : Line) → line_of k ls ≡ Some l → In l ls
found_in k [] l e = cc
found_in k (x ∷ xs) l e = grind (arith, common_steps, found_in k xs l)
