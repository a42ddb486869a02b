-- A list of entries with distinct files, and what each change makes of it.
use Rattle.std.specs.Prelude.{◌≡◌, ℕ, suc, ◌+◌, ◌<◌, ◌≢◌, false, not, List, [], ◌∷◌, ◌++◌, map, length, get_or, take, drop, set, is_some, Some, ◌==◌, refl}
use Rattle.std.proofs.Common.{arith, drop-cons}
use Rattle.std.specs.List.{All, remove as cut_at}
use Rattle.std.proofs.lemmas.Grind.{common_steps}
use Rattle.std.proofs.lemmas.List.{ext_get_or, get_or-take, get_or-drop, length-take, length-drop, take-append-drop}
use Rattle.std.proofs.lemmas.List.Elements.{All-head, All-tail, filter-append}
use Rattle.std.proofs.lemmas.List.Folds.{find_at}
use Rattle.std.proofs.lemmas.List.Sums.{fails_before_first, passes_at_first, position_or_len_is}
use Rattle.std.proofs.lemmas.Option.{slice_get_cases, slice_get-get_or}
use Rattle.poller.specs.declared.entry.Entry.{Entry}
use Rattle.poller.specs.Places.{place_of}
use Rattle.poller.specs.Register.{Distinct, entry_of, holds, changed, removed}

-- whether a file has a place, and which entry stands there
pub holds_place : (f : ℕ) (es : List Entry) → is_some (place_of f es) ≡ holds f es
holds_place f es = grind (arith, common_steps, find_at (λ e. e.file == f) es, slice_get_cases es)

pub found_file : (f : ℕ) (d : Entry) (es : List Entry) (i : ℕ) → Some i ≡ place_of f es → (i < length es) × ((get_or es i d).file ≡ f)
found_file f d es i p = grind (arith, common_steps, passes_at_first (λ e. e.file == f) es d)

pub entry_found : (f : ℕ) (d : Entry) (es : List Entry) (i : ℕ) → Some i ≡ place_of f es → entry_of f es ≡ Some (get_or es i d)
entry_found f d es i p = grind (arith, common_steps, find_at (λ e. e.file == f) es, slice_get-get_or es i d)

-- no entry has a file that is not held
pub others : (f : ℕ) (d : Entry) (es : List Entry) (i : ℕ) → holds f es ≡ false → i < length es → (get_or es i d).file ≢ f
others f d es i h l = grind (arith, common_steps, fails_before_first (λ e. e.file == f) es i d, find_at (λ e. e.file == f) es, slice_get_cases es)

-- the place of an entry's file is its own
pub place_at : (d : Entry) (es : List Entry) (i : ℕ) → Distinct es → i < length es → place_of (get_or es i d).file es ≡ Some i
place_at d es i a h =
    let e = position_or_len_is (λ e. e.file == (get_or es i d).file) es i d (omega arith) (λ k l. grind (arith, common_steps, a k i d)) (λ l. grind (arith, common_steps)) in
    grind (arith, common_steps)

-- a write at the place changes the file's entry, and a removal there takes it alone
pub written : (f : ℕ) (g : Entry → Entry) (d : Entry) (es : List Entry) (i : ℕ) → Distinct es → Some i ≡ place_of f es → set es i (g (get_or es i d)) ≡ changed f g es
written f g d es i a p = ext_get_or d _ _ (grind (arith, common_steps)) (λ k h. grind (arith, common_steps, found_file f d es i p, a k i d, a i k d))

-- where the file is not held, a change of its entry changes nothing
pub changed_none : (f : ℕ) (g : Entry → Entry) (es : List Entry) → holds f es ≡ false → changed f g es ≡ es
changed_none f g [] h = refl
changed_none f g (e ∷ es) h = grind (arith, common_steps, changed_none f g es)

removed_none : (f : ℕ) (es : List Entry) → All (λ (e : Entry). e.file ≢ f) es → removed f es ≡ es
removed_none f [] o = refl
removed_none f (e ∷ es) o = grind (arith, common_steps, All-head (λ (e : Entry). e.file ≢ f) e es o, removed_none f es (All-tail (λ (e : Entry). e.file ≢ f) e es o))

cut_at_place : (f : ℕ) (d : Entry) (es : List Entry) (i : ℕ) → Distinct es → Some i ≡ place_of f es → cut_at es i ≡ removed f es
cut_at_place f d es i a p =
    let here = found_file f d es i p in
    let front = removed_none f (take i es) (λ k x l. grind (arith, get_or-take i es k x, length-take i es, found_file f x es i p, a k i x)) in
    let back = removed_none f (drop (suc i) es) (λ k x l. grind (arith, get_or-drop (suc i) es k x, length-drop (suc i) es, found_file f x es i p, a i (suc i + k) x)) in
    let whole : take i es ++ get_or es i d ∷ drop (suc i) es ≡ es = grind (arith, take-append-drop i es, drop-cons es i d) in
    grind (arith, front, back, here, whole, filter-append (λ (e : Entry). not (e.file == f)) (take i es) (get_or es i d ∷ drop (suc i) es))

pub cut_removed : (f : ℕ) (es : List Entry) (i : ℕ) → Distinct es → Some i ≡ place_of f es → cut_at es i ≡ removed f es
cut_removed f [] i a p = grind (arith, common_steps)
cut_removed f (e ∷ es) i a p = cut_at_place f e (e ∷ es) i a p

-- what keeps the files keeps them distinct
module _ (h : Entry → Entry) (same : (e : Entry) → (h e).file ≡ e.file) where
  pub holds_map : (f : ℕ) (es : List Entry) → holds f (map h es) ≡ holds f es
  holds_map f [] = refl
  holds_map f (e ∷ es) = grind (arith, common_steps, same e, holds_map f es)

  pub place_map : (f : ℕ) (es : List Entry) → place_of f (map h es) ≡ place_of f es
  place_map f [] = refl
  place_map f (e ∷ es) = grind (arith, common_steps, same e, place_map f es)

  pub distinct_map : (es : List Entry) → Distinct (map h es) → Distinct es
  distinct_map es a = λ i j d k l. grind (arith, common_steps, a i j d, same)
