-- What each call of the table comes to, way by way.
use Rattle.std.specs.Prelude.{◌≡◌, ℕ, Bool, true, false, List, set, is_some, Some, None, Ok, Option, Result, slice_index_or}
use Rattle.std.proofs.Common.{refl, arith}
use Rattle.std.specs.List.{remove as cut_at}
use Rattle.std.proofs.lemmas.Grind.{common_steps, elements}
use Rattle.token.specs.Refusal.{done}
use Rattle.poller.specs.declared.entry.Entry.{Entry}
use Rattle.poller.specs.Meaning.{Answer, delete_of}
use Rattle.poller.specs.Places.{place_of}
use Rattle.poller.specs.declared.entry.Request.{Request}
use Rattle.poller.specs.Register.{Distinct, holds, changed, fresh, renewed, marked}
use Rattle.poller.proofs.Standing.{found_file, written, cut_removed, holds_place, others}

-- what a search says of the file
pub found : (f : ℕ) (es : List Entry) (o : Option ℕ) (b : Bool) → o ≡ place_of f es → b ≡ is_some o → holds f es ≡ b
found f es o b p e = grind (arith, common_steps, holds_place f es)

pub absent : (f : ℕ) (es : List Entry) → None ≡ place_of f es → holds f es ≡ false
absent f es p = found f es None false p refl

pub present : (f : ℕ) (es : List Entry) (i : ℕ) → Some i ≡ place_of f es → holds f es ≡ true
present f es i p = found f es (Some i) true p refl

-- a write to the entry that was found
pub marking : (f : ℕ) (es : List Entry) (i : ℕ) → Distinct es → Some i ≡ place_of f es → (y : Entry) → y ≡ slice_index_or es i y → set es i (marked y) ≡ changed f marked es
marking f es i d p y is = grind (arith, common_steps, written f marked y es i d p)

-- with key, interest and mode as asked, and stuck as it was
module _ (q : Request) (es : List Entry) (i : ℕ) (d : Distinct es) (p : Some i ≡ place_of q.file es) (y : Entry) (is : y ≡ slice_index_or es i y) (x : Entry) (new : x ≡ fresh q) where
  pub renewing : set es i (record x { stuck = y.stuck }) ≡ changed q.file (renewed q) es
  renewing =
      let at = found_file q.file y es i p in
      let same : record x { stuck = y.stuck } ≡ renewed q y = cc in
      rw same (grind (arith, common_steps, written q.file (renewed q) y es i d p))

  pub renewing_apart : Distinct (set es i (record x { stuck = y.stuck }))
  renewing_apart k j e m n = grind (arith, elements, found_file q.file y es i p, d k j e)

-- the entry that was found goes, where the call works
pub deleted_works : (f : ℕ) (es : List Entry) (r : Result (Unit {0}) ℕ) (i : ℕ) → Distinct es → Some i ≡ place_of f es → (u : Unit {0}) → r ≡ Ok u → (ys : List Entry) → ys ≡ cut_at es i
    → ◌≡◌ {A = Answer × List Entry} (done tt, ys) (delete_of es f r)
deleted_works f es r i d p u w ys is = grind (arith, present f es i p, cut_removed f es i d p)

-- what the table's calls stand on
pub ruleset adding = (found, others)

pub ruleset modifying = (absent, present, renewing, renewing_apart)

pub ruleset deleting = (absent, present, marking)
