-- The versions go on counting the givings out, and a token fits exactly while its giving out is the latest.
use Rattle.std.proofs.Common.{◌≡◌, ◌≢◌, ◌↔◌, ℕ, ◌+◌, ◌%◌, ◌^◌, ◌<◌, List, [], ◌∷◌, ◌++◌, Some, None, arith, inl, inr, ◌∙◌}
use Rattle.std.proofs.lemmas.Grind.{common_steps}
use Rattle.token.specs.declared.token.Token.{Token}
use Rattle.list.specs.Slots.{fitting, placed, slot_at, vacant_of}
use Rattle.list.specs.declared.slots.Place.{Place}
use Rattle.list.specs.declared.slots.Slot.{Slot}
use Rattle.model.specs.Counts.{Counted, Latest, times, version_of}
use Rattle.model.proofs.Slots.{GivenOut, full, given_out, placed_version, same_or_not}

-- one giving out more
times_here : (i : ℕ) (h : List ℕ) → times i (h ++ i ∷ []) ≡ times i h + 1
times_here i h = grind (arith, common_steps)

times_other : (i j : ℕ) (h : List ℕ) → (j ≢ i) → times j (h ++ i ∷ []) ≡ times j h
times_other i j h ne = grind (arith, common_steps)

next_version : (n : ℕ) → (version_of n + 1) % 2 ^ 16 ≡ version_of (n + 1)
next_version n = omega arith

same_version : (m n : ℕ) → version_of m ≡ version_of n → m % 2 ^ 16 ≡ n % 2 ^ 16
same_version m n e = omega arith

version_same : (m n : ℕ) → m % 2 ^ 16 ≡ n % 2 ^ 16 → version_of m ≡ version_of n
version_same m n e = omega arith

module _ {S : Type 0} (h : List ℕ) (xs : List (Slot S)) (c : Counted h xs) where
  pub counted_placed : (i : ℕ) (p : Place S) → Counted h (placed xs i p)
  counted_placed i p = record { versions = λ j. placed_version xs i j p ∙ c.versions j }

  pub counted_fits : (i : ℕ) → (slot_at xs i).version < 2 ^ 16
  counted_fits i = omega (arith, c.versions i)

  pub counted_full : (ys : List (Slot S)) → vacant_of xs ≡ (None, ys) → Counted h ys
  counted_full ys g = rw (full xs ys g) c

  module _ (t : Token) (ys : List (Slot S)) (g : vacant_of xs ≡ (Some t, ys)) where
    pub given_version : t.version ≡ version_of (times t.id (h ++ t.id ∷ []))
    given_version = grind (arith, common_steps, (given_out xs t ys g).version, c.versions t.id, next_version (times t.id h), times_here t.id h)

    -- A GIVING OUT more
    pub counted_given : Counted (h ++ t.id ∷ []) ys
    counted_given =
        let o : GivenOut xs t ys = given_out xs t ys g in
        record {
          versions = λ j. elim (same_or_not j t.id) [
            | inl e ↦ grind (arith, common_steps, o.here, given_version)
            | inr ne ↦ grind (arith, common_steps, o.others j ne, c.versions j, times_other t.id j h ne)
          ];
        }

  -- A TOKEN FITS exactly while its slot is occupied and its giving out is the latest.
  module _ (t : Token) (n : ℕ) (v : t.version ≡ version_of n) where
    pub fits_latest : fitting xs t ≡ Some t.id → Latest h xs t.id n
    fits_latest f = record {
      there = grind (arith, common_steps);
      same = same_version n (times t.id h) (grind (arith, common_steps, c.versions t.id));
    }

    pub latest_fits : Latest h xs t.id n → fitting xs t ≡ Some t.id
    latest_fits l = grind (arith, common_steps, l.there, version_same n (times t.id h) l.same, c.versions t.id)

    pub fits_exactly : (fitting xs t ≡ Some t.id) ↔ Latest h xs t.id n
    fits_exactly = (fits_latest, latest_fits)

-- no slot was given out
pub counted_new : {S : Type 0} → Counted {S = S} [] []
counted_new = record { versions = λ i. grind (arith, common_steps) }
