-- What stands in each slot after a change of one, and after a giving out.
use Rattle.std.proofs.Common.{◌≡◌, ℕ, ◌+◌, ◌%◌, ◌^◌, ◌<◌, ◌≤◌, Bool, false, not, List, [], ◌∷◌, length, slice_set, Some, None, Option, ◌≢◌, ◌⊎◌, zero, suc, inl, inr, refl, ap, arith}
use Rattle.std.proofs.lemmas.Grind.{common_steps}
use Rattle.std.proofs.lemmas.List.{get_or-set_other, get_or-set_same}
use Rattle.std.proofs.lemmas.List.Quantifiers.{position-Some}
use Rattle.std.specs.List.{position}
use Rattle.token.specs.declared.token.Token.{Token}
use Rattle.list.proofs.Walks.{empty_at}
use Rattle.list.specs.Slots.{given, marked, occupied, placed, slot_at, standing, unused, vacant_of}
use Rattle.list.specs.declared.slots.Place.{Place}
use Rattle.list.specs.declared.slots.Place.TheVariants.{Empty, Handled, Occupied}
use Rattle.list.specs.declared.slots.Slot.{Slot}

pub same_or_not : (i j : ℕ) → (i ≡ j) ⊎ (i ≢ j)
same_or_not i j = grind (arith, common_steps)

module _ {S : Type 0} (xs : List (Slot S)) where
  pub placed_here : (i : ℕ) (p : Place S) → i < length xs → slot_at (placed xs i p) i ≡ record (slot_at xs i) { place = p }
  placed_here i p l = get_or-set_same xs i _ unused l

  pub placed_other : (i j : ℕ) (p : Place S) → (j ≢ i) → slot_at (placed xs i p) j ≡ slot_at xs j
  placed_other i j p ne = get_or-set_other xs i j _ unused ne

  -- slot t.id was given out: it was empty, and is empty at its next version
  pub record GivenOut (t : Token) (ys : List (Slot S)) : Type 0 where
    pub within : t.id < length ys
    pub was : (slot_at xs t.id).place ≡ Empty
    pub here : slot_at ys t.id ≡ record { version = t.version; enabled = false; place = Empty }
    pub others : (j : ℕ) → (j ≢ t.id) → slot_at ys j ≡ slot_at xs j
    pub version : t.version ≡ ((slot_at xs t.id).version + 1) % 2 ^ 16

  given_by : (o : Option ℕ) (t : Token) (ys : List (Slot S)) → position (λ x. not (occupied x.place)) xs ≡ o → given o xs ≡ (Some t, ys) → GivenOut t ys
  given_by (Some i) t ys e g = grind (arith, common_steps, empty_at xs i e, (position-Some _ xs i unused e).0)
  given_by None t ys e g = grind (arith, common_steps)

  pub given_out : (t : Token) (ys : List (Slot S)) → vacant_of xs ≡ (Some t, ys) → GivenOut t ys
  given_out t ys g = given_by (position (λ x. not (occupied x.place)) xs) t ys refl g

  pub given_fits : (t : Token) (ys : List (Slot S)) → vacant_of xs ≡ (Some t, ys) → t.version < 2 ^ 16
  given_fits t ys g = let o : GivenOut t ys = given_out t ys g in omega (arith, o.version)

  full_by : (o : Option ℕ) (ys : List (Slot S)) → given o xs ≡ (None, ys) → ys ≡ xs
  full_by (Some i) ys g = grind (arith, common_steps)
  full_by None ys g = grind (arith, common_steps)

  -- none is given out: the slots stay
  pub full : (ys : List (Slot S)) → vacant_of xs ≡ (None, ys) → ys ≡ xs
  full ys g = full_by (position (λ x. not (occupied x.place)) xs) ys g

  -- a change of what stands in a slot keeps each version
  pub placed_version : (i j : ℕ) (p : Place S) → (slot_at (placed xs i p) j).version ≡ (slot_at xs j).version
  placed_version i j p = grind (arith, common_steps, placed_here i p, placed_other i j p)

  room_by : (o : Option ℕ) (u : Option Token) (ys : List (Slot S)) → length xs ≤ 1024 → given o xs ≡ (u, ys) → length ys ≤ 1024
  room_by (Some i) u ys l g = grind (arith, common_steps)
  room_by None u ys l g = grind (arith, common_steps)

  -- no more than 1,024 slots are in use
  pub room : (u : Option Token) (ys : List (Slot S)) → length xs ≤ 1024 → vacant_of xs ≡ (u, ys) → length ys ≤ 1024
  room u ys l g = room_by (position (λ x. not (occupied x.place)) xs) u ys l g

-- A SOURCE OUT OF ITS SLOT AND BACK, and a slot emptied

set_twice : {X : Type 0} (xs : List X) (i : ℕ) (a b : X) → slice_set (slice_set xs i a) i b ≡ slice_set xs i b
set_twice [] i a b = refl
set_twice (x ∷ xs) zero a b = refl
set_twice (x ∷ xs) (suc i) a b = ap (x ∷◌) (set_twice xs i a b)

pub placed_twice : {S : Type 0} (xs : List (Slot S)) (i : ℕ) (p q : Place S) → i < length xs → placed (placed xs i p) i q ≡ placed xs i q
placed_twice xs i p q h = grind (arith, common_steps, set_twice)

pub standing_back : {S : Type 0} (xs : List (Slot S)) (i : ℕ) (s : S) (b : Bool) → i < length xs → standing (placed xs i Handled) i s b ≡ standing xs i s b
standing_back xs i s b h = grind (arith, common_steps, placed_twice xs i Handled (Occupied s) h)

pub same_flag : {S : Type 0} (xs : List (Slot S)) (i : ℕ) (p : Place S) → i < length xs → (slot_at (placed xs i p) i).enabled ≡ (slot_at xs i).enabled
same_flag xs i p h = grind (arith, common_steps)

-- A SOURCE STANDING IN A SLOT, enabled or not

module _ {S : Type 0} (xs : List (Slot S)) (i : ℕ) where
  pub placed_length : (p : Place S) → length (placed xs i p) ≡ length xs
  placed_length p = grind (arith, common_steps)

  marked_slot : (j : ℕ) (b : Bool) → (slot_at (marked xs i b) j ≡ slot_at xs j) ⊎ (slot_at (marked xs i b) j ≡ record (slot_at xs j) { enabled = b })
  marked_slot j b = elim (same_or_not j i) [ inl e ↦ grind (arith, common_steps) | inr ne ↦ inl (get_or-set_other xs i j _ unused ne) ]

  pub marked_place : (j : ℕ) (b : Bool) → (slot_at (marked xs i b) j).place ≡ (slot_at xs j).place
  marked_place j b = elim (marked_slot j b) [ inl e ↦ ap (λ (x : Slot S). x.place) e | inr e ↦ ap (λ (x : Slot S). x.place) e ]

  pub marked_version : (j : ℕ) (b : Bool) → (slot_at (marked xs i b) j).version ≡ (slot_at xs j).version
  marked_version j b = elim (marked_slot j b) [ inl e ↦ ap (λ (x : Slot S). x.version) e | inr e ↦ ap (λ (x : Slot S). x.version) e ]

  pub marked_other : (j : ℕ) (b : Bool) → (j ≢ i) → slot_at (marked xs i b) j ≡ slot_at xs j
  marked_other j b ne = get_or-set_other xs i j _ unused ne

  pub marked_here : (b : Bool) → i < length xs → (slot_at (marked xs i b) i).enabled ≡ b
  marked_here b l = ap (λ (x : Slot S). x.enabled) (get_or-set_same xs i _ unused l)

  pub marked_length : (b : Bool) → length (marked xs i b) ≡ length xs
  marked_length b = grind (arith, common_steps)
