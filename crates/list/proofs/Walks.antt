-- The giving out of a slot.
use Rattle.std.proofs.Common.{◌≡◌, ℕ, true, not, List, Some, refl}
use Rattle.std.proofs.lemmas.List.Quantifiers.{position-Some}
use Rattle.std.specs.List.{position}
use Rattle.list.specs.declared.slots.Place.{Place}
use Rattle.list.specs.declared.slots.Place.TheVariants.{Empty, Occupied, Handled}
use Rattle.list.specs.declared.slots.Slot.{Slot}
use Rattle.list.specs.Slots.{occupied, unused, slot_at}

vacant : {S : Type 0} (p : Place S) → not (occupied p) ≡ true → p ≡ Empty
vacant Empty e = refl
vacant (Occupied s) e = cc
vacant Handled e = cc

-- the lowest empty slot is empty
pub empty_at : {S : Type 0} (xs : List (Slot S)) (i : ℕ) → position (λ x. not (occupied x.place)) xs ≡ Some i → (slot_at xs i).place ≡ Empty
empty_at xs i e = vacant _ (position-Some _ xs i unused e).1
