-- The slots as a list: slot i stands at place i.
use Rattle.std.specs.Prelude.{◌≡◌, ℕ, ◌+◌, ◌%◌, ◌^◌, ◌<◌, Bool, true, false, if◌then◌else◌, not, ◌&&◌, List, [], ◌∷◌, ◌++◌, length, Some, None, Option, ◌==◌, ◌≢◌, nat_lt, slice_index_or, slice_set}
use Rattle.std.specs.List.{position}
use Rattle.token.specs.declared.token.Token.{Token}
use Rattle.list.specs.declared.slots.Place.{Place}
use Rattle.list.specs.declared.slots.Place.TheVariants.{Empty, Occupied, Handled}
use Rattle.list.specs.declared.slots.Slot.{Slot}

-- A slot that was never given out. Its next version is 0, and no source of it is enabled.
abbrev pub unused : {S : Type 0} → Slot S
unused = record { version = 65535; enabled = false; place = Empty }

abbrev pub slot_at : {S : Type 0} → List (Slot S) → ℕ → Slot S
slot_at xs i = slice_index_or xs i unused

abbrev pub occupied : {S : Type 0} → Place S → Bool
occupied Empty = false
occupied p = true

-- its source is being handled
abbrev pub handled : {S : Type 0} → Place S → Bool
handled Handled = true
handled p = false

-- a source stands there, and is not being handled
abbrev pub Filled : {S : Type 0} → Place S → Type 0
Filled (Occupied s) = Unit {0}
Filled p = ⊥

-- slot i is in use, and a source stands in it
pub record SourceAt {S : Type 0} (xs : List (Slot S)) (i : ℕ) : Type 0 where
  pub within : i < length xs
  pub there : Filled (slot_at xs i).place

-- slot i is in use, and no source stands in it
pub record NoSourceAt {S : Type 0} (xs : List (Slot S)) (i : ℕ) : Type 0 where
  pub within : i < length xs
  pub there : Filled (slot_at xs i).place → ⊥

-- the slot that the token fits: it is occupied, and has the token's id and version
abbrev pub fitting : {S : Type 0} → List (Slot S) → Token → Option ℕ
fitting xs t =
    if occupied (slot_at xs t.id).place && (slot_at xs t.id).version == t.version then Some t.id else None

-- another thing stands in slot i
abbrev pub placed : {S : Type 0} → List (Slot S) → ℕ → Place S → List (Slot S)
placed xs i p = slice_set xs i (record (slot_at xs i) { place = p })

-- slot i says that its source is enabled, or that it is not
abbrev pub marked : {S : Type 0} → List (Slot S) → ℕ → Bool → List (Slot S)
marked xs i b = slice_set xs i (record (slot_at xs i) { enabled = b })

abbrev pub token_at : ℕ → ℕ → Token
token_at i v = record { id = i; version = v; sub_id = 0 }

-- a source stands in slot i, enabled or not
abbrev pub standing : {S : Type 0} → List (Slot S) → ℕ → S → Bool → List (Slot S)
standing xs i s b = marked (placed xs i (Occupied s)) i b

-- slot i given out at its next version, or the next unused slot at version 0; its source is not enabled yet
abbrev pub given : {S : Type 0} → Option ℕ → List (Slot S) → Option Token × List (Slot S)
given (Some i) xs =
    let version = ((slot_at xs i).version + 1) % 2 ^ 16 in
    (Some (token_at i version), slice_set xs i (record { version = version; enabled = false; place = Empty }))
given None xs =
    if nat_lt (length xs) 1024 then (Some (token_at (length xs) 0), xs ++ record { version = 0; enabled = false; place = Empty } ∷ []) else (None, xs)

-- THE GIVING OUT of a slot: the lowest empty one in use, else the next unused one
abbrev pub vacant_of : {S : Type 0} → List (Slot S) → Option Token × List (Slot S)
vacant_of xs = given (position (λ x. not (occupied x.place)) xs) xs

-- no source is being handled
abbrev pub Calm : {S : Type 0} → List (Slot S) → Type 0
Calm xs = (j : ℕ) → (slot_at xs j).place ≢ Handled

-- The source of the token is in hand: its slot has no source in it, and no other source is being handled.
pub record Apart {S : Type 0} (xs : List (Slot S)) (t : Token) : Type 0 where
  pub out : NoSourceAt xs t.id
  pub version : (slot_at xs t.id).version ≡ t.version
  pub others : (j : ℕ) → (j ≢ t.id) → (slot_at xs j).place ≢ Handled
