-- WHY A CALL WAS REFUSED: the loop's own numbers exactly where their reason holds; any other is what the source answered.
use Rattle.std.specs.Prelude.{◌≡◌, ◌↔◌, ℕ, true, List, [], ◌∷◌, None}
use Rattle.token.specs.declared.token.Token.{Token}
use Rattle.token.specs.Refusal.{Outcome, done, refusal}
use Rattle.poller.specs.Meaning.{Answer}
use Rattle.rules.specs.Refusals.{RefusedBy, by_hook, by_registration, by_unregister}
use Rattle.list.specs.Slots.{fitting, slot_at, vacant_of}
use Rattle.list.specs.declared.slots.Place.TheVariants.{Handled, Occupied}
use Rattle.list.specs.declared.slots.Slot.{Slot}
use Rattle.model.specs.Calls.{Inserted, into, back, standing_at}

-- a source stands in the slot that the token fits, and is not being handled
abbrev pub StandsAt : {S : Type 0} → List (Slot S) → Token → Type 0
StandsAt {S} xs t = (s : S) × (standing_at xs (fitting xs t) ≡ Occupied s)

-- the answer of an insert without its token or source
abbrev pub answer_of : {S : Type 0} → Inserted S → Outcome (Unit {0})
answer_of (into t) = done tt
answer_of (back a s) = a

-- a lifecycle entry is refused (18), or a registration
abbrev pub by_admission : List ℕ
by_admission = 18 ∷ by_registration

-- an insert: 4 exactly where no slot can be given out, 18, or what a registration answered
pub record InsertRefusals {S : Type 0} (xs : List (Slot S)) (a : Inserted S) : Type 0 where
  pub full : (answer_of a ≡ refusal 4) ↔ ((vacant_of xs).0 ≡ None)
  pub by : RefusedBy (4 ∷ by_admission) (answer_of a)

-- an enable: 1 exactly where the token fits no slot, 2 where the source is being handled, 3 where it is enabled, 18, or what a registration answered
pub record EnableRefusals {S : Type 0} (xs : List (Slot S)) (t : Token) (a : Answer) : Type 0 where
  pub invalid : (a ≡ refusal 1) ↔ (fitting xs t ≡ None)
  pub busy : (a ≡ refusal 2) ↔ (standing_at xs (fitting xs t) ≡ Handled)
  pub already : (a ≡ refusal 3) ↔ (StandsAt xs t × ((slot_at xs t.id).enabled ≡ true))
  pub by : RefusedBy (1 ∷ 2 ∷ 3 ∷ by_admission) a

-- an update: 1 exactly where the token fits no slot, 18, or what a registration answered
pub record UpdateRefusals {S : Type 0} (xs : List (Slot S)) (t : Token) (a : Answer) : Type 0 where
  pub invalid : (a ≡ refusal 1) ↔ (fitting xs t ≡ None)
  pub by : RefusedBy (1 ∷ by_admission) a

-- a disable: 1 exactly where the token fits no slot, or what an unregister answered
pub record DisableRefusals {S : Type 0} (xs : List (Slot S)) (t : Token) (a : Answer) : Type 0 where
  pub invalid : (a ≡ refusal 1) ↔ (fitting xs t ≡ None)
  pub by : RefusedBy (1 ∷ by_unregister) a

-- A DISPATCH, by what stopped it

-- a hook: too many events wait (19), or its own fault
abbrev pub by_asking : List ℕ
by_asking = 19 ∷ by_hook

-- a modify in OneShot mode
abbrev pub by_arming : List ℕ
by_arming = 12 ∷ 14 ∷ []

-- a wait: interrupted 64 times (15), the poller's own fault, or a modify that was refused (12, 14)
abbrev pub by_wait : List ℕ
by_wait = 15 ∷ by_arming

-- a turn: an event's fault, or that of the action after it
abbrev pub by_turn : List ℕ
by_turn = 9 ∷ by_admission
