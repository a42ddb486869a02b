-- WHAT EACH CALL KEEPS.
use Rattle.std.specs.Prelude.{◌≡◌, ℕ, ◌≤◌, true, false, ◌⊎◌, List, [], ◌∷◌, length, Some, Option}
use Rattle.std.specs.Option.{option_map, option_to_list}
use Rattle.token.specs.declared.token.Token.{Token}
use Rattle.token.specs.Key.{same_source}
use Rattle.token.specs.Refusal.{done, refused}
use Rattle.poller.specs.Meaning.{Answer}
use Rattle.list.specs.Entries.{apart}
use Rattle.list.specs.Slots.{fitting, slot_at, vacant_of}
use Rattle.list.specs.declared.slots.Slot.{Slot}
use Rattle.sys.specs.Laws.{In}
use Rattle.kinds.specs.declared.source.EventSource.{Ghosts as EventSourceOf}
use Rattle.model.specs.Counts.{Counted}
use Rattle.model.specs.Register.{OneRegister, Owner, Owners, holders}
use Rattle.model.specs.State.{Loop}

-- the token of each lifecycle entry fits an occupied slot
abbrev pub Listed : {S : Type 0} → List (Slot S) → List Token → Type 0
Listed xs ts = (t : Token) → In t ts → fitting xs t ≡ Some t.id

-- these entries are those, but for ones of the token's own
abbrev pub Joins : Token → List Token → List Token → Type 0
Joins t ts ts' = (u : Token) → In u ts' → In u ts ⊎ (u ≡ t)

-- the token of each entry of another source fits
abbrev pub ListedBut : {S : Type 0} → Token → List (Slot S) → List Token → Type 0
ListedBut t xs ts = (u : Token) → In u ts → apart t u ≡ true → fitting xs u ≡ Some u.id

-- the source of the token has a lifecycle entry
abbrev pub HasEntry : Token → List Token → Type 0
HasEntry t ts = (u : Token) × In u ts × (same_source u t ≡ true)

-- the slot of the token, which fits, says that its source is enabled
pub record Enabled {S : Type 0} (xs : List (Slot S)) (t : Token) : Type 0 where
  pub fits : fitting xs t ≡ Some t.id
  pub says : (slot_at xs t.id).enabled ≡ true

-- each enabled source that wants hooks has a lifecycle entry
abbrev pub Hooked : {S : Type 0} → Owners → List (Slot S) → List Token → Type 0
Hooked who xs ts = (i : ℕ) (o : Owner) → who i ≡ Some o → o.means.hooks ≡ true → Enabled xs o.token → HasEntry o.token ts

-- a source that is not enabled has one only if an enable of it was refused; `v` has the tokens of such enables
abbrev pub OnlyRefused : {S : Type 0} → List Token → List (Slot S) → List Token → Type 0
OnlyRefused v xs ts = (u : Token) → In u ts → fitting xs u ≡ Some u.id → (slot_at xs u.id).enabled ≡ false → HasEntry u v

-- The loop is in order. `h` has the slots that were given out so far, and `v` the tokens of the enables that were refused;
-- `hand` is the source whose event is being handled.
pub record InOrder {S : Type 0} (kind : EventSourceOf S) (hand : Option Owner) (h : List ℕ) (v : List Token) (l : Loop S) : Type 0 where
  pub few : length l.slots ≤ 1024
  pub counted : Counted h l.slots
  pub listed : Listed l.slots l.lifecycle
  pub hooked : Hooked (holders kind l.slots hand) l.slots l.lifecycle
  pub refused : OnlyRefused v l.slots l.lifecycle
  pub register : OneRegister (holders kind l.slots hand) l.world

-- the token of an enable that was refused
abbrev pub refused_by : Answer → Token → List Token
refused_by (done u) t = []
refused_by (refused n c) t = t ∷ []

-- the slot that an insert gives out, where there is one; it counts as given out even if the insert fails
abbrev pub given_out : {S : Type 0} → List (Slot S) → List ℕ
given_out xs = option_to_list (option_map (λ (t : Token). t.id) (vacant_of xs).0)
