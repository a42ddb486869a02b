-- The one register through what the loop does with its slots and with the source in hand.
use Rattle.std.proofs.Common.{length, ◌<◌, ◌≤◌, ◌≡◌, ◌↔◌, ℕ, List, [], Some, None, Option, arith, refl, sym}
use Rattle.std.proofs.lemmas.Grind.{common_steps}
use Rattle.std.proofs.lemmas.List.{get_or_past}
use Rattle.sys.specs.World.{Exchange, World}
use Rattle.token.specs.declared.token.Token.{Token}
use Rattle.token.specs.Refusal.{Outcome}
use Rattle.rules.specs.Kinds.{Free, Processing, Reaches}
use Rattle.rules.specs.Meaning.{Meaning}
use Rattle.kinds.specs.declared.source.EventSource.{Ghosts as EventSourceOf}
use Rattle.list.specs.Slots.{Filled, placed, slot_at, unused, vacant_of}
use Rattle.list.specs.declared.slots.Place.{Place}
use Rattle.list.specs.declared.slots.Place.TheVariants.{Empty, Occupied, Handled}
use Rattle.list.specs.declared.slots.Slot.{Slot}
use Rattle.model.specs.Register.{KeyOf, OneRegister, Owner, changed, holders, in_hand, meaning, owner, owners, owner_in, token_in}
use Rattle.model.proofs.Slots.{GivenOut, given_out, room}
use Rattle.model.proofs.Register.{changed_here, changed_twice, one_gone, one_joined, one_moved, one_processed, one_refused, one_same, one_step, owners_given, owners_placed, owners_vacant}

pub no_source : {S : Type 0} (kind : EventSourceOf S) (t : Token) (p : Place S) → (Filled p → ⊥) → owner_in kind t p ≡ None
no_source kind t Empty n = refl
no_source kind t (Occupied s) n = elim (n tt) [ ]
no_source kind t Handled n = refl

module _ {S : Type 0} (kind : EventSourceOf S) (xs : List (Slot S)) (few : length xs ≤ 1024) where
  pub holders_at : (hand : Option Owner) (i : ℕ) (p : Place S) → i < length xs → (slot_at xs i).place ≡ p → holders kind xs hand i ≡ owner_in kind (token_in xs i) p
  holders_at hand i p l is = grind (arith, common_steps)

  pub holders_placed : (hand : Option Owner) (i : ℕ) (p : Place S) → i < length xs → (j : ℕ) → holders kind (placed xs i p) hand j ≡ changed (holders kind xs hand) i (owner_in kind (token_in xs i) p) j
  holders_placed hand i p l j = grind (arith, common_steps, owners_placed kind xs i p l j)

  pub holders_given : (hand : Option Owner) (t : Token) (ys : List (Slot S)) → vacant_of xs ≡ (Some t, ys) → (j : ℕ) → holders kind ys hand j ≡ holders kind xs hand j
  holders_given hand t ys g j = grind (arith, common_steps, owners_given kind xs t ys g j)

  -- no source stands in a slot that is given out
  pub vacant_none : (hand : Option Owner) (t : Token) (ys : List (Slot S)) → vacant_of xs ≡ (Some t, ys) → holders kind xs hand t.id ≡ None
  vacant_none hand t ys g = grind (arith, common_steps, owners_vacant kind xs t ys g, (given_out xs t ys g).within, room xs (Some t) ys few g)

  holders_calm : (j : ℕ) → holders kind xs None j ≡ owners kind xs j
  holders_calm j = grind (arith, common_steps, get_or_past xs in_hand unused)

  -- with no source in hand these are the sources of the slots
  pub one_calm : (w : World) → OneRegister (holders kind xs None) w ↔ OneRegister (owners kind xs) w
  one_calm w = (one_same _ _ w (λ j. sym (holders_calm j)), one_same _ _ w holders_calm)

  -- a slot is given out, and nothing is registered
  pub one_given : (hand : Option Owner) (t : Token) (ys : List (Slot S)) (w : World) → vacant_of xs ≡ (Some t, ys) → OneRegister (holders kind xs hand) w → OneRegister (holders kind ys hand) w
  one_given hand t ys w g one = one_same _ _ w (holders_given hand t ys g) one

  -- A SOURCE IN ITS SLOT is called where it stands.
  module _ (hand : Option Owner) (i : ℕ) (s : S) (l : i < length xs) (is : (slot_at xs i).place ≡ Occupied s) where
    abbrev mine : Owner
    mine = owner kind (token_in xs i) s

    pub one_called : (D : ℕ → Type 0) (w w' : World) (es : List Exchange) (s' : S) → ((k : ℕ) → D k → KeyOf (token_in xs i) k) → Reaches D (kind.means s) w es (kind.means s') w'
        → OneRegister (holders kind xs hand) w → OneRegister (holders kind (placed xs i (Occupied s')) hand) w'
    one_called D w w' es s' drew r one = one_same _ _ w' (holders_placed hand i (Occupied s') l)
        (one_step (holders kind xs hand) i D w w' es mine (kind.means s') (holders_at hand i (Occupied s) l is) drew r one)

    -- one that holds nothing goes
    pub one_emptied : (w : World) → (kind.means s).held ≡ [] → OneRegister (holders kind xs hand) w → OneRegister (holders kind (placed xs i Empty) hand) w
    one_emptied w none one = one_same _ _ w (holders_placed hand i Empty l)
        (one_gone (holders kind xs hand) i w mine (holders_at hand i (Occupied s) l is) none one)

  -- it is taken in hand
  pub one_taken : (i : ℕ) (s : S) (w : World) → i < length xs → (slot_at xs i).place ≡ Occupied s → OneRegister (holders kind xs None) w
      → OneRegister (holders kind (placed xs i Handled) (Some (owner kind (token_in xs i) s))) w
  one_taken i s w l is one = one_same _ _ w (λ j. grind (arith, common_steps, holders_placed None i Handled l j))
      (one_moved (holders kind xs None) i in_hand (owner kind (token_in xs i) s) (holders_at None i (Occupied s) l is) (changed_here (owners kind xs) in_hand None) w one)

  module _ (i : ℕ) (l : i < length xs) (empty : Filled (slot_at xs i).place → ⊥) where
    abbrev returning : S → Owner
    returning s = owner kind (token_in xs i) s

    none_at : (hand : Option Owner) → holders kind xs hand i ≡ None
    none_at hand = grind (arith, common_steps, holders_at hand i (slot_at xs i).place l refl, no_source kind (token_in xs i) (slot_at xs i).place empty)

    -- it is put back into its slot
    pub one_back : (s : S) (w : World) → OneRegister (holders kind xs (Some (returning s))) w → OneRegister (holders kind (placed xs i (Occupied s)) None) w
    one_back s w one = one_same _ _ w (λ j. grind (arith, common_steps, holders_placed None i (Occupied s) l j))
        (one_moved (holders kind xs (Some (returning s))) in_hand i (returning s) (changed_here (owners kind xs) in_hand (Some (returning s))) (none_at (Some (returning s))) w one)

    -- a slot with no source in it is emptied
    pub one_freed : (hand : Option Owner) (w : World) → OneRegister (holders kind xs hand) w → OneRegister (holders kind (placed xs i Empty) hand) w
    one_freed hand w one = one_same _ _ w (λ j. grind (arith, common_steps, holders_placed hand i Empty l j, none_at hand)) one

  -- A SOURCE IN HAND
  module _ (o : Owner) where
    here : holders kind xs (Some o) in_hand ≡ Some o
    here = changed_here (owners kind xs) in_hand (Some o)

    pub one_in_hand : (D : ℕ → Type 0) (w w' : World) (es : List Exchange) (m' : Meaning) → ((k : ℕ) → D k → KeyOf o.token k) → Reaches D o.means w es m' w'
        → OneRegister (holders kind xs (Some o)) w → OneRegister (holders kind xs (Some (meaning o m'))) w'
    one_in_hand D w w' es m' drew r one = one_same _ _ w' (changed_twice (owners kind xs) in_hand (Some o) (Some (meaning o m')))
        (one_step (holders kind xs (Some o)) in_hand D w w' es o m' here drew r one)

    pub one_handled : {E T : Type 0} (w w' : World) (m' : Meaning) (t : Token) (es es' : List E) (qs : List Exchange) (r : Outcome T) → Processing o.means w t es qs r m' w' es'
        → OneRegister (holders kind xs (Some o)) w → OneRegister (holders kind xs (Some (meaning o m'))) w'
    one_handled w w' m' t es es' qs r p one = one_same _ _ w' (changed_twice (owners kind xs) in_hand (Some o) (Some (meaning o m')))
        (one_processed (holders kind xs (Some o)) in_hand w w' o m' t es es' qs r here p one)

    -- one that holds nothing goes
    pub one_let_go : (w : World) → o.means.held ≡ [] → OneRegister (holders kind xs (Some o)) w → OneRegister (holders kind xs None) w
    one_let_go w none one = one_same _ _ w (changed_twice (owners kind xs) in_hand (Some o) None)
        (one_gone (holders kind xs (Some o)) in_hand w o here none one)

  -- AN INSERT, with a source in hand or none
  module _ (hand : Option Owner) (t : Token) (ys : List (Slot S)) (g : vacant_of xs ≡ (Some t, ys)) (D : ℕ → Type 0) (w w' : World) (es : List Exchange) (s s' : S)
      (free : Free (kind.means s)) (drew : (k : ℕ) → D k → KeyOf t k) (r : Reaches D (kind.means s) w es (kind.means s') w') (one : OneRegister (holders kind xs hand) w) where
    out : GivenOut xs t ys
    out = given_out xs t ys g

    abbrev newcomer : Owner
    newcomer = owner kind (token_in ys t.id) s

    drew_its : (k : ℕ) → D k → KeyOf (token_in ys t.id) k
    drew_its k d = grind (arith, common_steps, drew k d, out.here)

    -- it is accepted, and stands in its slot
    pub one_inserted : OneRegister (holders kind (placed ys t.id (Occupied s')) hand) w'
    one_inserted = one_same _ _ w' (λ j. grind (arith, common_steps, owners_placed kind ys t.id (Occupied s') out.within j, owners_given kind xs t ys g j, out.within, room xs (Some t) ys few g))
        (one_joined (holders kind xs hand) t.id D w w' es newcomer (kind.means s') (vacant_none hand t ys g) free drew_its r one)

    -- it is refused, and handed back
    pub one_insert_refused : Free (kind.means s') → OneRegister (holders kind ys hand) w'
    one_insert_refused gone = one_same _ _ w' (holders_given hand t ys g)
        (one_refused (holders kind xs hand) t.id D w w' es newcomer (kind.means s') (vacant_none hand t ys g) free drew_its r one gone)
