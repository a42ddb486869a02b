-- Each call keeps the loop in order.
use Rattle.std.proofs.Common.{◌≡◌, ℕ, true, false, ◌^◌, ◌<◌, ◌≤◌, Bool, List, [], ◌∷◌, ◌++◌, length, Some, None, Option, ◌≢◌, ◌⊎◌, inl, inr, refl, ap, sym, ◌∙◌, subst, arith}
use Rattle.std.proofs.lemmas.Grind.{common_steps}
use Rattle.token.specs.declared.token.Token.{Token}
use Rattle.token.specs.Key.{own_source, same_source}
use Rattle.list.specs.Entries.{apart, left}
use Rattle.list.specs.Slots.{fitting, marked, placed, slot_at, standing, vacant_of}
use Rattle.list.specs.declared.slots.Place.TheVariants.{Empty, Handled, Occupied}
use Rattle.list.specs.declared.slots.Slot.{Slot}
use Rattle.sys.specs.Laws.{In}
use Rattle.sys.specs.World.{World, Exchange}
use Rattle.sys.proofs.Entries.{in_filter}
use Rattle.rules.specs.Kinds.{Free, Reaches}
use Rattle.rules.specs.Meaning.{Drawer, Drawn, Forward, Nothing}
use Rattle.kinds.specs.declared.source.EventSource.{Ghosts as EventSourceOf}
use Rattle.model.specs.Order.{HasEntry, InOrder, Joins, Listed, ListedBut}
use Rattle.model.specs.Register.{KeyOf, OneRegister, Owner, holders, owner, token_in}
use Rattle.model.specs.State.{Loop}
use Rattle.model.proofs.Counts.{counted_fits, counted_given, counted_placed}
use Rattle.model.proofs.Entries.{Entered, Marks, another, entered_hooked, entered_left, entered_refused}
use Rattle.model.proofs.Hand.{holders_given, holders_placed, one_called, one_emptied, one_given, one_insert_refused, one_inserted, vacant_none}
use Rattle.model.proofs.Register.{drawn_of, none_of, one_same, who_stands}
use Rattle.model.proofs.Slots.{GivenOut, given_fits, given_out, marked_here, marked_length, marked_other, marked_place, marked_version, placed_here, placed_length, placed_other, placed_twice, placed_version, room, same_or_not, standing_back}

-- what a call's factory draws are keys of the token's source
-- one change after another
pub marks_then : {S : Type 0} (xs ys zs : List (Slot S)) (t : Token) (b c : Bool) → Marks xs ys t b → Marks ys zs t c → Marks xs zs t c
marks_then xs ys zs t b c one two = record {
  here = two.here;
  fits = λ u f n. let a = two.fits u f n in let e = one.fits u a.0 n in (e.0, e.1 ∙ a.1);
}

pub drawn_keys : (t u : Token) (d' : Drawer) (k : ℕ) → u.id ≡ t.id → u.version ≡ t.version → u.version < 2 ^ 16 → Forward (own_source t) d' → Drawn (own_source t) d' k → KeyOf u k
drawn_keys t u d' k i v fits f drawn = drawn_of u (own_source t) d' k (sym i) (sym v) fits (omega (arith, f.few (omega arith))) drawn

module _ {S : Type 0} (xs : List (Slot S)) (i : ℕ) (s : S) (b : Bool) (within : i < length xs) where
  pub standing_version : (j : ℕ) → (slot_at (standing xs i s b) j).version ≡ (slot_at xs j).version
  standing_version j = marked_version (placed xs i (Occupied s)) i j b ∙ placed_version xs i j (Occupied s)

  pub standing_here : (slot_at (standing xs i s b) i).place ≡ Occupied s
  standing_here = marked_place (placed xs i (Occupied s)) i i b ∙ ap (λ (x : Slot S). x.place) (placed_here xs i (Occupied s) within)

  standing_other : (j : ℕ) → (j ≢ i) → (slot_at (standing xs i s b) j).place ≡ (slot_at xs j).place
  standing_other j ne = marked_place (placed xs i (Occupied s)) i j b ∙ ap (λ (x : Slot S). x.place) (placed_other xs i j (Occupied s) ne)

  -- what fitted still fits
  standing_fits : (u : Token) → fitting xs u ≡ Some u.id → fitting (standing xs i s b) u ≡ Some u.id
  standing_fits u f = elim (same_or_not u.id i) [
    | inl e ↦ grind (arith, common_steps, standing_here, standing_version u.id)
    | inr ne ↦ grind (arith, common_steps, standing_other u.id ne, standing_version u.id)
  ]

  standing_enabled : (slot_at (standing xs i s b) i).enabled ≡ b
  standing_enabled = marked_here (placed xs i (Occupied s)) i b (subst (λ (n : ℕ). i < n) (sym (placed_length xs i (Occupied s))) within)

  standing_slot : (j : ℕ) → (j ≢ i) → slot_at (standing xs i s b) j ≡ slot_at xs j
  standing_slot j ne = marked_other (placed xs i (Occupied s)) i j b ne ∙ placed_other xs i j (Occupied s) ne

  -- of all sources it is the one that may be enabled now, or not any more
  standing_marks : (t : Token) → t.id ≡ i → (slot_at xs i).version ≡ t.version → Marks xs (standing xs i s b) t b
  standing_marks t e v = record {
    here = λ f. subst (λ (n : ℕ). (slot_at (standing xs i s b) n).enabled ≡ b) (sym e) standing_enabled;
    fits = λ u f not. elim (same_or_not u.id i) [
      | inl d ↦ absurd (grind (arith, common_steps, standing_version u.id))
      | inr ne ↦ grind (arith, common_steps, standing_slot u.id ne)
    ];
  }

  standing_length : length (standing xs i s b) ≡ length xs
  standing_length = marked_length (placed xs i (Occupied s)) i b ∙ placed_length xs i (Occupied s)

  -- whether a source is enabled is nothing to the register
  standing_holders : (kind : EventSourceOf S) (hand : Option Owner) (j : ℕ) → holders kind (standing xs i s b) hand j ≡ holders kind (placed xs i (Occupied s)) hand j
  standing_holders kind hand j = grind (arith, common_steps, marked_place (placed xs i (Occupied s)) i j b, marked_version (placed xs i (Occupied s)) i j b)

-- LIFECYCLE ENTRIES FIT
module _ {S : Type 0} (xs : List (Slot S)) (t : Token) (ts : List Token) (listed : Listed xs ts) where
  module _ (fits : fitting xs t ≡ Some t.id) where
    -- a source stands in its slot again
    pub standing_listed : (s : S) (b : Bool) (ts' : List Token) → Joins t ts ts' → Listed (standing xs t.id s b) ts'
    standing_listed s b ts' joins u m = standing_fits xs t.id s b (grind (arith, common_steps)) u (elim (joins u m) [ inl old ↦ listed u old | inr e ↦ rw e fits ])

    -- it was out of its slot meanwhile
    pub back_listed : (s : S) (b : Bool) (ts' : List Token) (ys : List (Slot S)) → ys ≡ standing (placed xs t.id Handled) t.id s b → Joins t ts ts' → Listed ys ts'
    back_listed s b ts' ys put joins = rw (put, standing_back xs t.id s b (grind (arith, common_steps))) (standing_listed s b ts' joins)

    -- another source's entry is of another slot
    elsewhere : (u : Token) → In u (left t ts) → u.id ≢ t.id
    elsewhere u m = grind (arith, common_steps, in_filter (apart t) ts u, listed u)

    -- its slot is emptied, and its entries go
    pub emptied_listed : Listed (placed xs t.id Empty) (left t ts)
    emptied_listed u m = grind (arith, common_steps, elsewhere u m, in_filter (apart t) ts u, listed u, placed_other xs t.id u.id Empty)

    -- it was out of its slot, which is emptied
    pub taken_listed : (ts' : List Token) (ys : List (Slot S)) → ys ≡ placed (placed xs t.id Handled) t.id Empty → ts' ≡ left t ts → Listed ys ts'
    taken_listed ts' ys put gone = rw (put, gone, placed_twice xs t.id Handled Empty (grind (arith, common_steps))) emptied_listed

  -- a slot is given out
  module _ (ys : List (Slot S)) (g : vacant_of xs ≡ (Some t, ys)) where
    slot : GivenOut xs t ys
    slot = given_out xs t ys g

    -- what fitted was of another slot, and fits
    given_keeps : (u : Token) → fitting xs u ≡ Some u.id → fitting ys u ≡ Some u.id
    given_keeps u f = elim (same_or_not u.id t.id) [ inl e ↦ grind (arith, common_steps, slot.was) | inr ne ↦ grind (arith, common_steps, slot.others u.id ne) ]

    pub given_listed : (ts' : List Token) → Joins t ts ts' → Listed ys (left t ts')
    given_listed ts' joins u m = grind (arith, common_steps, in_filter (apart t) ts' u, joins u, given_keeps u, listed u)

    pub inserted_listed : (s : S) (ts' : List Token) → Joins t ts ts' → Listed (standing ys t.id s true) ts'
    inserted_listed s ts' joins u m =
        let here : fitting (standing ys t.id s true) t ≡ Some t.id = grind (arith, common_steps, standing_here ys t.id s true slot.within, standing_version ys t.id s true slot.within t.id, slot.here) in
        elim (joins u m) [ inl old ↦ standing_fits ys t.id s true slot.within u (given_keeps u (listed u old)) | inr e ↦ rw e here ]

module _ {S : Type 0} (kind : EventSourceOf S) (hand : Option Owner) (h : List ℕ) (v : List Token) (l : Loop S) (o : InOrder kind hand h v l) where
  -- A SOURCE IN ITS SLOT, which is another than the one in hand
  module _ (t : Token) (away : (p : Owner) → hand ≡ Some p → same_source p.token t ≡ false) (s : S) (fits : fitting l.slots t ≡ Some t.id) (there : (slot_at l.slots t.id).place ≡ Occupied s) where
    within : t.id < length l.slots
    within = grind (arith, common_steps)

    same_version : (slot_at l.slots t.id).version ≡ t.version
    same_version = grind (arith, common_steps)

    marks : (s' : S) (b : Bool) → Marks l.slots (standing l.slots t.id s' b) t b
    marks s' b = standing_marks l.slots t.id s' b within t refl same_version

    -- it is another source than each other
    stands_after : (s' : S) (b : Bool) → (kind.means s').hooks ≡ (kind.means s).hooks → (j : ℕ) (p : Owner) → holders kind (standing l.slots t.id s' b) hand j ≡ Some p
        → ((same_source p.token t ≡ true) × (p.means.hooks ≡ (kind.means s).hooks)) ⊎ ((same_source p.token t ≡ false) × (holders kind l.slots hand j ≡ Some p))
    stands_after s' b same j p is =
        let placed_there = sym (holders_placed kind l.slots o.few hand t.id (Occupied s') within j) ∙ sym (standing_holders l.slots t.id s' b within kind hand j) ∙ is in
        elim (who_stands (holders kind l.slots hand) t.id (Some (owner kind (token_in l.slots t.id) s')) j p placed_there) [
          | inl a ↦ inl (grind (arith, common_steps, a.1))
          | inr a ↦ inr (another kind l.slots hand t away j p a.0 a.1, a.1)
        ]

    pub its_keys : (d' : Drawer) (k : ℕ) → Forward (own_source t) d' → Drawn (own_source t) d' k → KeyOf (token_in l.slots t.id) k
    its_keys d' k f drawn = drawn_keys t (token_in l.slots t.id) d' k refl same_version (counted_fits h l.slots o.counted t.id) f drawn

    -- an act on it that reaches the polling system
    pub acted_in_order : (D : ℕ → Type 0) (w : World) (xs : List Exchange) (s' : S) (b : Bool) (v' ts : List Token) → ((k : ℕ) → D k → KeyOf (token_in l.slots t.id) k)
        → Reaches D (kind.means s) l.world xs (kind.means s') w → ((p : Token) → HasEntry p v → HasEntry p v') → Entered v' b (kind.means s).hooks t l.lifecycle ts
        → InOrder kind hand h v' (record l { slots = standing l.slots t.id s' b; lifecycle = ts; world = w })
    acted_in_order D w xs s' b v' ts drew r more e = record {
      few = subst (λ (n : ℕ). n ≤ 1024) (sym (standing_length l.slots t.id s' b within)) o.few;
      counted = record { versions = λ i. standing_version l.slots t.id s' b within i ∙ o.counted.versions i };
      listed = standing_listed l.slots t l.lifecycle o.listed fits s' b ts e.joins;
      hooked = entered_hooked l.slots (standing l.slots t.id s' b) t b (marks s' b) v v' l.lifecycle ts more (kind.means s).hooks e _ _ (λ j p is. stands_after s' b r.hooks j p is) o.hooked;
      refused = entered_refused l.slots (standing l.slots t.id s' b) t b (marks s' b) v v' l.lifecycle ts more (kind.means s).hooks e o.refused;
      register = one_same _ _ w (standing_holders l.slots t.id s' b within kind hand) (one_called kind l.slots o.few hand t.id s within there D l.world w xs s' drew r o.register);
    }

    -- its slot is emptied, and its entries go
    emptied_marks : Marks l.slots (placed l.slots t.id Empty) t false
    emptied_marks = record {
      here = λ f. absurd (grind (arith, common_steps, placed_here l.slots t.id Empty within));
      fits = λ u f not. elim (same_or_not u.id t.id) [
        | inl e ↦ absurd (grind (arith, common_steps, placed_here l.slots t.id Empty within))
        | inr ne ↦ grind (arith, common_steps, placed_other l.slots t.id u.id Empty ne)
      ];
    }

    gone : Entered v false (kind.means s).hooks t l.lifecycle (left t l.lifecycle)
    gone = entered_left v (kind.means s).hooks t l.lifecycle

    stays_after : (j : ℕ) (p : Owner) → holders kind (placed l.slots t.id Empty) hand j ≡ Some p
        → ((same_source p.token t ≡ true) × (p.means.hooks ≡ (kind.means s).hooks)) ⊎ ((same_source p.token t ≡ false) × (holders kind l.slots hand j ≡ Some p))
    stays_after j p is = elim (who_stands (holders kind l.slots hand) t.id None j p (sym (holders_placed kind l.slots o.few hand t.id Empty within j) ∙ is)) [
      | inl a ↦ absurd (grind (arith, common_steps))
      | inr a ↦ inr (another kind l.slots hand t away j p a.0 a.1, a.1)
    ]

    -- it holds nothing any more, and leaves its slot
    pub removed_in_order : (w : World) (xs : List Exchange) (s' : S) → Reaches Nothing (kind.means s) l.world xs (kind.means s') w → (kind.means s').held ≡ []
        → InOrder kind hand h v (record l { slots = placed l.slots t.id Empty; lifecycle = left t l.lifecycle; world = w })
    removed_in_order w xs s' r none =
        let back = placed l.slots t.id (Occupied s') in
        let here : (slot_at back t.id).place ≡ Occupied s' = ap (λ (x : Slot S). x.place) (placed_here l.slots t.id (Occupied s') within) in
        let there' : t.id < length back = subst (λ (n : ℕ). t.id < n) (sym (placed_length l.slots t.id (Occupied s'))) within in
        let few : length back ≤ 1024 = subst (λ (n : ℕ). n ≤ 1024) (sym (placed_length l.slots t.id (Occupied s'))) o.few in
        let called = one_called kind l.slots o.few hand t.id s within there Nothing l.world w xs s' (none_of (token_in l.slots t.id)) r o.register in
        record {
          few = subst (λ (n : ℕ). n ≤ 1024) (sym (placed_length l.slots t.id Empty)) o.few;
          counted = counted_placed h l.slots o.counted t.id Empty;
          listed = emptied_listed l.slots t l.lifecycle o.listed fits;
          hooked = entered_hooked l.slots (placed l.slots t.id Empty) t false emptied_marks v v l.lifecycle _ (λ p e. e) (kind.means s).hooks gone _ _ stays_after o.hooked;
          refused = entered_refused l.slots (placed l.slots t.id Empty) t false emptied_marks v v l.lifecycle _ (λ p e. e) (kind.means s).hooks gone o.refused;
          register = subst (λ (ys : List (Slot S)). OneRegister (holders kind ys hand) w) (placed_twice l.slots t.id (Occupied s') Empty within) (one_emptied kind back few hand t.id s' there' here w none called);
        }

  -- AN INSERT
  module _ (t : Token) (away : (p : Owner) → hand ≡ Some p → same_source p.token t ≡ false) (ys : List (Slot S)) (g : vacant_of l.slots ≡ (Some t, ys)) where
    out : GivenOut l.slots t ys
    out = given_out l.slots t ys g

    given_marks : Marks l.slots ys t false
    given_marks = record {
      here = λ f. absurd (grind (arith, common_steps, out.here));
      fits = λ u f not. elim (same_or_not u.id t.id) [ inl e ↦ absurd (grind (arith, common_steps, out.here)) | inr ne ↦ grind (arith, common_steps, out.others u.id ne) ];
    }

    -- each source stood before, and is another than the newcomer
    stood_before : (hooks : Bool) (j : ℕ) (p : Owner) → holders kind ys hand j ≡ Some p
        → ((same_source p.token t ≡ true) × (p.means.hooks ≡ hooks)) ⊎ ((same_source p.token t ≡ false) × (holders kind l.slots hand j ≡ Some p))
    stood_before hooks j p is =
        let was = sym (holders_given kind l.slots o.few hand t ys g j) ∙ is in
        inr (another kind l.slots hand t away j p (λ e. grind (arith, common_steps, vacant_none kind l.slots o.few hand t ys g)) was, was)

    new_keys : (d' : Drawer) (k : ℕ) → Forward (own_source t) d' → Drawn (own_source t) d' k → KeyOf t k
    new_keys d' k f drawn = drawn_keys t t d' k refl refl (given_fits l.slots t ys g) f drawn

    -- nothing was registered
    pub given_in_order : InOrder kind hand (h ++ t.id ∷ []) v (record l { slots = ys; lifecycle = left t l.lifecycle })
    given_in_order = record {
      few = room l.slots (Some t) ys o.few g;
      counted = counted_given h l.slots o.counted t ys g;
      listed = given_listed l.slots t l.lifecycle o.listed ys g l.lifecycle (λ u m. inl m);
      hooked = entered_hooked l.slots ys t false given_marks v v l.lifecycle _ (λ p e. e) false (entered_left v false t l.lifecycle) _ _ (stood_before false) o.hooked;
      refused = entered_refused l.slots ys t false given_marks v v l.lifecycle _ (λ p e. e) false (entered_left v false t l.lifecycle) o.refused;
      register = one_given kind l.slots o.few hand t ys l.world g o.register;
    }

    newcomer_stands : (s s' : S) → (kind.means s').hooks ≡ (kind.means s).hooks → (j : ℕ) (p : Owner) → holders kind (standing ys t.id s' true) hand j ≡ Some p
        → ((same_source p.token t ≡ true) × (p.means.hooks ≡ (kind.means s).hooks)) ⊎ ((same_source p.token t ≡ false) × (holders kind l.slots hand j ≡ Some p))
    newcomer_stands s s' same j p is =
        let few = room l.slots (Some t) ys o.few g in
        let there = sym (holders_placed kind ys few hand t.id (Occupied s') out.within j) ∙ sym (standing_holders ys t.id s' true out.within kind hand j) ∙ is in
        elim (who_stands (holders kind ys hand) t.id (Some (owner kind (token_in ys t.id) s')) j p there) [
          | inl a ↦ inl (grind (arith, common_steps, a.1, out.here))
          | inr a ↦ stood_before (kind.means s).hooks j p a.1
        ]

    -- the source was registered, and stands in its slot
    pub inserted_in_order : (d' : Drawer) (w : World) (xs : List Exchange) (s s' : S) (ts : List Token) → Free (kind.means s) → Forward (own_source t) d'
        → Reaches (Drawn (own_source t) d') (kind.means s) l.world xs (kind.means s') w → Entered v true (kind.means s).hooks t l.lifecycle ts
        → InOrder kind hand (h ++ t.id ∷ []) v (record l { slots = standing ys t.id s' true; lifecycle = ts; world = w })
    inserted_in_order d' w xs s s' ts free f r e =
        let marks = marks_then l.slots ys (standing ys t.id s' true) t false true given_marks (standing_marks ys t.id s' true out.within t refl (grind (arith, common_steps, out.here))) in
        let counted = counted_given h l.slots o.counted t ys g in
        let few = room l.slots (Some t) ys o.few g in
        record {
          few = subst (λ (n : ℕ). n ≤ 1024) (sym (standing_length ys t.id s' true out.within)) few;
          counted = record { versions = λ i. standing_version ys t.id s' true out.within i ∙ counted.versions i };
          listed = inserted_listed l.slots t l.lifecycle o.listed ys g s' ts e.joins;
          hooked = entered_hooked l.slots (standing ys t.id s' true) t true marks v v l.lifecycle ts (λ p e. e) (kind.means s).hooks e _ _ (λ j p is. newcomer_stands s s' r.hooks j p is) o.hooked;
          refused = entered_refused l.slots (standing ys t.id s' true) t true marks v v l.lifecycle ts (λ p e. e) (kind.means s).hooks e o.refused;
          register = one_same _ _ w (standing_holders ys t.id s' true out.within kind hand)
              (one_inserted kind l.slots o.few hand t ys g (Drawn (own_source t) d') l.world w xs s s' free (λ k. new_keys d' k f) r o.register);
        }

    -- it was refused, and is handed back
    pub refused_in_order : (d' : Drawer) (w : World) (xs : List Exchange) (s s' : S) (ts : List Token) → Free (kind.means s) → Free (kind.means s') → Forward (own_source t) d'
        → Reaches (Drawn (own_source t) d') (kind.means s) l.world xs (kind.means s') w → Joins t l.lifecycle ts → Entered v false (kind.means s).hooks t l.lifecycle (left t ts)
        → InOrder kind hand (h ++ t.id ∷ []) v (record l { slots = ys; lifecycle = left t ts; world = w })
    refused_in_order d' w xs s s' ts free gone f r joins e = record {
      few = room l.slots (Some t) ys o.few g;
      counted = counted_given h l.slots o.counted t ys g;
      listed = given_listed l.slots t l.lifecycle o.listed ys g ts joins;
      hooked = entered_hooked l.slots ys t false given_marks v v l.lifecycle _ (λ p e. e) (kind.means s).hooks e _ _ (stood_before (kind.means s).hooks) o.hooked;
      refused = entered_refused l.slots ys t false given_marks v v l.lifecycle _ (λ p e. e) (kind.means s).hooks e o.refused;
      register = one_insert_refused kind l.slots o.few hand t ys g (Drawn (own_source t) d') l.world w xs s s' free (λ k. new_keys d' k f) r o.register gone;
    }

-- LIFECYCLE ENTRIES FIT BUT FOR THE SOURCE IN HAND
module _ {S : Type 0} (t : Token) (xs : List (Slot S)) (ts : List Token) where
  pub taken_but : (i : ℕ) → fitting xs t ≡ Some i → Listed xs ts → ListedBut t (placed xs i Handled) ts
  taken_but i f listed u m other = elim (same_or_not u.id i) [
    | inl e ↦ grind (arith, common_steps, listed u m, placed_here xs i Handled)
    | inr ne ↦ grind (arith, common_steps, listed u m, placed_other xs i u.id Handled ne)
  ]

  pub marked_fits : (i : ℕ) (b : Bool) (u : Token) → fitting (marked xs i b) u ≡ fitting xs u
  marked_fits i b u = grind (arith, common_steps, marked_place xs i u.id b, marked_version xs i u.id b)

  module _ (but : ListedBut t xs ts) where
    pub joined_but : (ts' : List Token) → Joins t ts ts' → ListedBut t xs ts'
    joined_but ts' joins u m other = elim (joins u m) [ inl old ↦ but u old other | inr e ↦ grind (arith, common_steps) ]

    pub same_but : (ys : List (Slot S)) → ((u : Token) → fitting ys u ≡ fitting xs u) → ListedBut t ys ts
    same_but ys same u m other = same u ∙ but u m other

    pub emptied_but : (slot_at xs t.id).version ≡ t.version → ListedBut t (placed xs t.id Empty) ts
    emptied_but v u m other = elim (same_or_not u.id t.id) [
      | inl e ↦ grind (arith, common_steps, but u m other)
      | inr ne ↦ grind (arith, common_steps, but u m other, placed_other xs t.id u.id Empty ne)
    ]

    -- the source goes back
    pub filled_listed : (s : S) → fitting xs t ≡ Some t.id → Listed (placed xs t.id (Occupied s)) ts
    filled_listed s fits u m = elim (same_or_not u.id t.id) [
      | inl e ↦ grind (arith, common_steps, but u m, placed_here xs t.id (Occupied s))
      | inr ne ↦ grind (arith, common_steps, but u m, placed_other xs t.id u.id (Occupied s) ne)
    ]

    -- it does not, and its entries go
    pub gone_listed : Listed xs (left t ts)
    gone_listed u m = grind (arith, common_steps, in_filter (apart t) ts u, but u)
