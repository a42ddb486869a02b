-- The loop in order with no source in hand, and with one: each step of a dispatch between the two.
use Rattle.std.proofs.Common.{◌≡◌, ◌≢◌, ◌⊎◌, ℕ, ◌^◌, ◌<◌, ◌≤◌, Bool, true, false, length, List, [], Some, None, Option, inl, inr, refl, sym, ap, ◌∙◌, subst, arith}
use Rattle.std.proofs.lemmas.Grind.{common_steps}
use Rattle.token.specs.declared.token.Token.{Token}
use Rattle.token.specs.Key.{own_source, same_source}
use Rattle.token.specs.Refusal.{Outcome}
use Rattle.list.specs.Entries.{apart, left}
use Rattle.list.specs.Slots.{Apart, Calm, Filled, fitting, marked, placed, slot_at, token_at}
use Rattle.list.specs.declared.slots.Place.TheVariants.{Empty, Handled, Occupied}
use Rattle.list.specs.declared.slots.Slot.{Slot}
use Rattle.sys.specs.Laws.{In}
use Rattle.sys.specs.World.{World, Exchange}
use Rattle.sys.proofs.Entries.{in_filter, passes}
use Rattle.rules.specs.Kinds.{Processing, Reaches}
use Rattle.rules.specs.Meaning.{Drawer, Drawn, Forward, Meaning}
use Rattle.kinds.specs.declared.source.EventSource.{Ghosts as EventSourceOf}
use Rattle.model.specs.Calls.{standing_at}
use Rattle.model.specs.Counts.{Counted}
use Rattle.model.specs.Order.{HasEntry, Hooked, InOrder, Joins, Listed, ListedBut, OnlyRefused}
use Rattle.model.specs.Register.{KeyOf, OneRegister, Owner, holders, in_hand, owner, owners, token_in}
use Rattle.model.specs.State.{Loop}
use Rattle.model.proofs.Counts.{counted_fits, counted_placed}
use Rattle.model.proofs.Entries.{Entered, Fewer, Marks, Stood, entered_hooked, entered_refused, fewer_emptied, fewer_hooked, fewer_placed, fewer_refused, fewer_same, still_has, stood_same}
use Rattle.model.proofs.Hand.{holders_at, holders_placed, no_source, one_back, one_freed, one_handled, one_in_hand, one_let_go, one_taken}
use Rattle.model.proofs.Order.{drawn_keys, emptied_but, filled_listed, gone_listed, joined_but, marked_fits, same_but, taken_but}
use Rattle.model.proofs.Register.{changed_here, one_same, who_stands}
use Rattle.model.proofs.Slots.{marked_here, marked_length, marked_other, marked_place, marked_version, placed_here, placed_length, placed_other, placed_version, same_or_not}

-- what is in order, and no source is being handled
pub record AtRest {S : Type 0} (kind : EventSourceOf S) (h : List ℕ) (v : List Token) (xs : List (Slot S)) (ts : List Token) (w : World) : Type 0 where
  pub few : length xs ≤ 1024
  pub counted : Counted h xs
  pub listed : Listed xs ts
  pub hooked : Hooked (holders kind xs None) xs ts
  pub refused : OnlyRefused v xs ts
  pub calm : Calm xs
  pub register : OneRegister (holders kind xs None) w

-- the source `s` of the token is being handled, and all else is in order
pub record Holding {S : Type 0} (kind : EventSourceOf S) (h : List ℕ) (v : List Token) (t : Token) (s : S) (xs : List (Slot S)) (ts : List Token) (w : World) : Type 0 where
  pub few : length xs ≤ 1024
  pub counted : Counted h xs
  pub listed : ListedBut t xs ts
  pub hooked : Hooked (holders kind xs (Some (owner kind (own_source t) s))) xs ts
  pub refused : OnlyRefused v xs ts
  pub apart : Apart xs t
  pub register : OneRegister (holders kind xs (Some (owner kind (own_source t) s))) w

module _ {S : Type 0} (kind : EventSourceOf S) (h : List ℕ) (v : List Token) (l : Loop S) where
  pub at_rest : InOrder kind None h v l → Calm l.slots → AtRest kind h v l.slots l.lifecycle l.world
  at_rest o calm = record { few = o.few; counted = o.counted; listed = o.listed; hooked = o.hooked; refused = o.refused; calm = calm; register = o.register }

  pub in_order : AtRest kind h v l.slots l.lifecycle l.world → InOrder kind None h v l × Calm l.slots
  in_order r = (record { few = r.few; counted = r.counted; listed = r.listed; hooked = r.hooked; refused = r.refused; register = r.register }, r.calm)

-- the token fits the slot in which its source stands
pub fits_there : {S : Type 0} (xs : List (Slot S)) (t : Token) (f : Option ℕ) (s : S) → fitting xs t ≡ f → standing_at xs f ≡ Occupied s
    → (fitting xs t ≡ Some t.id) × ((slot_at xs t.id).place ≡ Occupied s)
fits_there xs t f s e p = grind (arith, common_steps)

pub fits_own : {S : Type 0} (xs : List (Slot S)) (t : Token) (i : ℕ) → fitting xs t ≡ Some i → i ≡ t.id
fits_own xs t i e = grind (arith, common_steps)

module _ {S : Type 0} (kind : EventSourceOf S) (h : List ℕ) (v : List Token) (xs : List (Slot S)) (ts : List Token) (w : World) (r : AtRest kind h v xs ts w)
    (t : Token) (s : S) (fits : fitting xs t ≡ Some t.id) (there : (slot_at xs t.id).place ≡ Occupied s) where
  within : t.id < length xs
  within = grind (arith, common_steps)

  version : (slot_at xs t.id).version ≡ t.version
  version = grind (arith, common_steps)

  -- A HOOK of it was called, and it means what it meant.
  module _ (s' : S) (same : kind.means s' ≡ kind.means s) where
    abbrev after : List (Slot S)
    after = placed xs t.id (Occupied s')

    still_there : Fewer xs after
    still_there = fewer_placed xs t.id (Occupied s') within (grind (arith, common_steps))

    hooked_fits : (u : Token) → fitting after u ≡ fitting xs u
    hooked_fits u = elim (same_or_not u.id t.id) [
      | inl e ↦ grind (arith, common_steps, placed_here xs t.id (Occupied s') within)
      | inr ne ↦ grind (arith, common_steps, placed_other xs t.id u.id (Occupied s') ne)
    ]

    hooked_calm : Calm after
    hooked_calm j = elim (same_or_not j t.id) [
      | inl e ↦ grind (arith, common_steps, placed_here xs t.id (Occupied s') within)
      | inr ne ↦ grind (arith, common_steps, placed_other xs t.id j (Occupied s') ne, r.calm j)
    ]

    hooked_holders : (j : ℕ) → holders kind after None j ≡ holders kind xs None j
    hooked_holders j = grind (arith, common_steps, holders_placed kind xs r.few None t.id (Occupied s') within j, holders_at kind xs r.few None t.id (Occupied s) within there)

    pub hooked_rests : AtRest kind h v after ts w
    hooked_rests = record {
      few = subst (λ (n : ℕ). n ≤ 1024) (sym (placed_length xs t.id (Occupied s'))) r.few;
      counted = counted_placed h xs r.counted t.id (Occupied s');
      listed = λ u m. hooked_fits u ∙ r.listed u m;
      hooked = fewer_hooked xs after still_there ts _ _ (λ j o is. stood_same (holders kind xs None) j o (sym (hooked_holders j) ∙ is)) r.hooked;
      refused = fewer_refused xs after still_there ts v r.refused;
      calm = hooked_calm;
      register = one_same _ _ w hooked_holders r.register;
    }

  -- IT IS TAKEN IN HAND
  taken_apart : Apart (placed xs t.id Handled) t
  taken_apart = record {
    out = record { within = subst (λ (n : ℕ). t.id < n) (sym (placed_length xs t.id Handled)) within; there = λ f. grind (arith, common_steps, placed_here xs t.id Handled within) };
    version = placed_version xs t.id t.id Handled ∙ version;
    others = λ j ne. grind (arith, common_steps, placed_other xs t.id j Handled ne, r.calm j);
  }

  -- each source is another's slot's, or the one in hand, which stood in its own
  taken_stood : (j : ℕ) (o : Owner) → holders kind (placed xs t.id Handled) (Some (owner kind (own_source t) s)) j ≡ Some o → Stood (holders kind xs None) o
  taken_stood j o is = elim (same_or_not j in_hand) [
    | inl e ↦ record { where_it_stood = t.id; before = owner kind (token_in xs t.id) s; there = holders_at kind xs r.few None t.id (Occupied s) within there; token = grind (arith, common_steps, version); hooks = grind (arith, common_steps) }
    | inr ne ↦ stood_same (holders kind xs None) j o (elsewhere ne)
  ]
    where
      elsewhere : (j ≢ in_hand) → holders kind xs None j ≡ Some o
      elsewhere ne = grind (arith, common_steps, holders_placed kind xs r.few None t.id Handled within j)

  pub taken_holding : Holding kind h v t s (placed xs t.id Handled) ts w
  taken_holding = record {
    few = subst (λ (n : ℕ). n ≤ 1024) (sym (placed_length xs t.id Handled)) r.few;
    counted = counted_placed h xs r.counted t.id Handled;
    listed = taken_but t xs ts t.id fits r.listed;
    hooked = fewer_hooked xs (placed xs t.id Handled) (fewer_placed xs t.id Handled within (grind (arith, common_steps))) ts _ _ taken_stood r.hooked;
    refused = fewer_refused xs (placed xs t.id Handled) (fewer_placed xs t.id Handled within (grind (arith, common_steps))) ts v r.refused;
    apart = taken_apart;
    register = subst (λ (v : ℕ). OneRegister (holders kind (placed xs t.id Handled) (Some (owner kind (token_at t.id v) s))) w) version (one_taken kind xs r.few t.id s w within there r.register);
  }

module _ {S : Type 0} (kind : EventSourceOf S) (h : List ℕ) (v : List Token) (t : Token) (s : S) (xs : List (Slot S)) (ts : List Token) (w : World) (k : Holding kind h v t s xs ts w) where
  -- a source that is not in hand is another than the one that is, and stands there whichever that is
  others_apart : (a b : Option Owner) (j : ℕ) (o : Owner) → (j ≢ in_hand) → holders kind xs a j ≡ Some o → (same_source o.token t ≡ false) × (holders kind xs b j ≡ Some o)
  others_apart a b j o ne is = elim (same_or_not j t.id) [
    | inl e ↦ absurd (grind (arith, common_steps, no_source kind (token_in xs j) (slot_at xs j).place (λ f. k.apart.out.there (subst (λ (n : ℕ). Filled (slot_at xs n).place) e f))))
    | inr not ↦ grind (arith, common_steps)
  ]

  -- the source in hand changes, and wants hooks as before
  hand_stood : (s' : S) → (kind.means s').hooks ≡ (kind.means s).hooks → (j : ℕ) (o : Owner) → holders kind xs (Some (owner kind (own_source t) s')) j ≡ Some o → Stood (holders kind xs (Some (owner kind (own_source t) s))) o
  hand_stood s' same j o is = elim (same_or_not j in_hand) [
    | inl e ↦ record { where_it_stood = in_hand; before = owner kind (own_source t) s; there = grind (arith, common_steps); token = grind (arith, common_steps); hooks = grind (arith, common_steps) }
    | inr ne ↦ stood_same (holders kind xs (Some (owner kind (own_source t) s))) j o (grind (arith, common_steps))
  ]

  hand_hooked : (s' : S) → (kind.means s').hooks ≡ (kind.means s).hooks → Hooked (holders kind xs (Some (owner kind (own_source t) s'))) xs ts
  hand_hooked s' same = fewer_hooked xs xs (fewer_same xs) ts _ _ (hand_stood s' same) k.hooked

  -- what a factory of its token draws are its keys
  pub hand_keys : (d' : Drawer) (n : ℕ) → Forward (own_source t) d' → Drawn (own_source t) d' n → KeyOf (own_source t) n
  hand_keys d' n f drawn = drawn_keys t (own_source t) d' n refl refl (subst (λ (v : ℕ). v < 2 ^ 16) k.apart.version (counted_fits h xs k.counted t.id)) f drawn

  -- IT PROCESSES AN EVENT
  pub processed_holding : {E T : Type 0} (w' : World) (s' : S) (e : Token) (es es' : List E) (qs : List Exchange) (r : Outcome T) → Processing (kind.means s) w e es qs r (kind.means s') w' es' → Holding kind h v t s' xs ts w'
  processed_holding w' s' e es es' qs r p = record {
    few = k.few;
    counted = k.counted;
    listed = k.listed;
    hooked = hand_hooked s' (ap (λ (m : Meaning). m.hooks) p.same);
    refused = k.refused;
    apart = k.apart;
    register = one_handled kind xs k.few (owner kind (own_source t) s) w w' (kind.means s') e es es' qs r p k.register;
  }

  -- IT REACHES the polling system
  pub reached_holding : (D : ℕ → Type 0) (qs : List Exchange) (w' : World) (s' : S) → ((n : ℕ) → D n → KeyOf (own_source t) n)
      → Reaches D (kind.means s) w qs (kind.means s') w' → Holding kind h v t s' xs ts w'
  reached_holding D qs w' s' drew r = record {
    few = k.few;
    counted = k.counted;
    listed = k.listed;
    hooked = hand_hooked s' r.hooks;
    refused = k.refused;
    apart = k.apart;
    register = one_in_hand kind xs k.few (owner kind (own_source t) s) D w w' qs (kind.means s') drew r k.register;
  }

  -- WHAT ITS SLOT SAYS of it, where it fits
  pub had : fitting xs t ≡ Some t.id → (slot_at xs t.id).enabled ≡ true → (kind.means s).hooks ≡ true → HasEntry t ts
  had fits on wants =
      let e = k.hooked in_hand (owner kind (own_source t) s) (changed_here (owners kind xs) in_hand (Some (owner kind (own_source t) s))) wants (record { fits = fits; says = on }) in
      (e.0, e.1, grind (arith, common_steps, e.2))

  pub had_refused : fitting xs t ≡ Some t.id → (slot_at xs t.id).enabled ≡ false → (u : Token) → In u ts → same_source u t ≡ true → HasEntry u v
  had_refused fits off u m same = k.refused u m (grind (arith, common_steps)) (grind (arith, common_steps))

  -- IT REACHES the polling system, its entries change, and its slot says whether it is enabled
  module _ (b : Bool) where
    abbrev i : ℕ
    i = t.id

    hand_marks : Marks xs (marked xs i b) t b
    hand_marks = record {
      here = λ f. marked_here xs i b k.apart.out.within;
      fits = λ u f not. elim (same_or_not u.id i) [
        | inl e ↦ absurd (grind (arith, common_steps, marked_version xs i u.id b, k.apart.version))
        | inr ne ↦ grind (arith, common_steps, marked_other xs i u.id b ne)
      ];
    }

    marked_holders : (o : Option Owner) (j : ℕ) → holders kind (marked xs i b) o j ≡ holders kind xs o j
    marked_holders o j = grind (arith, common_steps, marked_place xs i j b, marked_version xs i j b)

    marked_stood : (s' : S) → (kind.means s').hooks ≡ (kind.means s).hooks → (j : ℕ) (o : Owner) → holders kind (marked xs i b) (Some (owner kind (own_source t) s')) j ≡ Some o
        → ((same_source o.token t ≡ true) × (o.means.hooks ≡ (kind.means s).hooks)) ⊎ ((same_source o.token t ≡ false) × (holders kind xs (Some (owner kind (own_source t) s)) j ≡ Some o))
    marked_stood s' same j o is = elim (same_or_not j in_hand) [
      | inl e ↦ inl (grind (arith, common_steps))
      | inr ne ↦ inr (others_apart (Some (owner kind (own_source t) s')) (Some (owner kind (own_source t) s)) j o ne (sym (marked_holders (Some (owner kind (own_source t) s')) j) ∙ is))
    ]

    marked_apart : Apart (marked xs i b) t
    marked_apart = record {
      out = record { within = subst (λ (n : ℕ). t.id < n) (sym (marked_length xs i b)) k.apart.out.within; there = λ f. k.apart.out.there (subst Filled (marked_place xs i t.id b) f) };
      version = marked_version xs i t.id b ∙ k.apart.version;
      others = λ j ne e. k.apart.others j ne (sym (marked_place xs i j b) ∙ e);
    }

    pub marked_holding : (D : ℕ → Type 0) (qs : List Exchange) (w' : World) (s' : S) (ts' : List Token) → ((n : ℕ) → D n → KeyOf (own_source t) n)
        → Reaches D (kind.means s) w qs (kind.means s') w' → Entered v b (kind.means s).hooks t ts ts' → Holding kind h v t s' (marked xs i b) ts' w'
    marked_holding D qs w' s' ts' drew r e = record {
      few = subst (λ (n : ℕ). n ≤ 1024) (sym (marked_length xs i b)) k.few;
      counted = record { versions = λ j. marked_version xs i j b ∙ k.counted.versions j };
      listed = same_but t xs ts' (joined_but t xs ts k.listed ts' e.joins) (marked xs i b) (marked_fits t xs ts' i b);
      hooked = entered_hooked xs (marked xs i b) t b hand_marks v v ts ts' (λ p x. x) (kind.means s).hooks e _ _ (marked_stood s' r.hooks) k.hooked;
      refused = entered_refused xs (marked xs i b) t b hand_marks v v ts ts' (λ p x. x) (kind.means s).hooks e k.refused;
      apart = marked_apart;
      register = one_same _ _ w' (marked_holders (Some (owner kind (own_source t) s'))) (one_in_hand kind xs k.few (owner kind (own_source t) s) D w w' qs (kind.means s') drew r k.register);
    }

  -- it has no slot any more, so no slot says anything of it
  pub acted_homeless : fitting xs t ≡ None → (D : ℕ → Type 0) (qs : List Exchange) (w' : World) (s' : S) (ts' : List Token) → ((n : ℕ) → D n → KeyOf (own_source t) n)
      → Reaches D (kind.means s) w qs (kind.means s') w' → Joins t ts ts' → ((u : Token) → In u ts → apart t u ≡ true → In u ts') → Holding kind h v t s' xs ts' w'
  acted_homeless none D qs w' s' ts' drew r joins kept = record {
    few = k.few;
    counted = k.counted;
    listed = joined_but t xs ts k.listed ts' joins;
    hooked = λ j o is wants on. elim (same_or_not j in_hand) [
      | inl e ↦ absurd (grind (arith, common_steps, on.fits))
      | inr ne ↦
          let a = others_apart (Some (owner kind (own_source t) s')) (Some (owner kind (own_source t) s)) j o ne is in
          still_has t o.token ts ts' kept a.0 (k.hooked j o a.1 wants on)
    ];
    refused = λ u m fits off. elim (joins u m) [ inl old ↦ k.refused u old fits off | inr e ↦ absurd (grind (arith, common_steps)) ];
    apart = k.apart;
    register = one_in_hand kind xs k.few (owner kind (own_source t) s) D w w' qs (kind.means s') drew r k.register;
  }

  -- ITS SLOT IS EMPTIED
  emptied_apart : Apart (placed xs t.id Empty) t
  emptied_apart = record {
    out = record { within = subst (λ (n : ℕ). t.id < n) (sym (placed_length xs t.id Empty)) k.apart.out.within; there = λ f. grind (arith, common_steps, placed_here xs t.id Empty k.apart.out.within) };
    version = placed_version xs t.id t.id Empty ∙ k.apart.version;
    others = λ j ne. grind (arith, common_steps, placed_other xs t.id j Empty ne, k.apart.others j ne);
  }

  emptied_stood : (j : ℕ) (o : Owner) → holders kind (placed xs t.id Empty) (Some (owner kind (own_source t) s)) j ≡ Some o → Stood (holders kind xs (Some (owner kind (own_source t) s))) o
  emptied_stood j o is =
      let hand = Some (owner kind (own_source t) s) in
      elim (who_stands (holders kind xs hand) t.id None j o (sym (holders_placed kind xs k.few hand t.id Empty k.apart.out.within j) ∙ is)) [
        | inl a ↦ absurd (grind (arith, common_steps))
        | inr a ↦ stood_same (holders kind xs hand) j o a.1
      ]

  pub emptied_holding : Holding kind h v t s (placed xs t.id Empty) ts w
  emptied_holding = record {
    few = subst (λ (n : ℕ). n ≤ 1024) (sym (placed_length xs t.id Empty)) k.few;
    counted = counted_placed h xs k.counted t.id Empty;
    listed = emptied_but t xs ts k.listed k.apart.version;
    hooked = fewer_hooked xs (placed xs t.id Empty) (fewer_emptied xs t.id k.apart.out.within) ts _ _ emptied_stood k.hooked;
    refused = fewer_refused xs (placed xs t.id Empty) (fewer_emptied xs t.id k.apart.out.within) ts v k.refused;
    apart = emptied_apart;
    register = one_freed kind xs k.few t.id k.apart.out.within k.apart.out.there (Some (owner kind (own_source t) s)) w k.register;
  }

  -- IT GOES BACK into the slot that its token fits
  back_calm : Calm (placed xs t.id (Occupied s))
  back_calm j = elim (same_or_not j t.id) [
    | inl e ↦ grind (arith, common_steps, placed_here xs t.id (Occupied s) k.apart.out.within)
    | inr ne ↦ grind (arith, common_steps, placed_other xs t.id j (Occupied s) ne, k.apart.others j ne)
  ]

  back_stood : (j : ℕ) (o : Owner) → holders kind (placed xs t.id (Occupied s)) None j ≡ Some o → Stood (holders kind xs (Some (owner kind (own_source t) s))) o
  back_stood j o is =
      let mine = owner kind (own_source t) s in
      elim (who_stands (holders kind xs None) t.id (Some (owner kind (token_in xs t.id) s)) j o (sym (holders_placed kind xs k.few None t.id (Occupied s) k.apart.out.within j) ∙ is)) [
        | inl a ↦ record { where_it_stood = in_hand; before = mine; there = changed_here (owners kind xs) in_hand (Some mine); token = grind (arith, common_steps, a.1, k.apart.version); hooks = grind (arith, common_steps, a.1) }
        | inr a ↦ stood_same (holders kind xs (Some mine)) j o (others_apart None (Some mine) j o (λ e. grind (arith, common_steps)) a.1).1
      ]

  pub back_rests : fitting xs t ≡ Some t.id → AtRest kind h v (placed xs t.id (Occupied s)) ts w
  back_rests fits = record {
    few = subst (λ (n : ℕ). n ≤ 1024) (sym (placed_length xs t.id (Occupied s))) k.few;
    counted = counted_placed h xs k.counted t.id (Occupied s);
    listed = filled_listed t xs ts k.listed s fits;
    hooked = fewer_hooked xs (placed xs t.id (Occupied s)) (fewer_placed xs t.id (Occupied s) k.apart.out.within (grind (arith, common_steps))) ts _ _ back_stood k.hooked;
    refused = fewer_refused xs (placed xs t.id (Occupied s)) (fewer_placed xs t.id (Occupied s) k.apart.out.within (grind (arith, common_steps))) ts v k.refused;
    calm = back_calm;
    register = one_back kind xs k.few t.id k.apart.out.within k.apart.out.there s w
        (subst (λ (v : ℕ). OneRegister (holders kind xs (Some (owner kind (token_at t.id v) s))) w) (sym k.apart.version) k.register);
  }

  -- IT LEAVES, and holds nothing any more
  gone_calm : fitting xs t ≡ None → Calm xs
  gone_calm none j = elim (same_or_not j t.id) [ inl e ↦ grind (arith, common_steps, k.apart.version) | inr ne ↦ k.apart.others j ne ]

  pub gone_rests : fitting xs t ≡ None → (kind.means s).held ≡ [] → AtRest kind h v xs (left t ts) w
  gone_rests none free = record {
    few = k.few;
    counted = k.counted;
    listed = gone_listed t xs ts k.listed;
    hooked = λ j o is wants on.
        let mine = owner kind (own_source t) s in
        let a = others_apart None (Some mine) j o (λ e. grind (arith, common_steps)) is in
        still_has t o.token ts (left t ts) (λ u m b. passes (apart t) ts u m b) a.0 (k.hooked j o a.1 wants on);
    refused = λ u m. k.refused u (in_filter (apart t) ts u m).0;
    calm = gone_calm none;
    register = one_let_go kind xs k.few (owner kind (own_source t) s) w free k.register;
  }
