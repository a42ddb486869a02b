-- Each call leaves the timers, entries and level lines of all other sources.
use Rattle.std.proofs.Common.{◌≡◌, ℕ, ◌≤◌, Bool, true, false, length, List, [], ◌++◌, Some, None, Option, ◌⊎◌, inl, inr, refl, ap, sym, ◌∙◌, subst, arith}
use Rattle.std.proofs.lemmas.Grind.{common_steps}
use Rattle.std.specs.Option.{option_map_or}
use Rattle.token.specs.declared.token.Token.{Token}
use Rattle.token.specs.Key.{own_source, same_source}
use Rattle.token.specs.Refusal.{done, refused}
use Rattle.poller.specs.Meaning.{Answer}
use Rattle.list.specs.Slots.{fitting, placed, slot_at, standing, vacant_of}
use Rattle.list.specs.declared.slots.Place.{Place}
use Rattle.list.specs.declared.slots.Place.TheVariants.{Empty, Handled, Occupied}
use Rattle.list.specs.declared.slots.Slot.{Slot}
use Rattle.sys.specs.Laws.{In}
use Rattle.sys.specs.World.{Exchange, World}
use Rattle.rules.specs.Kinds.{Free, Reaches}
use Rattle.rules.specs.Meaning.{Drawn, Nothing}
use Rattle.rules.specs.Timers.{standings}
use Rattle.kinds.specs.declared.source.EventSource.{Ghosts as EventSourceOf}
use Rattle.model.specs.Calls.{Acted, Inserted, Released, acted, admits, disable_by, disable_of, emptied, enable_by, enable_of, insert_at, insert_of, inserted, inserted_by, releases, remove_by, remove_of, renews, standing_at, update_by, update_of, withdraws}
use Rattle.model.specs.Course.{Takes}
use Rattle.model.specs.Order.{InOrder}
use Rattle.model.specs.Others.{LeavesOthers, beside, counters_of, slot_given}
use Rattle.model.specs.Register.{KeyOf, OneRegister, Owner, Owners, changed, owner, owner_in, owners, token_in}
use Rattle.model.specs.State.{Loop}
use Rattle.model.proofs.Course.{taken_made}
use Rattle.model.proofs.Hand.{one_calm}
use Rattle.model.proofs.Kept.{Lawful, Registered, Reregistered, Unasked, Unregistered, admitted, left_so, renewed, withdrawn}
use Rattle.model.proofs.Order.{drawn_keys, its_keys, standing_here}
use Rattle.model.proofs.Others.{leaves_all, leaves_others}
use Rattle.model.proofs.Register.{changed_here, changed_other, none_of, one_new, owners_vacant}
use Rattle.model.proofs.Rest.{fits_there}
use Rattle.model.proofs.Slots.{GivenOut, given_fits, given_out, placed_here, same_or_not}

pub owner_ids : {S : Type 0} (kind : EventSourceOf S) (xs : List (Slot S)) (j : ℕ) (p : Owner) → owners kind xs j ≡ Some p → p.token.id ≡ j
owner_ids {S} kind xs j p is = by_place (slot_at xs j).place is
  where
    by_place : (q : Place S) → owner_in kind (token_in xs j) q ≡ Some p → p.token.id ≡ j
    by_place Empty e = grind (arith, common_steps)
    by_place Handled e = grind (arith, common_steps)
    by_place (Occupied s) e = grind (arith, common_steps)

-- no source is in hand
pub none_away : (t : Token) (p : Owner) → None ≡ Some p → same_source p.token t ≡ false
none_away t p e = absurd (grind (arith, common_steps))

module _ {S : Type 0} (kind : EventSourceOf S) (laws : Lawful kind) (h : List ℕ) (v : List Token) (l : Loop S) (o : InOrder kind None h v l) where
  abbrev who : Owners
  who = owners kind l.slots

  one : OneRegister who l.world
  one = (one_calm kind l.slots o.few l.world).0 o.register

  -- from these sources and this world to those
  abbrev Leaves : ℕ → Loop S → Type 0
  Leaves i l' = LeavesOthers i who (owners kind l'.slots) l.world l'.world

  -- A SOURCE IN ITS SLOT
  module _ (t : Token) (s : S) (fits : fitting l.slots t ≡ Some t.id) (there : (slot_at l.slots t.id).place ≡ Occupied s) (xs : List Exchange) where
    its : owners kind l.slots t.id ≡ Some (owner kind (token_in l.slots t.id) s)
    its = grind (arith, common_steps)

    counters_before : counters_of (who t.id) ≡ (kind.means s).counters
    counters_before = ap counters_of its

    acted_leaves : (D : ℕ → Type 0) (w : World) (s' : S) (b : Bool) → ((k : ℕ) → D k → KeyOf (token_in l.slots t.id) k) → Reaches D (kind.means s) l.world xs (kind.means s') w
        → LeavesOthers t.id who (owners kind (standing l.slots t.id s' b)) l.world w
    acted_leaves D w s' b drew r =
        let after : counters_of (owners kind (standing l.slots t.id s' b) t.id) ≡ (kind.means s').counters = grind (arith, common_steps, standing_here l.slots t.id s' b (grind (arith, common_steps))) in
        leaves_others who t.id (owner kind (token_in l.slots t.id) s) its D drew l.world w xs (kind.means s') r one (owner_ids kind l.slots) (owners kind (standing l.slots t.id s' b)) counters_before
        (λ x. subst (λ cs. (standings x w.wheel.timers ≤ standings x l.world.wheel.timers) ⊎ In x.counter cs) (sym after) (r.timers.own x))
        (λ k m. elim (r.timers.joins k (subst (In k) after m)) [ inl was ↦ inl was | inr new ↦ inr new.0 ])

    registered_leaves : (a : Acted S) (b : Bool) → Registered kind l.lifecycle l.world s t xs a → Leaves t.id (acted l t.id b a).1
    registered_leaves a b u =
        let law = laws.registering s l.world (own_source t) xs a.answer a.source a.world u.drawer u.asked in
        acted_leaves (Drawn (own_source t) u.drawer) a.world a.source _ (λ k. its_keys kind None h v l o t (none_away t) s fits there u.drawer k law.draws) law.reaches

    reregistered_leaves : (a : Acted S) (b : Bool) → Reregistered kind l.lifecycle l.world s t xs a → Leaves t.id (acted l t.id b a).1
    reregistered_leaves a b u =
        let law = laws.reregistering s l.world (own_source t) xs a.answer a.source a.world u.drawer u.asked in
        acted_leaves (Drawn (own_source t) u.drawer) a.world a.source _ (λ k. its_keys kind None h v l o t (none_away t) s fits there u.drawer k law.draws) law.reaches

    unregistered_leaves : (a : Acted S) (b : Bool) → Unregistered kind l.lifecycle l.world s t xs a → Leaves t.id (acted l t.id b a).1
    unregistered_leaves a b u =
        let law = laws.unregistering s l.world xs a.answer a.source a.world u.asked in
        acted_leaves Nothing a.world a.source _ (none_of (token_in l.slots t.id)) law.reaches

    unasked_leaves : (a : Acted S) (b : Bool) → Unasked kind l.lifecycle l.world s t xs a → Leaves t.id (acted l t.id b a).1
    unasked_leaves a b u = leaves_all t.id who _ l.world a.world u.world

    -- it left
    removed_leaves : (w : World) (s' : S) → Reaches Nothing (kind.means s) l.world xs (kind.means s') w → LeavesOthers t.id who (owners kind (placed l.slots t.id Empty)) l.world w
    removed_leaves w s' r =
        let after : counters_of (owners kind (placed l.slots t.id Empty) t.id) ≡ [] = grind (arith, common_steps, placed_here l.slots t.id Empty) in
        leaves_others who t.id (owner kind (token_in l.slots t.id) s) its Nothing (none_of (token_in l.slots t.id)) l.world w xs (kind.means s') r one (owner_ids kind l.slots) (owners kind (placed l.slots t.id Empty)) counters_before
        (λ x. elim (r.timers.only x) [ inl few ↦ inl few | inr n ↦ absurd n ])
        (λ k m. absurd (subst (In k) after m))

  module _ (t : Token) (xs : List Exchange) where
    nothing_done : {A : Type 0} (a : A) (r : A × Loop S) → r ≡ (a, l) → Leaves t.id r.1
    nothing_done {A} a r e = leaves_all t.id who _ l.world r.1.world (ap (λ (x : A × Loop S). x.1.world) e)

    enable_by_place : (r : Answer × Loop S) (f : Option ℕ) (e : Bool) (p : Place S) → fitting l.slots t ≡ f → standing_at l.slots f ≡ p → Takes kind (enable_by kind l t e p) xs r → Leaves t.id r.1
    enable_by_place r f e Empty q is k = nothing_done _ r k.1
    enable_by_place r f e Handled q is k = nothing_done _ r k.1
    enable_by_place r f true (Occupied s) q is k = nothing_done _ r k.1
    enable_by_place r f false (Occupied s) q is k =
        let at = fits_there l.slots t f s q is in
        let m = taken_made kind (acted l t.id true) r (admits kind l.lifecycle l.world s t) xs k in
        rw m.2 (elim (admitted kind l.lifecycle l.world s t xs m.0 m.1) [ inl u ↦ unasked_leaves t s at.0 at.1 xs m.0 true u | inr u ↦ registered_leaves t s at.0 at.1 xs m.0 true u ])

    update_by_place : (r : Answer × Loop S) (f : Option ℕ) (p : Place S) → fitting l.slots t ≡ f → standing_at l.slots f ≡ p → Takes kind (update_by kind l t p) xs r → Leaves t.id r.1
    update_by_place r f Empty q is k = nothing_done _ r k.1
    update_by_place r f Handled q is k = leaves_all t.id who _ l.world r.1.world (ap (λ (x : Answer × Loop S). x.1.world) k.1)
    update_by_place r f (Occupied s) q is k =
        let at = fits_there l.slots t f s q is in
        let m = taken_made kind (acted l t.id true) r (renews kind l.lifecycle l.world s t) xs k in
        rw m.2 (elim (renewed kind l.lifecycle l.world s t xs m.0 m.1) [ inl u ↦ unasked_leaves t s at.0 at.1 xs m.0 true u | inr u ↦ reregistered_leaves t s at.0 at.1 xs m.0 true u ])

    disable_by_place : (r : Answer × Loop S) (f : Option ℕ) (p : Place S) → fitting l.slots t ≡ f → standing_at l.slots f ≡ p → Takes kind (disable_by kind l t p) xs r → Leaves t.id r.1
    disable_by_place r f Empty q is k = nothing_done _ r k.1
    disable_by_place r f Handled q is k = leaves_all t.id who _ l.world r.1.world (ap (λ (x : Answer × Loop S). x.1.world) k.1)
    disable_by_place r f (Occupied s) q is k =
        let at = fits_there l.slots t f s q is in
        let m = taken_made kind (acted l t.id false) r (withdraws kind l.lifecycle l.world s t) xs k in
        rw m.2 (unregistered_leaves t s at.0 at.1 xs m.0 false (withdrawn kind l.lifecycle l.world s t xs m.0 m.1))

    remove_by_place : (r : Bool × Loop S) (f : Option ℕ) (p : Place S) → fitting l.slots t ≡ f → standing_at l.slots f ≡ p → Takes kind (remove_by kind l t p) xs r → Leaves t.id r.1
    remove_by_place r f Empty q is k = nothing_done _ r k.1
    remove_by_place r f Handled q is k = leaves_all t.id who _ l.world r.1.world (ap (λ (x : Bool × Loop S). x.1.world) k.1)
    remove_by_place r f (Occupied s) q is k =
        let at = fits_there l.slots t f s q is in
        let m = taken_made kind (λ (u : Released). (true, record (emptied l t) { lifecycle = u.lifecycle; world = u.world })) r (releases kind l.lifecycle l.world s t) xs k in
        let left = left_so kind laws l.lifecycle l.world s t xs m.0 m.1 in
        rw m.2 (removed_leaves t s at.0 at.1 xs m.0.world left.source left.reaches)

    pub enable_leaves : (r : Answer × Loop S) → Takes kind (enable_of kind l t) xs r → Leaves t.id r.1
    enable_leaves r k = enable_by_place r (fitting l.slots t) (slot_at l.slots t.id).enabled (standing_at l.slots (fitting l.slots t)) refl refl k

    pub update_leaves : (r : Answer × Loop S) → Takes kind (update_of kind l t) xs r → Leaves t.id r.1
    update_leaves r k = update_by_place r (fitting l.slots t) (standing_at l.slots (fitting l.slots t)) refl refl k

    pub disable_leaves : (r : Answer × Loop S) → Takes kind (disable_of kind l t) xs r → Leaves t.id r.1
    disable_leaves r k = disable_by_place r (fitting l.slots t) (standing_at l.slots (fitting l.slots t)) refl refl k

    pub remove_leaves : (r : Bool × Loop S) → Takes kind (remove_of kind l t) xs r → Leaves t.id r.1
    remove_leaves r k = remove_by_place r (fitting l.slots t) (standing_at l.slots (fitting l.slots t)) refl refl k

  -- AN INSERT of a source that holds nothing
  module _ (s : S) (free : Free (kind.means s)) (xs : List Exchange) where
    module _ (t : Token) (ys : List (Slot S)) (g : vacant_of l.slots ≡ (Some t, ys)) where
      out : GivenOut l.slots t ys
      out = given_out l.slots t ys g

      -- before it registers
      abbrev newcomer : Owner
      newcomer = owner kind (token_in ys t.id) s

      abbrev with_it : Owners
      with_it = changed who t.id (Some newcomer)

      with_it_ids : (j : ℕ) (p : Owner) → with_it j ≡ Some p → p.token.id ≡ j
      with_it_ids j p is = elim (same_or_not j t.id) [ inl e ↦ grind (arith, common_steps) | inr ne ↦ owner_ids kind l.slots j p (grind (arith, common_steps)) ]

      -- it was registered, and these are the counters of what stands in the slot then
      joined_leaves : (d' : Token) (w : World) (s' : S) (zs : List (Slot S)) → Reaches (Drawn (own_source t) d') (kind.means s) l.world xs (kind.means s') w → ((k : ℕ) → Drawn (own_source t) d' k → KeyOf (token_in ys t.id) k)
          → counters_of (owners kind zs t.id) ≡ (kind.means s').counters → LeavesOthers t.id who (owners kind zs) l.world w
      joined_leaves d' w s' zs r drew after =
          let was = one_new who t.id l.world newcomer (owners_vacant kind l.slots t ys g) free one in
          let k = leaves_others with_it t.id newcomer (changed_here who t.id (Some newcomer)) (Drawn (own_source t) d') drew l.world w xs (kind.means s') r was with_it_ids (owners kind zs)
          (ap counters_of (changed_here who t.id (Some newcomer)))
          (λ x. subst (λ cs. (standings x w.wheel.timers ≤ standings x l.world.wheel.timers) ⊎ In x.counter cs) (sym after) (r.timers.own x))
          (λ n m. elim (r.timers.joins n (subst (In n) after m)) [ inl old ↦ inl old | inr new ↦ inr new.0 ]) in
          let none : counters_of (with_it t.id) ≡ counters_of (who t.id) =
          ap counters_of (changed_here who t.id (Some newcomer)) ∙ free.counters ∙ sym (ap counters_of (owners_vacant kind l.slots t ys g)) in
          record {
            others = λ j p ne is. k.others j p ne (changed_other who t.id (Some newcomer) j ne ∙ is);
            timers = subst (λ cs. beside (cs ++ counters_of (owners kind zs t.id)) w.wheel.timers ≡ beside (cs ++ counters_of (owners kind zs t.id)) l.world.wheel.timers) none k.timers;
          }

      module _ (a : Acted S) where
        newcomer_leaves : (b : Answer) → a.answer ≡ b → Registered kind l.lifecycle l.world s t xs a → Leaves t.id (inserted_by l ys t a b).1
        newcomer_leaves (done u) e k =
            let law = laws.registering s l.world (own_source t) xs a.answer a.source a.world k.drawer k.asked in
            joined_leaves k.drawer a.world a.source (standing ys t.id a.source true) law.reaches
            (λ n d. grind (arith, common_steps, drawn_keys t t k.drawer n refl refl (given_fits l.slots t ys g) law.draws d, out.here))
            (grind (arith, common_steps, standing_here ys t.id a.source true out.within))
        newcomer_leaves (refused n c) e k =
            let law = laws.registering s l.world (own_source t) xs a.answer a.source a.world k.drawer k.asked in
            joined_leaves k.drawer a.world a.source ys law.reaches
            (λ n d. grind (arith, common_steps, drawn_keys t t k.drawer n refl refl (given_fits l.slots t ys g) law.draws d, out.here))
            (grind (arith, common_steps, out.here, (law.refusing n c e).counters))

        -- nothing was registered
        back_leaves : Unasked kind l.lifecycle l.world s t xs a → Leaves t.id (inserted_by l ys t a a.answer).1
        back_leaves u = rw u.refusal (leaves_all t.id who _ l.world a.world u.world)

    insert_by_slot : (x : Option Token × List (Slot S)) → vacant_of l.slots ≡ x → (r : Inserted S × Loop S) → Takes kind (insert_at kind l s x) xs r → Leaves (option_map_or (λ (t : Token). t.id) x.0 (length l.slots)) r.1
    insert_by_slot (None, ys) g r k = leaves_all _ who _ l.world r.1.world (ap (λ (x : Inserted S × Loop S). x.1.world) k.1)
    insert_by_slot (Some t, ys) g r k =
        let m = taken_made kind (inserted l ys t) r (admits kind l.lifecycle l.world s t) xs k in
        rw m.2 (elim (admitted kind l.lifecycle l.world s t xs m.0 m.1) [ inl u ↦ back_leaves t ys g m.0 u | inr u ↦ newcomer_leaves t ys g m.0 m.0.answer refl u ])

    pub insert_leaves : (r : Inserted S × Loop S) → Takes kind (insert_of kind l s) xs r → Leaves (slot_given l.slots) r.1
    insert_leaves r k = insert_by_slot (vacant_of l.slots) refl r k
