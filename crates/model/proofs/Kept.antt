-- The calls keep the loop in order.
use Rattle.std.specs.Prelude.{if◌then◌else◌}
use Rattle.std.proofs.Common.{◌≡◌, ℕ, true, false, Bool, ◌&&◌, nat_le, length, List, [], ◌∷◌, ◌++◌, Some, None, Option, ◌≢◌, ◌⊎◌, ◌↔◌, inl, inr, refl, ap, sym, ◌∙◌, subst, arith}
use Rattle.std.proofs.lemmas.Grind.{common_steps}
use Rattle.std.proofs.lemmas.List.{append-nil}
use Rattle.std.specs.Option.{option_map, option_to_list}
use Rattle.token.specs.declared.token.Token.{Token}
use Rattle.token.specs.Key.{own_source, same_source}
use Rattle.token.specs.Refusal.{Outcome, done, refusal, refused}
use Rattle.poller.specs.declared.entry.Readiness.{Readiness}
use Rattle.poller.specs.Meaning.{Answer}
use Rattle.post_action.specs.declared.PostAction.{PostAction}
use Rattle.list.specs.Entries.{left}
use Rattle.list.specs.Slots.{fitting, slot_at, standing, vacant_of}
use Rattle.list.specs.declared.slots.Place.{Place}
use Rattle.list.specs.declared.slots.Place.TheVariants.{Empty, Handled, Occupied}
use Rattle.list.specs.declared.slots.Slot.{Slot}
use Rattle.sys.specs.Laws.{In}
use Rattle.sys.specs.declared.event.PollEvent.{PollEvent}
use Rattle.sys.specs.World.{World, Exchange}
use Rattle.rules.specs.Calls.{Went}
use Rattle.rules.specs.Kinds.{Free, LettingGo, Processing, Reaches, Registering, Reregistering, Unregistering, Wakes}
use Rattle.rules.specs.Meaning.{Drawer, Drawn, Nothing}
use Rattle.rules.proofs.Steps.{reaches_same, reaches_then}
use Rattle.kinds.specs.declared.errand.Errand.{Errand}
use Rattle.kinds.specs.declared.source.EventSource.{Ghosts as EventSourceOf}
use Rattle.model.specs.Calls.{Acted, Inserted, Released, acted, admits, admits_by, after, disable_by, disable_of, emptied, enable_by, enable_of, hooked, idling_of, insert_at, insert_of, inserted, inserted_by, into, listed, released_by, releases, remove_by, remove_of, renews, settled, standing_at, update_by, update_of, withdraws}
use Rattle.model.specs.Course.{Takes, ends, reregisters}
use Rattle.model.specs.Order.{HasEntry, InOrder, given_out, refused_by}
use Rattle.model.specs.Register.{Owner, owner, token_in}
use Rattle.model.specs.Counts.{Counted, times, version_of}
use Rattle.model.specs.State.{Loop, new_loop}
use Rattle.model.proofs.Counts.{counted_new, given_version}
use Rattle.model.proofs.Entries.{Entered, entered_accepted, entered_back, entered_registered, entered_renewed, entered_same, entered_withdrawn, has_more}
use Rattle.model.proofs.Hand.{holders_at, one_calm}
use Rattle.model.proofs.Course.{taken_made}
use Rattle.model.proofs.Order.{acted_in_order, given_in_order, inserted_in_order, its_keys, refused_in_order, removed_in_order}
use Rattle.model.proofs.Register.{none_of, one_new_loop}

-- the laws of a kind that the calls and a dispatch use
pub record Lawful {S : Type 0} (kind : EventSourceOf S) : Type 0 where
  pub registering : (s : S) (w : World) (d : Drawer) (xs : List Exchange) (r : Answer) (s' : S) (w' : World) (d' : Drawer) → kind.registers s w d xs r s' w' d' → Registering (kind.means s) w d xs r (kind.means s') w' d'
  pub reregistering : (s : S) (w : World) (d : Drawer) (xs : List Exchange) (r : Answer) (s' : S) (w' : World) (d' : Drawer) → kind.reregisters s w d xs r s' w' d' → Reregistering (kind.means s) w d xs r (kind.means s') w' d'
  pub unregistering : (s : S) (w : World) (xs : List Exchange) (r : Answer) (s' : S) (w' : World) → kind.unregisters s w xs r s' w' → Unregistering (kind.means s) w xs r (kind.means s') w'
  pub leaving : (s : S) (w : World) (xs : List Exchange) (s' : S) (w' : World) → kind.leaves s w xs s' w' → LettingGo (kind.means s) w xs (kind.means s') w'
  pub processing : (s : S) (w : World) (x : Readiness) (t : Token) (es : List Errand) (xs : List Exchange) (r : Outcome PostAction) (s' : S) (w' : World) (es' : List Errand) → kind.processes s w x t es xs r s' w' es'
      → Processing (kind.means s) w t es xs r (kind.means s') w' es'
  pub sleeping : (s : S) (r : Outcome (Option (Readiness × Token))) (s' : S) → kind.sleeps s r s' → (kind.means s' ≡ kind.means s) × Wakes (kind.means s) r
  pub seeing : (s : S) (vs : List PollEvent) (s' : S) → kind.sees s vs s' → kind.means s' ≡ kind.means s

-- WHAT AN ACT ON A SOURCE CAME TO
module _ {S : Type 0} (kind : EventSourceOf S) (ts : List Token) (w : World) (s : S) (t : Token) (xs : List Exchange) (a : Acted S) where
  -- nothing was asked, and all is as it was
  pub record Unasked : Type 0 where
    pub refusal : a.answer ≡ refusal 18
    pub source : a.source ≡ s
    pub lifecycle : a.lifecycle ≡ ts
    pub world : a.world ≡ w

  -- it was registered, and answered so
  pub record Registered : Type 0 where
    pub drawer : Drawer
    pub asked : kind.registers s w (own_source t) xs a.answer a.source a.world drawer
    -- an entry was made before it, for one that wants hooks
    pub entry : listed (hooked kind s) t ts ≡ (done tt, a.lifecycle)

  admitted_by : (v : Answer × List Token) → listed (hooked kind s) t ts ≡ v → Takes kind (admits_by kind s w t v) xs a → Unasked ⊎ Registered
  admitted_by (done u, ts') e h = inr (record {
    drawer = h.0.drawer;
    asked = grind (arith, common_steps, append-nil h.0.exchanges);
    entry = grind (arith, common_steps);
  })
  admitted_by (refused n c, ts') e h = inl (record { refusal = grind (arith, common_steps); source = grind (arith, common_steps); lifecycle = grind (arith, common_steps); world = grind (arith, common_steps) })

  pub admitted : Takes kind (admits kind ts w s t) xs a → Unasked ⊎ Registered
  admitted h = admitted_by (listed (hooked kind s) t ts) refl h

  -- it was registered anew, and answered so
  pub record Reregistered : Type 0 where
    pub drawer : Drawer
    pub asked : kind.reregisters s w (own_source t) xs a.answer a.source a.world drawer
    -- accepted, it has one entry more, for which there was room
    pub room : (hooked kind s && nat_le 128 (length ts)) ≡ false
    pub entries : a.lifecycle ≡ after a.answer ts (listed (hooked kind s) t ts).1

  pub renewed : Takes kind (renews kind ts w s t) xs a → Unasked ⊎ Reregistered
  renewed h = renewed_by (hooked kind s && nat_le 128 (length ts)) refl h
    where
      renewed_by : (b : Bool) → (hooked kind s && nat_le 128 (length ts)) ≡ b
          → Takes kind (if b then ends (record { answer = refusal 18; source = s; lifecycle = ts; world = w })
          else reregisters s w (own_source t) (λ c. ends (record { answer = c.answer; source = c.source; lifecycle = after c.answer ts (listed (hooked kind s) t ts).1; world = c.world }))) xs a
          → Unasked ⊎ Reregistered
      renewed_by true e h = inl (record { refusal = grind (arith, common_steps); source = grind (arith, common_steps); lifecycle = grind (arith, common_steps); world = grind (arith, common_steps) })
      renewed_by false e h = inr (record {
        drawer = h.0.drawer;
        asked = grind (arith, common_steps, append-nil h.0.exchanges);
        room = e;
        entries = grind (arith, common_steps);
      })

  -- it was unregistered, and answered so
  pub record Unregistered : Type 0 where
    pub asked : kind.unregisters s w xs a.answer a.source a.world
    -- accepted, its entries are gone
    pub entries : a.lifecycle ≡ after a.answer ts (left t ts)

  pub withdrawn : Takes kind (withdraws kind ts w s t) xs a → Unregistered
  withdrawn h = record {
    asked = grind (arith, common_steps, append-nil h.0.exchanges);
    entries = grind (arith, common_steps);
  }

-- A source that left was unregistered, and let go where that was refused.
module _ {S : Type 0} (kind : EventSourceOf S) (laws : Lawful kind) (ts : List Token) (w : World) (s : S) (t : Token) (xs : List Exchange) (r : Released) where
  pub record Left : Type 0 where
    pub source : S
    pub reaches : Reaches Nothing (kind.means s) w xs (kind.means source) r.world
    pub none : (kind.means source).held ≡ []
    pub lifecycle : r.lifecycle ≡ left t ts

  released_by_answer : (c : Went (Unit {0}) S) (ys : List Exchange) (b : Answer) → c.answer ≡ b → xs ≡ c.exchanges ++ ys → kind.unregisters s w c.exchanges c.answer c.source c.world
      → Takes kind (released_by kind (left t ts) b c.source c.world) ys r → Left
  released_by_answer c ys (done u) e q h k =
      let law = laws.unregistering s w c.exchanges c.answer c.source c.world h in
      record {
        source = c.source;
        reaches = rw (q, k.1.0, append-nil c.exchanges) (subst (λ (v : World). Reaches Nothing (kind.means s) w c.exchanges (kind.means c.source) v) (ap (λ (x : Released). x.world) (sym k.1.1)) law.reaches);
        none = law.accepting e;
        lifecycle = ap (λ (x : Released). x.lifecycle) k.1.1;
      }
  released_by_answer c ys (refused n b) e q h k =
      let law = laws.unregistering s w c.exchanges c.answer c.source c.world h in
      let gone = laws.leaving c.source c.world k.0.exchanges k.0.source k.0.world k.1 in
      record {
        source = k.0.source;
        reaches = rw (q, k.3, k.4.1.0, append-nil k.0.exchanges) (subst (λ (v : World). Reaches Nothing (kind.means s) w (c.exchanges ++ k.0.exchanges) (kind.means k.0.source) v) (ap (λ (x : Released). x.world) (sym k.4.1.1))
            (reaches_then Nothing (kind.means s) (kind.means c.source) (kind.means k.0.source) w c.world k.0.world c.exchanges k.0.exchanges law.reaches gone.reaches));
        none = gone.free.held;
        lifecycle = ap (λ (x : Released). x.lifecycle) k.4.1.1;
      }

  pub left_so : Takes kind (releases kind ts w s t) xs r → Left
  left_so h = released_by_answer h.0 h.2 h.0.answer refl h.3 h.1 h.4

-- WHAT EACH CALL KEEPS
module _ {S : Type 0} (kind : EventSourceOf S) (laws : Lawful kind) (hand : Option Owner) (h : List ℕ) (v : List Token) (l : Loop S) (o : InOrder kind hand h v l) where
  -- with the tokens of the enables that were refused
  abbrev Kept : List Token → Loop S → Type 0
  Kept v' = InOrder kind hand h v'

  -- a call on a source that stands in its slot; the source in hand, if there is one, is another
  module _ (t : Token) (away : (p : Owner) → hand ≡ Some p → same_source p.token t ≡ false) (s : S) (fits : fitting l.slots t ≡ Some t.id) (there : (slot_at l.slots t.id).place ≡ Occupied s)
      (xs : List Exchange) (a : Acted S) where
    abbrev was : Bool
    was = (slot_at l.slots t.id).enabled

    -- enabled, it has an entry if it wants hooks
    had : was ≡ true → hooked kind s ≡ true → HasEntry t l.lifecycle
    had on wants =
        let mine = owner kind (token_in l.slots t.id) s in
        let version : (slot_at l.slots t.id).version ≡ t.version = grind (arith, common_steps) in
        let e = o.hooked t.id mine (holders_at kind l.slots o.few hand t.id (Occupied s) (grind (arith, common_steps)) there) wants (record { fits = grind (arith, common_steps); says = on }) in
        (e.0, e.1, grind (arith, common_steps, e.2))

    -- not enabled, it has one only by an enable that was refused
    had_refused : was ≡ false → (u : Token) → In u l.lifecycle → same_source u t ≡ true → HasEntry u v
    had_refused off u m same = o.refused u m (grind (arith, common_steps)) (grind (arith, common_steps))

    unasked_kept : (b b' : Bool) (v' : List Token) → ((p : Token) → HasEntry p v → HasEntry p v') → b' ≡ was → Unasked kind l.lifecycle l.world s t xs a
        → Kept v' (record l { slots = standing l.slots t.id a.source b'; lifecycle = a.lifecycle; world = a.world })
    unasked_kept b b' v' more e u = acted_in_order kind hand h v l o t away s fits there Nothing a.world [] a.source b' v' a.lifecycle (none_of (token_in l.slots t.id))
        (rw (u.source, u.world) (reaches_same Nothing (kind.means s) (kind.means s) l.world (record { held = refl; entered = refl; counters = refl; hooks = refl }))) more
        (rw u.lifecycle (entered_same v' (hooked kind s) t l.lifecycle b' (λ on. had (sym e ∙ on)) (λ off w m same. more w (had_refused (sym e ∙ off) w m same))))

    registered_kept : was ≡ false → Registered kind l.lifecycle l.world s t xs a → Kept (v ++ refused_by a.answer t) (acted l t.id true a).1
    registered_kept off u =
        let law = laws.registering s l.world (own_source t) xs a.answer a.source a.world u.drawer u.asked in
        acted_in_order kind hand h v l o t away s fits there (Drawn (own_source t) u.drawer) a.world xs a.source _ _ a.lifecycle (λ k. its_keys kind hand h v l o t away s fits there u.drawer k law.draws) law.reaches
        (λ p. has_more p v (refused_by a.answer t))
        (subst (λ b. Entered (v ++ refused_by a.answer t) (settled a.answer b true) (hooked kind s) t l.lifecycle a.lifecycle) (sym off) (entered_registered v (hooked kind s) t l.lifecycle a.lifecycle u.entry a.answer))

    reregistered_kept : Reregistered kind l.lifecycle l.world s t xs a → Kept v (acted l t.id true a).1
    reregistered_kept u =
        let law = laws.reregistering s l.world (own_source t) xs a.answer a.source a.world u.drawer u.asked in
        acted_in_order kind hand h v l o t away s fits there (Drawn (own_source t) u.drawer) a.world xs a.source _ v a.lifecycle (λ k. its_keys kind hand h v l o t away s fits there u.drawer k law.draws) law.reaches
        (λ p e. e) (rw u.entries (entered_renewed v (hooked kind s) t l.lifecycle was had had_refused a.answer u.room))

    unregistered_kept : Unregistered kind l.lifecycle l.world s t xs a → Kept v (acted l t.id false a).1
    unregistered_kept u =
        let law = laws.unregistering s l.world xs a.answer a.source a.world u.asked in
        acted_in_order kind hand h v l o t away s fits there Nothing a.world xs a.source _ v a.lifecycle (none_of (token_in l.slots t.id)) law.reaches
        (λ p e. e) (rw u.entries (entered_withdrawn v (hooked kind s) t l.lifecycle was had had_refused a.answer))

    -- the answer was a refusal, and all is as it was
    unasked_acted : (b : Bool) (v' : List Token) → ((p : Token) → HasEntry p v → HasEntry p v') → Unasked kind l.lifecycle l.world s t xs a → Kept v' (acted l t.id b a).1
    unasked_acted b v' more u = unasked_kept b _ v' more (grind (arith, common_steps, u.refusal)) u

  module _ (t : Token) (away : (p : Owner) → hand ≡ Some p → same_source p.token t ≡ false) (xs : List Exchange) where
    fits_there : (f : Option ℕ) (s : S) → fitting l.slots t ≡ f → standing_at l.slots f ≡ Occupied s → (fitting l.slots t ≡ Some t.id) × ((slot_at l.slots t.id).place ≡ Occupied s)
    fits_there f s e p = grind (arith, common_steps)

    -- the loop is as it was
    same_loop : {A : Type 0} (a : A) (r : A × Loop S) → r ≡ (a, l) → Kept v r.1
    same_loop a r e = rw e o

    more_refused : (w : List Token) → Kept v l → Kept (v ++ w) l
    more_refused w k = record { few = k.few; counted = k.counted; listed = k.listed; hooked = k.hooked; refused = λ u m f off. has_more u v w (k.refused u m f off); register = k.register }

    refused_loop : (a : Answer) (r : Answer × Loop S) → r ≡ (a, l) → Kept (v ++ refused_by r.0 t) r.1
    refused_loop a r e = rw e (more_refused (refused_by a t) o)

    enable_by_place : (r : Answer × Loop S) (f : Option ℕ) (e : Bool) (p : Place S) → fitting l.slots t ≡ f → standing_at l.slots f ≡ p → (slot_at l.slots t.id).enabled ≡ e → Takes kind (enable_by kind l t e p) xs r → Kept (v ++ refused_by r.0 t) r.1
    enable_by_place r f e Empty q is on k = refused_loop _ r k.1
    enable_by_place r f e Handled q is on k = refused_loop _ r k.1
    enable_by_place r f true (Occupied s) q is on k = refused_loop _ r k.1
    enable_by_place r f false (Occupied s) q is off k =
        let at = fits_there f s q is in
        let m = taken_made kind (acted l t.id true) r (admits kind l.lifecycle l.world s t) xs k in
        rw m.2 (elim (admitted kind l.lifecycle l.world s t xs m.0 m.1) [
          | inl u ↦ unasked_acted t away s at.0 at.1 xs m.0 true _ (λ p. has_more p v (refused_by m.0.answer t)) u
          | inr u ↦ registered_kept t away s at.0 at.1 xs m.0 off u
        ])

    update_by_place : (r : Answer × Loop S) (f : Option ℕ) (p : Place S) → fitting l.slots t ≡ f → standing_at l.slots f ≡ p → Takes kind (update_by kind l t p) xs r → Kept v r.1
    update_by_place r f Empty q is k = same_loop _ r k.1
    update_by_place r f Handled q is k = rw k.1 (record { few = o.few; counted = o.counted; listed = o.listed; hooked = o.hooked; refused = o.refused; register = o.register })
    update_by_place r f (Occupied s) q is k =
        let at = fits_there f s q is in
        let m = taken_made kind (acted l t.id true) r (renews kind l.lifecycle l.world s t) xs k in
        rw m.2 (elim (renewed kind l.lifecycle l.world s t xs m.0 m.1) [
          | inl u ↦ unasked_acted t away s at.0 at.1 xs m.0 true v (λ p e. e) u
          | inr u ↦ reregistered_kept t away s at.0 at.1 xs m.0 u
        ])

    disable_by_place : (r : Answer × Loop S) (f : Option ℕ) (p : Place S) → fitting l.slots t ≡ f → standing_at l.slots f ≡ p → Takes kind (disable_by kind l t p) xs r → Kept v r.1
    disable_by_place r f Empty q is k = same_loop _ r k.1
    disable_by_place r f Handled q is k = rw k.1 (record { few = o.few; counted = o.counted; listed = o.listed; hooked = o.hooked; refused = o.refused; register = o.register })
    disable_by_place r f (Occupied s) q is k =
        let at = fits_there f s q is in
        let m = taken_made kind (acted l t.id false) r (withdraws kind l.lifecycle l.world s t) xs k in
        rw m.2 (unregistered_kept t away s at.0 at.1 xs m.0 (withdrawn kind l.lifecycle l.world s t xs m.0 m.1))

    -- an enable that is refused is noted
    pub enable_keeps : (r : Answer × Loop S) → Takes kind (enable_of kind l t) xs r → Kept (v ++ refused_by r.0 t) r.1
    enable_keeps r k = enable_by_place r (fitting l.slots t) (slot_at l.slots t.id).enabled (standing_at l.slots (fitting l.slots t)) refl refl refl k

    pub update_keeps : (r : Answer × Loop S) → Takes kind (update_of kind l t) xs r → Kept v r.1
    update_keeps r k = update_by_place r (fitting l.slots t) (standing_at l.slots (fitting l.slots t)) refl refl k

    pub disable_keeps : (r : Answer × Loop S) → Takes kind (disable_of kind l t) xs r → Kept v r.1
    disable_keeps r k = disable_by_place r (fitting l.slots t) (standing_at l.slots (fitting l.slots t)) refl refl k

    remove_by_place : (r : Bool × Loop S) (f : Option ℕ) (p : Place S) → fitting l.slots t ≡ f → standing_at l.slots f ≡ p → ((slot_at l.slots t.id).place ≢ Handled) → Takes kind (remove_by kind l t p) xs r → Kept v r.1
    remove_by_place r f Empty q is calm k = same_loop _ r k.1
    remove_by_place r f Handled q is calm k = absurd (calm (grind (arith, common_steps)))
    remove_by_place r f (Occupied s) q is calm k =
        let at = fits_there f s q is in
        let m = taken_made kind (λ (u : Released). (true, record (emptied l t) { lifecycle = u.lifecycle; world = u.world })) r (releases kind l.lifecycle l.world s t) xs k in
        let left = left_so kind laws l.lifecycle l.world s t xs m.0 m.1 in
        rw (m.2, left.lifecycle) (removed_in_order kind hand h v l o t away s at.0 at.1 m.0.world xs left.source left.reaches left.none)

    -- no source of the slot is being handled: one that is leaves its lifecycle entries until after its event
    pub remove_keeps : (r : Bool × Loop S) → ((slot_at l.slots t.id).place ≢ Handled) → Takes kind (remove_of kind l t) xs r → Kept v r.1
    remove_keeps r calm k = remove_by_place r (fitting l.slots t) (standing_at l.slots (fitting l.slots t)) refl refl calm k

  pub idle_keeps : (value : ℕ) (xs : List Exchange) (r : Outcome ℕ × Loop S) → Takes kind (idling_of l value) xs r → Kept v r.1
  idle_keeps value xs r k = rw k.1 (record { few = o.few; counted = o.counted; listed = o.listed; hooked = o.hooked; refused = o.refused; register = o.register })

  -- AN INSERT of a source that holds nothing; what is in hand is another than the newcomer
  module _ (s : S) (free : Free (kind.means s)) (xs : List Exchange) (r : Inserted S × Loop S) where
    module _ (t : Token) (away : (p : Owner) → hand ≡ Some p → same_source p.token t ≡ false) (ys : List (Slot S)) (g : vacant_of l.slots ≡ (Some t, ys)) (a : Acted S) where
      inserted_kept : (b : Answer) → a.answer ≡ b → Registered kind l.lifecycle l.world s t xs a → InOrder kind hand (h ++ t.id ∷ []) v (inserted_by l ys t a b).1
      inserted_kept (done u) e k =
          let law = laws.registering s l.world (own_source t) xs a.answer a.source a.world k.drawer k.asked in
          inserted_in_order kind hand h v l o t away ys g k.drawer a.world xs s a.source a.lifecycle free law.draws law.reaches (entered_accepted v (hooked kind s) t l.lifecycle a.lifecycle k.entry)
      inserted_kept (refused n c) e k =
          let law = laws.registering s l.world (own_source t) xs a.answer a.source a.world k.drawer k.asked in
          refused_in_order kind hand h v l o t away ys g k.drawer a.world xs s a.source a.lifecycle free (law.refusing n c e) law.draws law.reaches
          (entered_accepted v (hooked kind s) t l.lifecycle a.lifecycle k.entry).joins (entered_back v (hooked kind s) t l.lifecycle a.lifecycle k.entry)

      back_kept : Unasked kind l.lifecycle l.world s t xs a → InOrder kind hand (h ++ t.id ∷ []) v (inserted_by l ys t a a.answer).1
      back_kept u = rw (u.refusal, u.lifecycle, u.world) (given_in_order kind hand h v l o t away ys g)

    insert_by_slot : (x : Option Token × List (Slot S)) → ((t : Token) → x.0 ≡ Some t → (p : Owner) → hand ≡ Some p → same_source p.token t ≡ false) → vacant_of l.slots ≡ x → Takes kind (insert_at kind l s x) xs r
        → InOrder kind hand (h ++ option_to_list (option_map (λ (t : Token). t.id) x.0)) v r.1
    insert_by_slot (None, ys) away g k = rw (k.1, append-nil h) o
    insert_by_slot (Some t, ys) away g k =
        let m = taken_made kind (inserted l ys t) r (admits kind l.lifecycle l.world s t) xs k in
        rw m.2 (elim (admitted kind l.lifecycle l.world s t xs m.0 m.1) [ inl u ↦ back_kept t (away t refl) ys g m.0 u | inr u ↦ inserted_kept t (away t refl) ys g m.0 m.0.answer refl u ])

    pub insert_keeps : ((t : Token) → (vacant_of l.slots).0 ≡ Some t → (p : Owner) → hand ≡ Some p → same_source p.token t ≡ false) → Takes kind (insert_of kind l s) xs r → InOrder kind hand (h ++ given_out l.slots) v r.1
    insert_keeps away k = insert_by_slot (vacant_of l.slots) away refl k

-- a loop that begins over a poller with no entry
pub new_in_order : {S : Type 0} (kind : EventSourceOf S) (most : ℕ) (level : Bool) → InOrder kind None [] [] (new_loop {S = S} [] most level)
new_in_order {S} kind most level = record {
  few = omega arith;
  counted = counted_new;
  listed = λ t m. elim m [ ];
  hooked = λ i p is. absurd (grind (arith, common_steps));
  refused = λ u m. elim m [ ];
  register = (one_calm kind [] (omega arith) (new_loop {S = S} [] most level).world).1 (one_new_loop kind (new_loop {S = S} [] most level).world level refl refl refl);
}

-- the version of an insert's token counts the givings-out of its slot
pub insert_version : {S : Type 0} (kind : EventSourceOf S) (h : List ℕ) (l : Loop S) → Counted h l.slots → (s : S) (xs : List Exchange) (t : Token) (l' : Loop S) → Takes kind (insert_of kind l s) xs (into t, l')
    → t.version ≡ version_of (times t.id (h ++ t.id ∷ []))
insert_version {S} kind h l c s xs t l' k = by_slot (vacant_of l.slots) refl k
  where
    by_slot : (v : Option Token × List (Slot S)) → vacant_of l.slots ≡ v → Takes kind (insert_at kind l s v) xs (into t, l') → t.version ≡ version_of (times t.id (h ++ t.id ∷ []))
    by_slot (None, ys) g k = grind (arith, common_steps)
    by_slot (Some u, ys) g k =
        let m = taken_made kind (inserted l ys u) (into t, l') (admits kind l.lifecycle l.world s u) xs k in
        let same : t ≡ u = by_answer u ys m.0 m.0.answer m.2 in
        rw same (given_version h l.slots c u ys g)
      where
        by_answer : (u : Token) (ys : List (Slot S)) (a : Acted S) (b : Answer) → ◌≡◌ {A = Inserted S × Loop S} (into t, l') (inserted_by l ys u a b) → t ≡ u
        by_answer u ys a (done x) e = grind (arith, common_steps)
        by_answer u ys a (refused n d) e = grind (arith, common_steps)

-- a source left exactly if the token fitted
module _ {S : Type 0} (kind : EventSourceOf S) (l : Loop S) (t : Token) (xs : List Exchange) (b : Bool) (l' : Loop S) where
  left_by_place : (f : Option ℕ) (p : Place S) → fitting l.slots t ≡ f → standing_at l.slots f ≡ p → Takes kind (remove_by kind l t p) xs (b, l') → (b ≡ true) ↔ (fitting l.slots t ≡ Some t.id)
  left_by_place f Empty e q k = (λ is. grind (arith, common_steps), λ is. grind (arith, common_steps))
  left_by_place f Handled e q k = (λ is. grind (arith, common_steps), λ is. grind (arith, common_steps))
  left_by_place f (Occupied s) e q k =
      let m = taken_made kind (λ (u : Released). (true, record (emptied l t) { lifecycle = u.lifecycle; world = u.world })) (b, l') (releases kind l.lifecycle l.world s t) xs k in
      (λ is. grind (arith, common_steps), λ is. ap (λ (r : Bool × Loop S). r.0) m.2)

  pub left_exactly : Takes kind (remove_of kind l t) xs (b, l') → (b ≡ true) ↔ (fitting l.slots t ≡ Some t.id)
  left_exactly k = left_by_place (fitting l.slots t) (standing_at l.slots (fitting l.slots t)) refl refl k
