-- A turn leaves the timers, entries and level lines of all sources but the one in hand.
use Rattle.std.proofs.Common.{◌≡◌, ◌≢◌, ℕ, Bool, true, false, List, [], Some, None, Option, inl, inr, refl, ◌∙◌, arith}
use Rattle.std.proofs.lemmas.Grind.{common_steps}
use Rattle.token.specs.declared.token.Token.{Token}
use Rattle.token.specs.Key.{own_source}
use Rattle.token.specs.Refusal.{Outcome, done, refused}
use Rattle.poller.specs.Meaning.{Answer}
use Rattle.post_action.specs.declared.PostAction.{PostAction}
use Rattle.post_action.specs.declared.PostAction.TheVariants.{Continue, Disable, Remove, Reregister}
use Rattle.list.specs.Slots.{fitting, placed}
use Rattle.list.specs.declared.slots.Place.{Place}
use Rattle.list.specs.declared.slots.Place.TheVariants.{Empty, Handled, Occupied}
use Rattle.list.specs.declared.slots.Slot.{Slot}
use Rattle.sys.specs.declared.event.PollEvent.{PollEvent}
use Rattle.sys.specs.World.{Exchange, World}
use Rattle.rules.specs.Kinds.{Processing, Reaches}
use Rattle.rules.specs.Meaning.{Drawn, Nothing}
use Rattle.kinds.specs.declared.errand.Errand.{Errand}
use Rattle.kinds.specs.declared.source.EventSource.{Ghosts as EventSourceOf}
use Rattle.model.specs.Calls.{renews, standing_at, withdraws}
use Rattle.model.specs.Course.{Takes}
use Rattle.model.specs.Dispatch.{InHand, Settled, Turn, action_of, acted_on, acts, dismisses, emptied_at, fate_of, held, noted, noted_at, settles, turn_by, turn_of, turned}
use Rattle.model.specs.Others.{Untouched}
use Rattle.model.specs.Register.{KeyOf, Owner, holders, in_hand, owner, owners}
use Rattle.model.specs.State.{Loop}
use Rattle.model.proofs.Course.{taken_made, taken_then}
use Rattle.model.proofs.Kept.{Lawful, renewed, withdrawn}
use Rattle.model.proofs.Leaves.{owner_ids}
use Rattle.model.proofs.Others.{nothing_reached, under_stay, untouched, untouched_then}
use Rattle.model.proofs.Register.{changed_here, changed_other, none_of}
use Rattle.model.proofs.Rest.{AtRest, Holding, fits_own, fits_there, hand_keys, processed_holding, reached_holding, taken_holding}
use Rattle.model.proofs.Slots.{marked_place, marked_version, placed_other}
use Rattle.model.proofs.Turn.{acted_holding, settling}

module _ {S : Type 0} (kind : EventSourceOf S) (laws : Lawful kind) (h : List ℕ) (v : List Token) (t : Token) (j : ℕ) (p : Owner) (ne : j ≢ t.id) where
  -- it stands in slot j
  abbrev Stands : List (Slot S) → Type 0
  Stands xs = owners kind xs j ≡ Some p

  abbrev Aside : World → World → Type 0
  Aside = Untouched p

  module _ (s : S) (xs : List (Slot S)) (ts : List Token) (w : World) (k : Holding kind h v t s xs ts w) (stands : Stands xs) where
    abbrev hand : Owner
    hand = owner kind (own_source t) s

    beside : (j ≢ in_hand)
    beside e = grind (arith, common_steps, k.few)

    there : holders kind xs (Some hand) j ≡ Some p
    there = changed_other (owners kind xs) in_hand (Some hand) j beside ∙ stands

    here : holders kind xs (Some hand) in_hand ≡ Some hand
    here = changed_here (owners kind xs) in_hand (Some hand)

    another_key : (n : ℕ) → KeyOf p.token n → KeyOf (own_source t) n → ⊥
    another_key n a b = ne (grind (arith, common_steps, owner_ids kind xs j p stands))

    reached_aside : (D : ℕ → Type 0) (qs : List Exchange) (w' : World) (s' : S) → ((n : ℕ) → D n → KeyOf (own_source t) n) → Reaches D (kind.means s) w qs (kind.means s') w' → Aside w w'
    reached_aside D qs w' s' drew r = untouched (holders kind xs (Some hand)) in_hand hand here D drew w w' qs (kind.means s') r k.register j p beside there another_key (kind.means s').counters r.timers.own
        (λ n m. elim (r.timers.joins n m) [ inl was ↦ inl was | inr new ↦ inr new.0 ])

    processed_aside : {E T : Type 0} (w' : World) (s' : S) (e : Token) (es es' : List E) (qs : List Exchange) (r : Outcome T) → Processing (kind.means s) w e es qs r (kind.means s') w' es' → Aside w w'
    processed_aside w' s' e es es' qs r law =
        let one = k.register.wheel in
        record {
          timers = under_stay (kind.means s).counters (kind.means s').counters w.wheel w'.wheel law.timers.others one.timers law.timers.own p.means.counters (λ n theirs a. elim a [
            | inl own ↦ one.apart j in_hand p hand there here beside n theirs own
            | inr new ↦ elim (law.timers.joins n new) [ inl own ↦ one.apart j in_hand p hand there here beside n theirs own | inr later ↦ omega (arith, one.given j p there n theirs, later.0) ]
          ]);
          entries = λ f m. rw law.world refl;
          lines = λ l m. rw law.world (λ n. n, λ n. n);
        }

    acted_aside : (x : PostAction) (qs : List Exchange) (a : InHand S) → Takes kind (acts kind x t xs ts w s) qs a → Aside w a.world
    acted_aside Continue qs a c = rw c.1 (nothing_reached p w)
    acted_aside Reregister qs a c =
        let m = taken_made kind (held xs t true) a (renews kind ts w s t) qs c in
        rw m.2 (elim (renewed kind ts w s t qs m.0 m.1) [
          | inl u ↦ rw u.world (nothing_reached p w)
          | inr u ↦
              let law = laws.reregistering s w (own_source t) qs m.0.answer m.0.source m.0.world u.drawer u.asked in
              reached_aside (Drawn (own_source t) u.drawer) qs m.0.world m.0.source (λ n. hand_keys kind h v t s xs ts w k u.drawer n law.draws) law.reaches
        ])
    acted_aside Disable qs a c =
        let m = taken_made kind (held xs t false) a (withdraws kind ts w s t) qs c in
        let law = laws.unregistering s w qs m.0.answer m.0.source m.0.world (withdrawn kind ts w s t qs m.0 m.1).asked in
        rw m.2 (reached_aside Nothing qs m.0.world m.0.source (none_of (own_source t)) law.reaches)
    acted_aside Remove qs a c = rw c.1 (nothing_reached p w)

    -- it stands there still
    noted_stands : (f : Option ℕ) (b : Bool) → Stands (noted_at f xs b)
    noted_stands None b = stands
    noted_stands (Some i) b = grind (arith, common_steps, marked_place xs i j b, marked_version xs i j b)

    noted_by_stands : (r : Answer) (b : Bool) → Stands (noted r xs t b)
    noted_by_stands (done u) b = noted_stands (fitting xs t) b
    noted_by_stands (refused n c) b = stands

    emptied_stands : (f : Option ℕ) → fitting xs t ≡ f → Stands (emptied_at f xs)
    emptied_stands None e = stands
    emptied_stands (Some i) e = grind (arith, common_steps, placed_other xs i j Empty, fits_own xs t i e)

    acted_stands : (x : PostAction) (qs : List Exchange) (a : InHand S) → Takes kind (acts kind x t xs ts w s) qs a → Stands a.slots
    acted_stands Continue qs a c = rw c.1 stands
    acted_stands Reregister qs a c = let m = taken_made kind (held xs t true) a (renews kind ts w s t) qs c in rw m.2 (noted_by_stands m.0.answer true)
    acted_stands Disable qs a c = let m = taken_made kind (held xs t false) a (withdraws kind ts w s t) qs c in rw m.2 (noted_by_stands m.0.answer false)
    acted_stands Remove qs a c = rw c.1 (emptied_stands (fitting xs t) refl)

  module _ (s : S) (xs : List (Slot S)) (ts : List Token) (w : World) (k : Holding kind h v t s xs ts w) (stands : Stands xs) (qs : List Exchange) (e : Settled S) where
    dismissed_aside : (fate : Answer) → Takes kind (dismisses fate t xs ts w s) qs e → Aside w e.world
    dismissed_aside (done u) c =
        let law = laws.unregistering s w c.0.exchanges c.0.answer c.0.source c.0.world c.1 in
        let out = reached_holding kind h v t s xs ts w k Nothing c.0.exchanges c.0.world c.0.source (none_of (own_source t)) law.reaches in
        let go = c.4 in
        let gone = laws.leaving c.0.source c.0.world go.0.exchanges go.0.source go.0.world go.1 in
        rw go.4.1.1 (untouched_then p w c.0.world go.0.world (reached_aside s xs ts w k stands Nothing c.0.exchanges c.0.world c.0.source (none_of (own_source t)) law.reaches)
        (reached_aside c.0.source xs ts c.0.world out stands Nothing go.0.exchanges go.0.world go.0.source (none_of (own_source t)) gone.reaches))
    dismissed_aside (refused n d) go =
        let gone = laws.leaving s w go.0.exchanges go.0.source go.0.world go.1 in
        rw go.4.1.1 (reached_aside s xs ts w k stands Nothing go.0.exchanges go.0.world go.0.source (none_of (own_source t)) gone.reaches)

    settled_aside : (f : Option ℕ) (fate : Answer) → Takes kind (settles f fate t xs ts w s) qs e → Aside w e.world
    settled_aside (Some i) fate c = rw c.1 (nothing_reached p w)
    settled_aside None fate c = dismissed_aside fate c

-- A TURN of an event of another slot leaves the source of slot j untouched.
module _ {S : Type 0} (kind : EventSourceOf S) (laws : Lawful kind) (h : List ℕ) (v : List Token) (l : Loop S) (r : AtRest kind h v l.slots l.lifecycle l.world) (e : PollEvent)
    (j : ℕ) (p : Owner) (ne : j ≢ e.token.id) (stands : owners kind l.slots j ≡ Some p) where
  acted_on_aside : (x : Outcome PostAction) (s : S) (w : World) (asked : List Errand) (qs : List Exchange) (o : Turn S) → Holding kind h v (own_source e.token) s (placed l.slots e.token.id Handled) l.lifecycle w
      → owners kind (placed l.slots e.token.id Handled) j ≡ Some p → Takes kind (acted_on kind l (own_source e.token) x s w asked) qs o → Untouched p w o.loop.world
  acted_on_aside x s w asked qs o k there c =
      let t = own_source e.token in
      let xs = placed l.slots t.id Handled in
      let a = taken_then kind (settling l t x asked) o (acts kind (action_of x l.pending) t xs l.lifecycle w s) qs c in
      let i = a.outcome in
      let held = acted_holding kind laws h v t s xs l.lifecycle w k a.first (action_of x l.pending) i a.came in
      let still = acted_stands kind laws h v t j p ne s xs l.lifecycle w k there (action_of x l.pending) a.first i a.came in
      let m = taken_made kind (turned l (fate_of x i.answer) asked) o (settles (fitting i.slots t) (fate_of x i.answer) t i.slots i.lifecycle i.world i.source) a.second a.rest in
      rw m.2 (untouched_then p w i.world m.0.world (acted_aside kind laws h v t j p ne s xs l.lifecycle w k there (action_of x l.pending) a.first i a.came)
      (settled_aside kind laws h v t j p ne i.source i.slots i.lifecycle i.world held still a.second m.0 (fitting i.slots t) (fate_of x i.answer) m.1))

  turn_by_aside : (f : Option ℕ) (q : Place S) (qs : List Exchange) (o : Turn S) → fitting l.slots (own_source e.token) ≡ f → standing_at l.slots f ≡ q → Takes kind (turn_by kind l e (own_source e.token) q) qs o → Untouched p l.world o.loop.world
  turn_by_aside f Empty qs o fits is c = rw c.1 (nothing_reached p l.world)
  turn_by_aside f Handled qs o fits is c = rw c.1 (nothing_reached p l.world)
  turn_by_aside f (Occupied s) qs o fits is c =
      let t = own_source e.token in
      let xs = placed l.slots t.id Handled in
      let at = fits_there l.slots t f s fits is in
      let taken = taken_holding kind h v l.slots l.lifecycle l.world r t s at.0 at.1 in
      let there : owners kind xs j ≡ Some p = grind (arith, common_steps, placed_other l.slots t.id j Handled ne) in
      let law = laws.processing s l.world e.readiness e.token [] c.0.exchanges c.0.answer c.0.source c.0.world c.0.errands c.1 in
      let now = processed_holding kind h v t s xs l.lifecycle l.world taken c.0.world c.0.source e.token [] c.0.errands c.0.exchanges c.0.answer law in
      untouched_then p l.world c.0.world o.loop.world (processed_aside kind laws h v t j p ne s xs l.lifecycle l.world taken there c.0.world c.0.source e.token [] c.0.errands c.0.exchanges c.0.answer law)
      (acted_on_aside c.0.answer c.0.source c.0.world c.0.errands c.2 o now there c.4)

  pub turn_aside : (qs : List Exchange) (o : Turn S) → Takes kind (turn_of kind l e) qs o → Untouched p l.world o.loop.world
  turn_aside qs o c = turn_by_aside (fitting l.slots (own_source e.token)) (standing_at l.slots (fitting l.slots (own_source e.token))) qs o refl refl c
