-- A turn keeps the loop in order.
use Rattle.std.proofs.Common.{◌≡◌, ℕ, Bool, true, false, List, [], Some, None, Option, inl, inr, refl, ap, ◌∙◌}
use Rattle.token.specs.declared.token.Token.{Token}
use Rattle.token.specs.Key.{own_source}
use Rattle.token.specs.Refusal.{Outcome, done, refused}
use Rattle.poller.specs.Meaning.{Answer}
use Rattle.post_action.specs.declared.PostAction.{PostAction}
use Rattle.post_action.specs.declared.PostAction.TheVariants.{Continue, Disable, Remove, Reregister}
use Rattle.list.specs.Slots.{fitting, placed}
use Rattle.list.specs.declared.slots.Place.{Place}
use Rattle.list.specs.declared.slots.Place.TheVariants.{Empty, Handled, Occupied}
use Rattle.list.specs.declared.slots.Slot.{Slot}
use Rattle.sys.specs.declared.event.PollEvent.{PollEvent}
use Rattle.sys.specs.World.{World, Exchange}
use Rattle.list.specs.Entries.{left}
use Rattle.rules.specs.Kinds.{Reaches}
use Rattle.rules.specs.Meaning.{Drawn, Nothing}
use Rattle.kinds.specs.declared.errand.Errand.{Errand}
use Rattle.kinds.specs.declared.source.EventSource.{Ghosts as EventSourceOf}
use Rattle.model.specs.Calls.{Acted, after, hooked, listed, renews, standing_at, withdraws}
use Rattle.model.specs.Course.{Course, Takes, and_then, ends}
use Rattle.model.specs.Dispatch.{InHand, Settled, Turn, action_of, acted_on, acts, dismisses, emptied_at, fate_of, noted, noted_at, settles, turn_by, turn_of, turned}
use Rattle.model.specs.Register.{KeyOf}
use Rattle.model.specs.State.{Loop}
use Rattle.model.proofs.Course.{taken_made, taken_then}
use Rattle.model.proofs.Entries.{Entered, entered_accepted, entered_left, had_room}
use Rattle.model.proofs.Kept.{Lawful, Reregistered, Unregistered, renewed, withdrawn}
use Rattle.model.proofs.Register.{none_of}
use Rattle.model.proofs.Rest.{AtRest, Holding, acted_homeless, back_rests, emptied_holding, fits_own, fits_there, gone_rests, hand_keys, marked_holding, processed_holding, reached_holding, taken_holding}

-- what a registration or an unregister of the source in hand leaves
abbrev hand_after : {S : Type 0} → List (Slot S) → Token → Bool → Acted S → InHand S
hand_after xs t b a = record { answer = a.answer; source = a.source; slots = noted a.answer xs t b; lifecycle = a.lifecycle; world = a.world }

-- how a turn ends once the act was done
abbrev pub settling : {S : Type 0} → Loop S → Token → Outcome PostAction → List Errand → InHand S → Course S (Turn S)
settling l t r asked a = and_then (settles (fitting a.slots t) (fate_of r a.answer) t a.slots a.lifecycle a.world a.source) (λ e. ends (turned l (fate_of r a.answer) asked e))

module _ {S : Type 0} (kind : EventSourceOf S) (laws : Lawful kind) (h : List ℕ) (v : List Token) (t : Token) where
  abbrev Hand : S → List (Slot S) → List Token → World → Type 0
  Hand s xs ts w = Holding kind h v t s xs ts w

  emptied_at_holding : (s : S) (xs : List (Slot S)) (ts : List Token) (w : World) → Hand s xs ts w → (f : Option ℕ) → fitting xs t ≡ f → Hand s (emptied_at f xs) ts w
  emptied_at_holding s xs ts w k None e = k
  emptied_at_holding s xs ts w k (Some i) e = rw (fits_own xs t i e) (emptied_holding kind h v t s xs ts w k)

  -- AN ACT on it
  module _ (s : S) (xs : List (Slot S)) (ts : List Token) (w : World) (k : Hand s xs ts w) (qs : List Exchange) where
    -- an accepted one changes its entries, and what its slot says, if it has one
    module _ (D : ℕ → Type 0) (s' : S) (w' : World) (ts' : List Token) (b : Bool) (drew : (n : ℕ) → D n → KeyOf (own_source t) n)
        (reaches : Reaches D (kind.means s) w qs (kind.means s') w') (e : Entered v b (hooked kind s) t ts ts') where
      noted_at_holding : (f : Option ℕ) → fitting xs t ≡ f → Hand s' (noted_at f xs b) ts' w'
      noted_at_holding None none = acted_homeless kind h v t s xs ts w k none D qs w' s' ts' drew reaches e.joins e.kept
      noted_at_holding (Some i) fits = rw (fits_own xs t i fits) (marked_holding kind h v t s xs ts w k b D qs w' s' ts' drew reaches e)

    renewed_by : (a : Acted S) (r : Answer) → a.answer ≡ r → Reregistered kind ts w s t qs a → Hand a.source (noted r xs t true) a.lifecycle a.world
    renewed_by a r e u =
        let law = laws.reregistering s w (own_source t) qs a.answer a.source a.world u.drawer u.asked in
        let drew = λ (n : ℕ). hand_keys kind h v t s xs ts w k u.drawer n law.draws in
        by_answer law.reaches drew r e (u.entries ∙ ap (λ (x : Answer). after x ts (listed (hooked kind s) t ts).1) e)
      where
        by_answer : Reaches (Drawn (own_source t) u.drawer) (kind.means s) w qs (kind.means a.source) a.world → ((n : ℕ) → Drawn (own_source t) u.drawer n → KeyOf (own_source t) n)
            → (x : Answer) → a.answer ≡ x → a.lifecycle ≡ after x ts (listed (hooked kind s) t ts).1 → Hand a.source (noted x xs t true) a.lifecycle a.world
        by_answer reaches drew (done y) is entries =
            noted_at_holding (Drawn (own_source t) u.drawer) a.source a.world a.lifecycle true drew reaches
            (rw entries (entered_accepted v (hooked kind s) t ts (listed (hooked kind s) t ts).1 (had_room v (hooked kind s) t ts u.room))) (fitting xs t) refl
        by_answer reaches drew (refused n c) is entries = rw entries (reached_holding kind h v t s xs ts w k (Drawn (own_source t) u.drawer) qs a.world a.source drew reaches)

    renewed_holding : (a : Acted S) → Takes kind (renews kind ts w s t) qs a → Hand a.source (noted a.answer xs t true) a.lifecycle a.world
    renewed_holding a c = elim (renewed kind ts w s t qs a c) [
      | inl u ↦ rw (u.refusal, u.source, u.lifecycle, u.world) k
      | inr u ↦ renewed_by a a.answer refl u
    ]

    withdrawn_by : (a : Acted S) (r : Answer) → a.answer ≡ r → Unregistered kind ts w s t qs a → Hand a.source (noted r xs t false) a.lifecycle a.world
    withdrawn_by a (done u) e x =
        let law = laws.unregistering s w qs a.answer a.source a.world x.asked in
        let gone : a.lifecycle ≡ left t ts = x.entries ∙ ap (λ (y : Answer). after y ts (left t ts)) e in
        noted_at_holding Nothing a.source a.world a.lifecycle false (none_of (own_source t)) law.reaches (rw gone (entered_left v (hooked kind s) t ts)) (fitting xs t) refl
    withdrawn_by a (refused n c) e x =
        let law = laws.unregistering s w qs a.answer a.source a.world x.asked in
        let stay : a.lifecycle ≡ ts = x.entries ∙ ap (λ (y : Answer). after y ts (left t ts)) e in
        rw stay (reached_holding kind h v t s xs ts w k Nothing qs a.world a.source (none_of (own_source t)) law.reaches)

    withdrawn_holding : (a : Acted S) → Takes kind (withdraws kind ts w s t) qs a → Hand a.source (noted a.answer xs t false) a.lifecycle a.world
    withdrawn_holding a c = withdrawn_by a a.answer refl (withdrawn kind ts w s t qs a c)

    pub acted_holding : (p : PostAction) (a : InHand S) → Takes kind (acts kind p t xs ts w s) qs a → Hand a.source a.slots a.lifecycle a.world
    acted_holding Continue a c = rw c.1 k
    acted_holding Reregister a c =
        let m = taken_made kind (hand_after xs t true) a (renews kind ts w s t) qs c in
        rw m.2 (renewed_holding m.0 m.1)
    acted_holding Disable a c =
        let m = taken_made kind (hand_after xs t false) a (withdraws kind ts w s t) qs c in
        rw m.2 (withdrawn_holding m.0 m.1)
    acted_holding Remove a c = rw c.1 (emptied_at_holding s xs ts w k (fitting xs t) refl)

  -- IT GOES BACK OR LEAVES
  module _ (s : S) (xs : List (Slot S)) (ts : List Token) (w : World) (k : Hand s xs ts w) (qs : List Exchange) (e : Settled S) where
    dismissed_rests : (fate : Answer) → fitting xs t ≡ None → Takes kind (dismisses fate t xs ts w s) qs e → AtRest kind h v e.slots e.lifecycle e.world
    dismissed_rests (done u) none c =
        let law = laws.unregistering s w c.0.exchanges c.0.answer c.0.source c.0.world c.1 in
        let out = reached_holding kind h v t s xs ts w k Nothing c.0.exchanges c.0.world c.0.source (none_of (own_source t)) law.reaches in
        let go = c.4 in
        let gone = laws.leaving c.0.source c.0.world go.0.exchanges go.0.source go.0.world go.1 in
        rw go.4.1.1 (gone_rests kind h v t go.0.source xs ts go.0.world
        (reached_holding kind h v t c.0.source xs ts c.0.world out Nothing go.0.exchanges go.0.world go.0.source (none_of (own_source t)) gone.reaches) none gone.free.held)
    dismissed_rests (refused n d) none go =
        let gone = laws.leaving s w go.0.exchanges go.0.source go.0.world go.1 in
        rw go.4.1.1 (gone_rests kind h v t go.0.source xs ts go.0.world
        (reached_holding kind h v t s xs ts w k Nothing go.0.exchanges go.0.world go.0.source (none_of (own_source t)) gone.reaches) none gone.free.held)

    settled_rests : (f : Option ℕ) (fate : Answer) → fitting xs t ≡ f → Takes kind (settles f fate t xs ts w s) qs e → AtRest kind h v e.slots e.lifecycle e.world
    settled_rests (Some i) fate is c =
        let here = fits_own xs t i is in
        rw (c.1, here) (back_rests kind h v t s xs ts w k (rw here at is))
    settled_rests None fate is c = dismissed_rests fate is c

module _ {S : Type 0} (kind : EventSourceOf S) (laws : Lawful kind) (h : List ℕ) (v : List Token) (l : Loop S) (r : AtRest kind h v l.slots l.lifecycle l.world) (e : PollEvent) where
  abbrev Rested : Turn S → Type 0
  Rested o = AtRest kind h v o.loop.slots o.loop.lifecycle o.loop.world

  -- once its source has processed the event
  acted_rests : (t : Token) (x : Outcome PostAction) (s : S) (w : World) (asked : List Errand) (qs : List Exchange) (o : Turn S) → Holding kind h v t s (placed l.slots t.id Handled) l.lifecycle w
      → Takes kind (acted_on kind l t x s w asked) qs o → Rested o
  acted_rests t x s w asked qs o k c =
      let a = taken_then kind (settling l t x asked) o (acts kind (action_of x l.pending) t (placed l.slots t.id Handled) l.lifecycle w s) qs c in
      let i = a.outcome in
      let held = acted_holding kind laws h v t s (placed l.slots t.id Handled) l.lifecycle w k a.first (action_of x l.pending) i a.came in
      let m = taken_made kind (turned l (fate_of x i.answer) asked) o (settles (fitting i.slots t) (fate_of x i.answer) t i.slots i.lifecycle i.world i.source) a.second a.rest in
      rw m.2 (settled_rests kind laws h v t i.source i.slots i.lifecycle i.world held a.second m.0 (fitting i.slots t) (fate_of x i.answer) refl m.1)

  turn_by_rests : (t : Token) (f : Option ℕ) (p : Place S) (qs : List Exchange) (o : Turn S) → fitting l.slots t ≡ f → standing_at l.slots f ≡ p → Takes kind (turn_by kind l e t p) qs o → Rested o
  turn_by_rests t f Empty qs o fits is c = rw c.1 r
  turn_by_rests t f Handled qs o fits is c = rw c.1 r
  turn_by_rests t f (Occupied s) qs o fits is c =
      let at = fits_there l.slots t f s fits is in
      let taken = taken_holding kind h v l.slots l.lifecycle l.world r t s at.0 at.1 in
      let law = laws.processing s l.world e.readiness e.token [] c.0.exchanges c.0.answer c.0.source c.0.world c.0.errands c.1 in
      acted_rests t c.0.answer c.0.source c.0.world c.0.errands c.2 o
      (processed_holding kind h v t s (placed l.slots t.id Handled) l.lifecycle l.world taken c.0.world c.0.source e.token [] c.0.errands c.0.exchanges c.0.answer law) c.4

  pub turn_rests : (qs : List Exchange) (o : Turn S) → Takes kind (turn_of kind l e) qs o → Rested o
  turn_rests qs o c = turn_by_rests (own_source e.token) (fitting l.slots (own_source e.token)) (standing_at l.slots (fitting l.slots (own_source e.token))) qs o refl refl c
