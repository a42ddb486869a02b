-- The hooks keep the loop in order: a source that was asked or shown means what it meant.
use Rattle.std.specs.Prelude.{if◌then◌else◌}
use Rattle.std.proofs.Common.{◌≡◌, ℕ, true, false, Bool, length, List, [], ◌∷◌, ◌++◌, Some, None, Option, nat_le, refl}
use Rattle.token.specs.declared.token.Token.{Token}
use Rattle.token.specs.Refusal.{Outcome, done, refusal, refused}
use Rattle.poller.specs.declared.entry.Readiness.{Readiness}
use Rattle.list.specs.Slots.{fitting, placed}
use Rattle.list.specs.declared.slots.Place.{Place}
use Rattle.list.specs.declared.slots.Place.TheVariants.{Empty, Handled, Occupied}
use Rattle.list.specs.declared.slots.Slot.{Slot}
use Rattle.sys.specs.declared.event.PollEvent.{PollEvent}
use Rattle.sys.specs.World.{World, Exchange}
use Rattle.kinds.specs.Events.{of_source}
use Rattle.kinds.specs.declared.source.EventSource.{Ghosts as EventSourceOf}
use Rattle.model.specs.Calls.{standing_at}
use Rattle.model.specs.Course.{Course, Takes, ends}
use Rattle.model.specs.Dispatch.{Hooked, asked_at, asks_hooks, hooked_by, queued, shown_at, shows_hooks, synthetic}
use Rattle.model.proofs.Kept.{Lawful}
use Rattle.model.proofs.Rest.{AtRest, fits_there, hooked_rests}

module _ {S : Type 0} (kind : EventSourceOf S) (laws : Lawful kind) (h : List ℕ) (v : List Token) (ts : List Token) (w : World) where
  abbrev Rests : List (Slot S) → Type 0
  Rests xs = AtRest kind h v xs ts w

  -- BEFORE A WAIT
  module _ (ys : List Exchange) (o : Hooked S) (on : List (Slot S) → List PollEvent → Course S (Hooked S))
      (rest : (xs : List (Slot S)) (q : List PollEvent) → Rests xs → Takes kind (on xs q) ys o → Rests o.slots) where
    queued_rests : (a : Outcome (Option (Readiness × Token))) (xs : List (Slot S)) (q : List PollEvent) → Rests xs → Takes kind (queued a xs q on) ys o → Rests o.slots
    queued_rests (done None) xs q r k = rest xs q r k
    queued_rests (done (Some a)) xs q r k = rest xs (q ++ synthetic a ∷ []) r k
    queued_rests (refused n c) xs q r k = rw k.1 r

    asked_rests : (t : Token) (f : Option ℕ) (p : Place S) (xs : List (Slot S)) (q : List PollEvent) → Rests xs → fitting xs t ≡ f → standing_at xs f ≡ p → Takes kind (asked_at t.id p xs q on) ys o → Rests o.slots
    asked_rests t f Empty xs q r e is k = rest xs q r k
    asked_rests t f Handled xs q r e is k = rest xs q r k
    asked_rests t f (Occupied s) xs q r e is k =
        let at = fits_there xs t f s e is in
        queued_rests k.0.answer (placed xs t.id (Occupied k.0.source)) q (hooked_rests kind h v xs ts w r t s at.0 at.1 k.0.source (laws.sleeping s k.0.answer k.0.source k.1).0) k.2

  pub hooks_asked : (us : List Token) (xs : List (Slot S)) (q : List PollEvent) (ys : List Exchange) (o : Hooked S) → Rests xs → Takes kind (asks_hooks us xs q) ys o → Rests o.slots
  hooks_asked [] xs q ys o r k = rw k.1 r
  hooks_asked (t ∷ us) xs q ys o r k = by_room (nat_le 128 (length q)) (λ xs q. hooks_asked us xs q ys o) k
    where
      by_room : (b : Bool) → ((xs : List (Slot S)) (q : List PollEvent) → Rests xs → Takes kind (asks_hooks us xs q) ys o → Rests o.slots)
          → Takes kind (if b then ends (hooked_by (refusal 19) xs q) else asked_at t.id (standing_at xs (fitting xs t)) xs q (asks_hooks us)) ys o → Rests o.slots
      by_room true rest k = rw k.1 r
      by_room false rest k = asked_rests ys o (asks_hooks us) rest t (fitting xs t) (standing_at xs (fitting xs t)) xs q r refl refl k

  -- AFTER A WAIT
  shown_rests : (ys : List Exchange) (o : List (Slot S)) (on : List (Slot S) → Course S (List (Slot S))) → ((xs : List (Slot S)) → Rests xs → Takes kind (on xs) ys o → Rests o) → (t : Token) (es : List PollEvent)
      → (f : Option ℕ) (p : Place S) (xs : List (Slot S)) → Rests xs → fitting xs t ≡ f → standing_at xs f ≡ p → Takes kind (shown_at t.id p es xs on) ys o → Rests o
  shown_rests ys o on rest t es f Empty xs r e is k = rest xs r k
  shown_rests ys o on rest t es f Handled xs r e is k = rest xs r k
  shown_rests ys o on rest t es f (Occupied s) xs r e is k =
      let at = fits_there xs t f s e is in
      rest (placed xs t.id (Occupied k.0)) (hooked_rests kind h v xs ts w r t s at.0 at.1 k.0 (laws.seeing s es k.0 k.1)) k.2

  pub hooks_shown : (es : List PollEvent) (us : List Token) (xs : List (Slot S)) (ys : List Exchange) (o : List (Slot S)) → Rests xs → Takes kind (shows_hooks es us xs) ys o → Rests o
  hooks_shown es [] xs ys o r k = rw k.1 r
  hooks_shown es (t ∷ us) xs ys o r k = shown_rests ys o (shows_hooks es us) (λ zs. hooks_shown es us zs ys o) t (of_source t es) (fitting xs t) (standing_at xs (fitting xs t)) xs r refl refl k
