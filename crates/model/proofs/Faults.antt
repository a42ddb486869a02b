-- What stopped a dispatch: a hook, the wait, or a turn, each by its own numbers.
use Rattle.std.specs.Prelude.{if◌then◌else◌}
use Rattle.std.proofs.Common.{ℕ, Bool, true, false, List, [], ◌∷◌, ◌++◌, length, nat_le, Some, None, Option, refl, arith}
use Rattle.std.proofs.lemmas.Grind.{common_steps}
use Rattle.token.specs.declared.token.Token.{Token}
use Rattle.token.specs.Key.{own_source}
use Rattle.token.specs.Refusal.{Outcome, done, refusal, refused}
use Rattle.poller.specs.declared.entry.Readiness.{Readiness}
use Rattle.poller.specs.Meaning.{Answer}
use Rattle.post_action.specs.declared.PostAction.{PostAction}
use Rattle.post_action.specs.declared.PostAction.TheVariants.{Continue, Disable, Remove, Reregister}
use Rattle.list.specs.Slots.{fitting, placed}
use Rattle.list.specs.declared.slots.Place.{Place}
use Rattle.list.specs.declared.slots.Place.TheVariants.{Empty, Handled, Occupied}
use Rattle.list.specs.declared.slots.Slot.{Slot}
use Rattle.sys.specs.declared.event.PollEvent.{PollEvent}
use Rattle.sys.specs.World.{Exchange, World}
use Rattle.rules.specs.Refusals.{OneOf, RefusedBy, by_event, by_hook, by_unregister}
use Rattle.kinds.specs.declared.source.EventSource.{Ghosts as EventSourceOf}
use Rattle.model.specs.Calls.{renews, standing_at, withdraws}
use Rattle.model.specs.Course.{Course, Takes, ends}
use Rattle.model.specs.Dispatch.{Dispatched, Hooked, InHand, Turn, Turns, action_of, acts, asked_at, asks_hooks, fate_of, hands_out, held, hooked_by, queued, settles, synthetic, turn_by, turned}
use Rattle.model.specs.Refusals.{by_admission, by_asking, by_turn}
use Rattle.model.specs.State.{Loop}
use Rattle.model.proofs.Course.{taken_made, taken_then}
use Rattle.model.proofs.Kept.{Lawful, renewed, withdrawn}
use Rattle.model.proofs.Refusals.{by_renewal, by_withdrawal, more}
use Rattle.model.proofs.Turn.{settling}
use Rattle.model.proofs.Turns.{Steps, handed_out}

-- what an unregister, or an event, is refused with, a turn may be
unregister_turn : (a : Answer) → RefusedBy by_unregister a → RefusedBy by_turn a
unregister_turn (done u) by = tt
unregister_turn (refused n c) by = (grind (arith, common_steps, by.0), by.1)

event_turn : (n : ℕ) (c : Option ℕ) → OneOf by_event n c → OneOf by_turn n c
event_turn n c by = (grind (arith, common_steps, by.0), by.1)

module _ {S : Type 0} (kind : EventSourceOf S) (laws : Lawful kind) where
  -- THE HOOKS
  module _ (ys : List Exchange) (o : Hooked S) where
    abbrev Asked : Type 0
    Asked = RefusedBy by_asking o.answer

    queued_refused : (s s' : S) (on : List (Slot S) → List PollEvent → Course S (Hooked S)) → ((xs : List (Slot S)) (q : List PollEvent) → Takes kind (on xs q) ys o → Asked)
        → (a : Outcome (Option (Readiness × Token))) → kind.sleeps s a s' → (xs : List (Slot S)) (q : List PollEvent) → Takes kind (queued a xs q on) ys o → Asked
    queued_refused s s' on rest (done None) h xs q k = rest xs q k
    queued_refused s s' on rest (done (Some a)) h xs q k = rest xs (q ++ synthetic a ∷ []) k
    queued_refused s s' on rest (refused n c) h xs q k = rw k.1 (more 19 by_hook (refused n c) (laws.sleeping s (refused n c) s' h).1)

    asked_refused : (i : ℕ) (on : List (Slot S) → List PollEvent → Course S (Hooked S)) → ((xs : List (Slot S)) (q : List PollEvent) → Takes kind (on xs q) ys o → Asked)
        → (p : Place S) (xs : List (Slot S)) (q : List PollEvent) → Takes kind (asked_at i p xs q on) ys o → Asked
    asked_refused i on rest Empty xs q k = rest xs q k
    asked_refused i on rest Handled xs q k = rest xs q k
    asked_refused i on rest (Occupied s) xs q k = queued_refused s k.0.source on rest k.0.answer k.1 (placed xs i (Occupied k.0.source)) q k.2

    pub hooks_refused : (us : List Token) (xs : List (Slot S)) (q : List PollEvent) → Takes kind (asks_hooks us xs q) ys o → Asked
    hooks_refused [] xs q k = rw k.1 tt
    hooks_refused (t ∷ us) xs q k = by_room (nat_le 128 (length q)) (λ xs q. hooks_refused us xs q) k
      where
        by_room : (b : Bool) → ((xs : List (Slot S)) (q : List PollEvent) → Takes kind (asks_hooks us xs q) ys o → Asked)
            → Takes kind (if b then ends (hooked_by (refusal 19) xs q) else asked_at t.id (standing_at xs (fitting xs t)) xs q (asks_hooks us)) ys o → Asked
        by_room true rest k = rw k.1 (refl, refl)
        by_room false rest k = asked_refused t.id (asks_hooks us) rest (standing_at xs (fitting xs t)) xs q k

  -- THE TURNS
  acts_refused : (l : Loop S) (p : PostAction) (t : Token) (xs : List (Slot S)) (w : World) (s : S) (qs : List Exchange) (o : InHand S) → Takes kind (acts kind p t xs l.lifecycle w s) qs o → RefusedBy by_turn o.answer
  acts_refused l Continue t xs w s qs o c = rw c.1 tt
  acts_refused l Reregister t xs w s qs o c =
      let m = taken_made kind (held xs t true) o (renews kind l.lifecycle w s t) qs c in
      let by = by_renewal kind laws (record l { world = w }) qs s t m.0 (renewed kind l.lifecycle w s t qs m.0 m.1) in
      rw m.2 (more 9 by_admission m.0.answer by)
  acts_refused l Disable t xs w s qs o c =
      let m = taken_made kind (held xs t false) o (withdraws kind l.lifecycle w s t) qs c in
      let by = by_withdrawal kind laws (record l { world = w }) qs s t m.0 (withdrawn kind l.lifecycle w s t qs m.0 m.1) in
      rw m.2 (unregister_turn m.0.answer by)
  acts_refused l Remove t xs w s qs o c = rw c.1 tt

  -- the source's own fault goes first
  fate_refused : (r : Outcome PostAction) (a : Answer) → RefusedBy by_event r → RefusedBy by_turn a → RefusedBy by_turn (fate_of r a)
  fate_refused (done p) a by act = act
  fate_refused (refused n c) a by act = event_turn n c by

  turn_refused : (l : Loop S) (e : PollEvent) (t : Token) (p : Place S) (qs : List Exchange) (o : Turn S) → Takes kind (turn_by kind l e t p) qs o → RefusedBy by_turn o.answer
  turn_refused l e t Empty qs o c = rw c.1 tt
  turn_refused l e t Handled qs o c = rw c.1 tt
  turn_refused l e t (Occupied s) qs o c =
      let p = c.0 in
      let law = laws.processing s l.world e.readiness e.token [] p.exchanges p.answer p.source p.world p.errands c.1 in
      let a = taken_then kind (settling l t p.answer p.errands) o (acts kind (action_of p.answer l.pending) t (placed l.slots t.id Handled) l.lifecycle p.world p.source) c.2 c.4 in
      let i = a.outcome in
      let act = acts_refused l (action_of p.answer l.pending) t (placed l.slots t.id Handled) p.world p.source a.first i a.came in
      let m = taken_made kind (turned l (fate_of p.answer i.answer) p.errands) o (settles (fitting i.slots t) (fate_of p.answer i.answer) t i.slots i.lifecycle i.world i.source) a.second a.rest in
      rw m.2 (fate_refused p.answer i.answer law.refusals act)

  turns_refused : Steps kind (λ es (a : Turns S). RefusedBy by_turn a.answer) (λ (b : Turns S). RefusedBy by_turn b.answer)
  turns_refused = record {
    step = λ e es a qs t i c. turn_refused a.loop e (own_source e.token) (standing_at a.loop.slots (fitting a.loop.slots (own_source e.token))) qs t c;
    over = λ a i. i;
    stop = λ n d es a is i. i;
  }

  -- after a wait that succeeded
  pub woken_refused : (q es : List PollEvent) (l : Loop S) (qs : List Exchange) (o : Dispatched S) → Takes kind (hands_out kind q es l) qs o → RefusedBy by_turn o.answer
  woken_refused q es l qs o c =
      let k = handed_out kind (λ es a. RefusedBy by_turn a.answer) (λ b. RefusedBy by_turn b.answer) turns_refused q es l qs o (λ ys xs d. tt) c in
      rw k.is k.brought
