-- What each turn keeps all turns of a dispatch keep, those of the hooks' events first.
use Rattle.std.proofs.Common.{◌≡◌, ℕ, List, [], ◌∷◌, ◌++◌, Option, append_assoc, refl, subst, sym}
use Rattle.std.proofs.lemmas.List.{map-append}
use Rattle.token.specs.Refusal.{done, refused}
use Rattle.poller.specs.Meaning.{Answer}
use Rattle.list.specs.declared.slots.Slot.{Slot}
use Rattle.sys.specs.declared.event.PollEvent.{PollEvent}
use Rattle.sys.specs.World.{Exchange}
use Rattle.kinds.specs.declared.source.EventSource.{Ghosts as EventSourceOf}
use Rattle.model.specs.Course.{Takes}
use Rattle.model.specs.Dispatch.{Dispatched, Turn, Turns, goes_on, handled, hands_out, lost, no_turns, shows_hooks, turn_of, turns_of, with_lost, with_turn}
use Rattle.model.specs.State.{Loop}
use Rattle.model.proofs.Course.{taken_made, taken_then}

-- `I` speaks of the events that have had no turn and of the turns so far, and `R` of what the turns leave.
pub record Steps {S : Type 0} (kind : EventSourceOf S) (I : List PollEvent → Turns S → Type 0) (R : Turns S → Type 0) : Type 0 where
  -- each turn keeps it
  pub step : (e : PollEvent) (es : List PollEvent) (a : Turns S) (qs : List Exchange) (t : Turn S) → I (e ∷ es) a → Takes kind (turn_of kind a.loop e) qs t → I es (with_turn a e t)
  -- all turns are over, or they stop at a fault
  pub over : (a : Turns S) → I [] a → R a
  pub stop : (n : ℕ) (c : Option ℕ) (es : List PollEvent) (a : Turns S) → a.answer ≡ refused n c → I es a → R (with_lost a es)

module _ {S : Type 0} (kind : EventSourceOf S) (I : List PollEvent → Turns S → Type 0) (R : Turns S → Type 0) (steps : Steps kind I R) where
  -- after a turn, by its answer
  goes_keep : (r : Answer) (es : List PollEvent) (a : Turns S) (qs : List Exchange) (o : Turns S) → a.answer ≡ r → I es a
      → ((b : Turns S) (ys : List Exchange) → I es b → Takes kind (turns_of kind es b) ys o → R o) → Takes kind (goes_on kind r (turns_of kind es) es a) qs o → R o
  goes_keep (done u) es a qs o is i more c = more a qs i c
  goes_keep (refused n d) es a qs o is i more c = rw c.1 (steps.stop n d es a is i)

  pub turns_keep : (es : List PollEvent) (a : Turns S) (qs : List Exchange) (o : Turns S) → I es a → Takes kind (turns_of kind es a) qs o → R o
  turns_keep [] a qs o i c = rw c.1 (steps.over a i)
  turns_keep (e ∷ es) a qs o i c =
      let t = taken_then kind (λ (t : Turn S). goes_on kind t.answer (turns_of kind es) es (with_turn a e t)) o (turn_of kind a.loop e) qs c in
      goes_keep t.outcome.answer es (with_turn a e t.outcome) t.second o refl (steps.step e es a t.first t.outcome i t.came) (λ b ys. turns_keep es b ys o) t.rest

module _ {S : Type 0} (kind : EventSourceOf S) (I : List PollEvent → Turns S → Type 0) (R : Turns S → Type 0) (steps : Steps kind I R) where
  -- after the turns of the hooks' events, with those of the poller and the timers to come
  abbrev Between : List PollEvent → Answer → Turns S → Type 0
  Between es (done u) a = I es a
  Between es (refused n c) a = R (with_lost a es)

  over_between : (es : List PollEvent) (r : Answer) (a : Turns S) → a.answer ≡ r → I es a → Between es r a
  over_between es (done u) a is i = i
  over_between es (refused n c) a is i = steps.stop n c es a is i

  stop_between : (es : List PollEvent) (n : ℕ) (c : Option ℕ) (q : List PollEvent) (a : Turns S) → a.answer ≡ refused n c → I (q ++ es) a → Between es a.answer (with_lost a q)
  stop_between es n c q a is i =
      let all : R (record a { sheet = (a.sheet ++ lost q) ++ lost es }) = rw (append_assoc, ← map-append) (steps.stop n c (q ++ es) a is i) in
      subst (λ r. Between es r (with_lost a q)) (sym is) all

  steps_between : (es : List PollEvent) → Steps kind (λ q a. I (q ++ es) a) (λ a. Between es a.answer a)
  steps_between es = record { step = λ e q. steps.step e (q ++ es); over = λ a. over_between es a.answer a refl; stop = stop_between es }

  second_keeps : (r : Answer) (es : List PollEvent) (a : Turns S) (qs : List Exchange) (o : Turns S) → Between es r a → Takes kind (goes_on kind r (turns_of kind es) es a) qs o → R o
  second_keeps (done u) es a qs o i c = turns_keep kind I R steps es a qs o i c
  second_keeps (refused n d) es a qs o r c = rw c.1 r

  -- what the turns left is what the dispatch leaves
  pub record HandedOut (es : List PollEvent) (o : Dispatched S) : Type 0 where
    pub left : Turns S
    pub brought : R left
    pub is : o ≡ handled es left

  pub handed_out : (q es : List PollEvent) (l : Loop S) (qs : List Exchange) (o : Dispatched S)
      → ((ys : List Exchange) (xs : List (Slot S)) → Takes kind (shows_hooks es l.lifecycle l.slots) ys xs → I (q ++ es) (no_turns (record l { slots = xs }))) → Takes kind (hands_out kind q es l) qs o → HandedOut es o
  handed_out q es l qs o begins c =
      let shown = taken_then kind _ o (shows_hooks es l.lifecycle l.slots) qs c in
      let begun = no_turns (record l { slots = shown.outcome }) in
      let first = taken_then kind _ o (turns_of kind q begun) shown.second shown.rest in
      let a = first.outcome in
      let last = taken_made kind (handled es) o (goes_on kind a.answer (turns_of kind es) es a) first.second first.rest in
      let between = turns_keep kind (λ q b. I (q ++ es) b) (λ b. Between es b.answer b) (steps_between es) q begun first.first a (begins shown.first shown.outcome shown.came) first.came in
      record { left = last.0; brought = second_keeps a.answer es a first.second last.0 between last.1; is = last.2 }
