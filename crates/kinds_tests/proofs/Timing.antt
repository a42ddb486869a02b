-- The timers around a wait: what it takes may as well be taken before.
use Rattle.std.proofs.Common.{◌≡◌, ℕ, Bool, List, [], ◌∷◌, ◌++◌, filter, nat_lt, Some, None, Option, refl, subst, inl, inr, arith}
use Rattle.std.proofs.lemmas.Grind.{common_steps}
use Rattle.token.specs.Refusal.{done, refused}
use Rattle.poller.specs.declared.entry.Event.{Event}
use Rattle.poller.specs.declared.poller.Poller.{Ghosts as PollerOf}
use Rattle.poller.specs.Meaning.{Answer}
use Rattle.timer_wheel.specs.declared.timeout.TimeoutData.{TimeoutData}
use Rattle.timer_wheel.specs.Laws.{rest}
use Rattle.timer_wheel.specs.Wheel.{Wheel, first_deadline}
use Rattle.sys.specs.declared.clock.Clock.{Ghosts as ClockOf}
use Rattle.sys.specs.declared.event.PollEvent.{PollEvent}
use Rattle.sys.specs.Laws.{In}
use Rattle.sys.specs.Polling.{Polls, State, Takes, Wakes}
use Rattle.sys.specs.Timeout.{TimedBy}
use Rattle.sys.specs.World.{Asked, Exchange, added, deleted, modified, read, waited}
use Rattle.rules.specs.Meaning.{Nothing}
use Rattle.rules.specs.Timers.{Timers, foreign}
use Rattle.rules.proofs.Timers.{forward_then, joins_then, kept_standings, only_then, others_then}
use Rattle.kinds_tests.specs.Timing.{LeftBy, Readings, Timed, TimersOver}

-- LISTS

in_front : {X : Type 0} (x : X) (xs ys : List X) → In x xs → In x (xs ++ ys)
in_front x [] ys h = absurd h
in_front x (y ∷ xs) ys h = grind (arith, common_steps, in_front x xs ys)

in_back : {X : Type 0} (x : X) (xs ys : List X) → In x ys → In x (xs ++ ys)
in_back x [] ys h = h
in_back x (y ∷ xs) ys h = inr (in_back x xs ys h)

filters_swap : {X : Type 0} (p q : X → Bool) (xs : List X) → filter p (filter q xs) ≡ filter q (filter p xs)
filters_swap p q [] = refl
filters_swap p q (x ∷ xs) = grind (arith, common_steps, filters_swap p q xs)

-- THE RULE OF THE TIMERS

-- a call, and one that draws nothing
pub over_two : (D : ℕ → Type 0) (cs cs' cs'' : List ℕ) (t t' t'' : Wheel) → Timers D cs t cs' t' → Timers Nothing cs' t' cs'' t'' → TimersOver D cs t cs'' t''
over_two D cs cs' cs'' t t' t'' a b = record {
  others = others_then D Nothing cs cs' cs'' t t' t'' a b;
  only = λ x. grind (arith, only_then D Nothing cs cs' cs'' t t' t'' a b x);
  from = λ x. grind (arith, a.own x, a.joins x.counter, b.only x, b.forward);
  joins = joins_then D Nothing cs cs' cs'' t t' t'' a b;
  forward = forward_then D Nothing cs cs' cs'' t t' t'' a b;
}

rest_timers : (D : ℕ → Type 0) (n : ℕ) (cs cs' : List ℕ) (t t' : Wheel) → Timers D cs t cs' t' → Timers D cs (rest n t) cs' (rest n t')
rest_timers D n cs cs' t t' r =
    let late = λ (x : TimeoutData). nat_lt n x.deadline in
    let kept = λ (x : TimeoutData) (xs : List TimeoutData). kept_standings late x xs in
    record {
      others = grind (arith, r.others, filters_swap (foreign cs t.next) late t.timers, filters_swap (foreign cs t.next) late t'.timers);
      only = λ x. grind (arith, common_steps, r.only x, kept x t.timers, kept x t'.timers);
      own = λ x. grind (arith, common_steps, r.own x, kept x t.timers, kept x t'.timers);
      joins = r.joins;
      forward = r.forward;
    }

-- one call, a wait, and another
left_timers : (D : ℕ → Type 0) (ns : List ℕ) (cs cs' cs'' : List ℕ) (t v v' t' : Wheel) → Timers D cs t cs' v → LeftBy ns v v' → Timers Nothing cs' v' cs'' t'
    → (u : Wheel) × LeftBy ns t u × TimersOver D cs u cs'' t'
left_timers D ns cs cs' cs'' t v v' t' a (inl e) b = (t, inl refl, over_two D cs cs' cs'' t v t' a (subst (λ (x : Wheel). Timers Nothing cs' x cs'' t') e b))
left_timers D ns cs cs' cs'' t v v' t' a (inr h) b =
    let n = h.0 in
    (rest n t, inr (n, h.1, refl), over_two D cs cs' cs'' (rest n t) (rest n v) t' (rest_timers D n cs cs' t v a) (subst (λ (x : Wheel). Timers Nothing cs' x cs'' t') h.2 b))

left_more : (ns ms ks : List ℕ) (t t' : Wheel) → LeftBy ms t t' → LeftBy (ns ++ ms ++ ks) t t'
left_more ns ms ks t t' (inl e) = inl e
left_more ns ms ks t t' (inr h) = inr (h.0, in_front h.0 (ns ++ ms) ks (in_back h.0 ns ms h.1), h.2)

-- READINGS

module _ {C : Type 0} (clock : ClockOf C) where
  readings_then : (ns ms : List ℕ) (c m c' : C) → Readings clock c ns m → Readings clock m ms c' → Readings clock c (ns ++ ms) c'
  readings_then [] ms c m c' a b = subst (λ (x : C). Readings clock x ms c') a b
  readings_then (n ∷ ns) ms c m c' a b = (a.0, a.1, readings_then ns ms a.0 m c' a.2 b)

  -- of all that was asked the readings
  pub asked_readings : {P : Type 0} (poller : PollerOf P) (xs : List Exchange) (p p' : P) (c c' : C) → Asked poller clock xs p c p' c' → (ns : List ℕ) × Readings clock c ns c'
  asked_readings poller [] p p' c c' h = ([], h.1)
  asked_readings poller (added q r ∷ xs) p p' c c' h = asked_readings poller xs h.0 p' c c' h.2
  asked_readings poller (modified q r ∷ xs) p p' c c' h = asked_readings poller xs h.0 p' c c' h.2
  asked_readings poller (deleted f r ∷ xs) p p' c c' h = asked_readings poller xs h.0 p' c c' h.2
  asked_readings poller (waited t r vs ∷ xs) p p' c c' h = asked_readings poller xs h.0 p' c c' h.2
  asked_readings poller (read n ∷ xs) p p' c c' h = let r = asked_readings poller xs p p' h.0 c' h.2 in (n ∷ r.0, (h.0, h.1, r.1))

  timed_readings : (given o : Option ℕ) (c c' : C) (t : Option ℕ) → TimedBy clock given o c c' t → (ns : List ℕ) × Readings clock c ns c'
  timed_readings given None c c' t h = ([], h.1)
  timed_readings given (Some d) c c' t h = (h.0 ∷ [], (c', h.1, refl))

  -- one call, a wait, and another, with what each read
  pub timed_then : (D : ℕ → Type 0) (ns ms ks : List ℕ) (c k k' c' : C) (cs cs' cs'' : List ℕ) (t v v' t' : Wheel) → Readings clock c ns k → Timers D cs t cs' v
      → Readings clock k ms k' → LeftBy ms v v' → Readings clock k' ks c' → Timers Nothing cs' v' cs'' t' → Timed clock D c cs t c' cs'' t'
  timed_then D ns ms ks c k k' c' cs cs' cs'' t v v' t' one a two taken three b =
      let r = left_timers D ms cs cs' cs'' t v v' t' a taken b in
      record {
        readings = ns ++ ms ++ ks;
        read = readings_then (ns ++ ms) ks c k' c' (readings_then ns ms c k k' one two) three;
        left = r.0;
        taken = left_more ns ms ks t r.0 r.1;
        timers = r.2;
      }

  module _ {P : Type 0} (poller : PollerOf P) (s s' : State P C) (r : Answer) (es : List PollEvent) where
    -- what a wait makes of the clock and of the timers from the reading `c` on
    abbrev Ends : C → Type 0
    Ends c = (ns : List ℕ) × Readings clock c ns s'.clock × LeftBy ns s.wheel s'.wheel

    takes_left : (a : Answer) (vs : List Event) (p : P) (k : C) → Takes poller clock a vs s p k r es s' → Ends k
    takes_left (refused n c) vs p k h = ([], grind (arith, h.2), inl (grind (arith, h.2)))
    takes_left (done u) vs p k h = (h.0 ∷ [], (s'.clock, h.1, refl), inr (h.0, inl refl, grind (arith, h.4)))

    wakes_left : (a : Answer) (vs : List Event) (p : P) (k : C) → Wakes poller clock a vs s p k r es s' → Ends k
    wakes_left (refused n c) vs p k h = ([], grind (arith, h.2), inl (grind (arith, h.2)))
    wakes_left (done u) vs p k h = takes_left h.0 vs h.1 k h.3

    pub polls_left : (given : Option ℕ) → Polls poller clock given s r es s' → Ends s.clock
    polls_left given h =
        let one = timed_readings given (first_deadline s.wheel) s.clock h.read h.timeout h.timed in
        let two = wakes_left h.answer h.told h.left h.read h.wakes in
        (one.0 ++ two.0, readings_then one.0 two.0 s.clock h.read s'.clock one.1 two.1, elim two.2 [ inl e ↦ inl e | inr x ↦ inr (x.0, in_back x.0 one.0 two.0 x.1, x.2) ])
