-- The rule of the timers: nothing done, one call after another, and each call of the wheel.
use Rattle.std.proofs.Common.{◌≡◌, ℕ, ◌+◌, ◌<◌, ◌≤◌, Bool, true, false, cond, ◌⊎◌, List, [], ◌∷◌, filter, count_by, sym, refl, ◌∙◌, ap, subst, inl, arith, rules}
use Rattle.std.proofs.lemmas.Grind.{common_steps}
use Rattle.token.specs.declared.token.Token.{Token}
use Rattle.token.specs.Key.{key_of}
use Rattle.token.specs.Refusal.{Outcome, done, refusal}
use Rattle.poller.specs.Meaning.{among}
use Rattle.timer_wheel.specs.declared.timeout.TimeoutData.{TimeoutData}
use Rattle.timer_wheel.specs.Entries.{cancelled, enter, stays}
use Rattle.timer_wheel.specs.Wheel.{Wheel, cancel_of, insert_of, reuse_of}
use Rattle.sys.specs.Laws.{In}
use Rattle.sys.proofs.Entries.{kept_within}
use Rattle.rules.specs.Meaning.{Nothing}
use Rattle.rules.specs.Timers.{Timers, foreign, same_timer, standings}

-- HOW OFTEN A TIMER STANDS

same_itself : (x : TimeoutData) → same_timer x x ≡ true
same_itself x = grind (arith, common_steps)

same_timers : (x y : TimeoutData) → same_timer x y ≡ true → x ≡ y
same_timers x y e = grind (arith, common_steps)

in_stands : (x : TimeoutData) (xs : List TimeoutData) → In x xs → 0 < standings x xs
in_stands x [] m = elim m [ ]
in_stands x (y ∷ ys) m = grind (arith, common_steps, same_itself x, in_stands x ys)

stands_in : (x : TimeoutData) (xs : List TimeoutData) → 0 < standings x xs → In x xs
stands_in x [] l = absurd (omega (arith, l))
stands_in x (y ∷ ys) l = grind (arith, common_steps, same_timers x y, stands_in x ys)

-- a timer that stands no more often than before stood before
pub stood : (x : TimeoutData) (xs ys : List TimeoutData) → standings x ys ≤ standings x xs → In x ys → In x xs
stood x xs ys l m = stands_in x xs (omega (arith, in_stands x ys m))

-- what a filter leaves of it
pub kept_standings : (p : TimeoutData → Bool) (x : TimeoutData) (xs : List TimeoutData) → standings x (filter p xs) ≡ cond (p x) (standings x xs) 0
kept_standings p x [] = grind (arith, common_steps)
kept_standings p x (y ∷ ys) = grind (arith, common_steps, same_timers x y, kept_standings p x ys)

-- NOTHING DONE

-- the wheel stays; counters may be forgotten
pub timers_fewer : (D : ℕ → Type 0) (cs cs' : List ℕ) (t : Wheel) → ((j : ℕ) → In j cs' → In j cs) → Timers D cs t cs' t
timers_fewer D cs cs' t sub = grind (arith, common_steps, sub)

pub timers_same : (D : ℕ → Type 0) (cs : List ℕ) (t t' : Wheel) → t' ≡ t → Timers D cs t cs t'
timers_same D cs t t' e = subst (Timers D cs t cs) (sym e) (timers_fewer D cs cs t (λ k m. m))

-- AMONG AND FOREIGN

pub in_among : (k : ℕ) (cs : List ℕ) → In k cs → among k cs ≡ true
in_among k [] m = elim m [ ]
in_among k (c ∷ cs) m = grind (arith, common_steps, in_among k cs)

pub among_in : (k : ℕ) (cs : List ℕ) → among k cs ≡ true → In k cs
among_in k [] e = grind (arith, common_steps)
among_in k (c ∷ cs) e = grind (arith, common_steps, among_in k cs)

pub foreign_later : (cs cs' : List ℕ) (n n' : ℕ) → n ≤ n' → ((k : ℕ) → In k cs' → In k cs ⊎ ((n ≤ k) × (k < n')))
    → (x : TimeoutData) → foreign cs n x ≡ true → foreign cs' n' x ≡ true
foreign_later cs cs' n n' l joins x e = grind (arith, common_steps, in_among x.counter cs, among_in x.counter cs', joins x.counter)

-- ONE CALL AFTER ANOTHER

-- what holds of any two
module _ (D E : ℕ → Type 0) (cs cs' cs'' : List ℕ) (t t' t'' : Wheel) (a : Timers D cs t cs' t') (b : Timers E cs' t' cs'' t'') where
  pub others_then : filter (foreign cs t.next) t''.timers ≡ filter (foreign cs t.next) t.timers
  others_then =
      let wider = kept_within (foreign cs t.next) (foreign cs' t'.next) (foreign_later cs cs' t.next t'.next a.forward a.joins) in
      sym (wider t''.timers) ∙ ap (filter (foreign cs t.next)) b.others ∙ wider t'.timers ∙ a.others

  pub only_then : (x : TimeoutData) → (standings x t''.timers ≤ standings x t.timers) ⊎ (D (key_of x.token) ⊎ E (key_of x.token))
  only_then x = grind (arith, a.only x, b.only x)

  pub joins_then : (k : ℕ) → In k cs'' → In k cs ⊎ ((t.next ≤ k) × (k < t''.next))
  joins_then k m = grind (arith, b.joins k m, a.joins k, a.forward, b.forward)

  pub forward_then : t.next ≤ t''.next
  forward_then = omega (arith, a.forward, b.forward)

-- The first draws nothing, so no timer joins in it. Were it otherwise, the second could forget the counter of one that joined.
pub timers_then : (F : ℕ → Type 0) (cs cs' cs'' : List ℕ) (t t' t'' : Wheel) → Timers Nothing cs t cs' t' → Timers F cs' t' cs'' t'' → Timers F cs t cs'' t''
timers_then F cs cs' cs'' t t' t'' a b = record {
  others = others_then Nothing F cs cs' cs'' t t' t'' a b;
  only = λ x. grind (arith, a.only x, b.only x);
  own = λ x. grind (arith, a.only x, b.own x);
  joins = joins_then Nothing F cs cs' cs'' t t' t'' a b;
  forward = forward_then Nothing F cs cs' cs'' t t' t'' a b;
}

-- more keys count as drawn
pub timers_weaker : (D F : ℕ → Type 0) (cs cs' : List ℕ) (t t' : Wheel) → ((k : ℕ) → D k → F k) → Timers D cs t cs' t' → Timers F cs t cs' t'
timers_weaker D F cs cs' t t' h a = grind (arith, a.only, h)

-- THE CALLS OF THE WHEEL

-- an entry joins
enter_others : (p : TimeoutData → Bool) (y : TimeoutData) → p y ≡ false → (xs : List TimeoutData) → filter p (enter y xs) ≡ filter p xs
enter_others p y n [] = grind (arith, common_steps)
enter_others p y n (x ∷ xs) = grind (arith, common_steps, enter_others p y n xs)

enter_count : (p : TimeoutData → Bool) (y : TimeoutData) (xs : List TimeoutData) → count_by p (enter y xs) ≡ count_by p (y ∷ xs)
enter_count p y [] = refl
enter_count p y (x ∷ xs) = grind (arith, common_steps, enter_count p y xs)

-- so it alone stands more often
enter_standings : (P : TimeoutData → Type 0) (y x : TimeoutData) (xs : List TimeoutData) → P y → (standings x (enter y xs) ≤ standings x xs) ⊎ P x
enter_standings P y x xs here = grind (arith, common_steps, enter_count (same_timer x) y xs, same_timers x y, here)

-- entries leave
cancelled_others : (p : TimeoutData → Bool) (k : ℕ) → ((x : TimeoutData) → x.counter ≡ k → p x ≡ false) → (xs : List TimeoutData) → filter p (cancelled k xs) ≡ filter p xs
cancelled_others p k n [] = refl
cancelled_others p k n (x ∷ xs) = grind (arith, common_steps, n x, kept_within p (stays k) (λ y e. grind (arith, common_steps, n y)) (x ∷ xs))

kept_count : (p q : TimeoutData → Bool) (xs : List TimeoutData) → count_by p (filter q xs) ≤ count_by p xs
kept_count p q [] = omega arith
kept_count p q (x ∷ xs) = grind (arith, common_steps, kept_count p q xs)

cancelled_count : (p : TimeoutData → Bool) (k : ℕ) (xs : List TimeoutData) → count_by p (cancelled k xs) ≤ count_by p xs
cancelled_count p k [] = omega arith
cancelled_count p k (x ∷ xs) = grind (arith, common_steps, kept_count p (stays k) (x ∷ xs))

-- those with a counter that is not foreign
pub cancel_timers : (D : ℕ → Type 0) (cs cs' : List ℕ) (k : ℕ) (t : Wheel) → In k cs → ((j : ℕ) → In j cs' → In j cs) → Timers D cs t cs' (cancel_of k t)
cancel_timers D cs cs' k t m sub = record {
  others = cancelled_others (foreign cs t.next) k (λ x e. grind (arith, common_steps, in_among k cs m)) t.timers;
  only = λ x. inl (cancelled_count (same_timer x) k t.timers);
  own = λ x. inl (cancelled_count (same_timer x) k t.timers);
  joins = λ j i. inl (sub j i);
  forward = omega arith;
}

-- one that is not foreign joins, under a key that was drawn and a counter that is the source's then
enter_timers : (D : ℕ → Type 0) (cs cs' : List ℕ) (t : Wheel) (n : ℕ) (y : TimeoutData) → D (key_of y.token) → In y.counter cs' → foreign cs t.next y ≡ false → t.next ≤ n
    → ((k : ℕ) → In k cs' → In k cs ⊎ ((t.next ≤ k) × (k < n))) → Timers D cs t cs' (record { timers = enter y t.timers; next = n })
enter_timers D cs cs' t n y here mine own later joins = record {
  others = enter_others (foreign cs t.next) y own t.timers;
  only = λ x. enter_standings (λ z. D (key_of z.token)) y x t.timers here;
  own = λ x. enter_standings (λ z. In z.counter cs') y x t.timers mine;
  joins = joins;
  forward = later;
}

pub insert_timers : (D : ℕ → Type 0) (cs : List ℕ) (d : ℕ) (k : Token) (t : Wheel) → D (key_of k)
    → Timers D cs t (t.next ∷ []) (record { timers = enter (record { deadline = d; token = k; counter = t.next }) t.timers; next = t.next + 1 })
insert_timers D cs d k t here = enter_timers D cs _ t _ _ here (inl refl) (grind (arith, common_steps)) (omega arith) (λ j m. grind (arith, common_steps))

pub reuse_timers : (D : ℕ → Type 0) (cs : List ℕ) (c d : ℕ) (k : Token) (t : Wheel) → In c cs → D (key_of k)
    → Timers D cs t cs (record { timers = enter (record { deadline = d; token = k; counter = c }) t.timers; next = t.next })
reuse_timers D cs c d k t mine here = enter_timers D cs cs t _ _ here mine (grind (arith, common_steps, in_among c cs mine)) (omega arith) (λ j m. inl m)

-- the cases of an insertion, and of one under a counter that is given
pub insert_cases : (d : ℕ) (k : Token) (t : Wheel) (P : Outcome ℕ → Wheel → Type 0) → P (refusal 16) t → P (refusal 17) t
    → P (done t.next) (record { timers = enter (record { deadline = d; token = k; counter = t.next }) t.timers; next = t.next + 1 })
    → P (insert_of d k t).0 (insert_of d k t).1
insert_cases d k t P full spent joined = search rules

pub reuse_cases : (c d : ℕ) (k : Token) (t : Wheel) (P : Outcome (Unit {0}) → Wheel → Type 0) → P (refusal 16) t
    → P (done tt) (record { timers = enter (record { deadline = d; token = k; counter = c }) t.timers; next = t.next })
    → P (reuse_of c d k t).0 (reuse_of c d k t).1
reuse_cases c d k t P full joined = search rules
