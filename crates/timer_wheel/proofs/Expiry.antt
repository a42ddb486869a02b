-- The laws of expiry.
use Rattle.std.proofs.Common.{◌≡◌, ℕ, ◌<◌, leb, List, [], ◌∷◌, map, refl, arith}
use Rattle.std.specs.List.{AllByRecursion}
use Rattle.std.proofs.lemmas.List.Elements.{All-from_get_or, recursion_from_All}
use Rattle.std.proofs.lemmas.List.Sorted.{IsNonDecreasingBy-drop}
use Rattle.std.proofs.lemmas.List.Kept.{IsNonDecreasingBy-filter}
use Rattle.std.proofs.lemmas.Grind.{common_steps}
use Rattle.token.specs.declared.token.Token.{Token}
use Rattle.timer_wheel.specs.declared.timeout.TimeoutData.{TimeoutData}
use Rattle.timer_wheel.specs.Entries.{Rising}
use Rattle.timer_wheel.specs.Wheel.{Wheel, told}
use Rattle.timer_wheel.specs.Laws.{Exact, Drains, alike, due_by, due_after, rest}

-- entries that are due later than n
pub late : (n : ℕ) (xs : List TimeoutData) → AllByRecursion (λ y. n < y.deadline) xs → (due_by n xs ≡ []) × (due_after n xs ≡ xs) × (alike n xs ≡ [])
late n [] a = (refl, refl, refl)
late n (x ∷ xs) a = grind (arith, common_steps, late n xs a.1)

-- behind one of them, all are
all_late : (n : ℕ) (x : TimeoutData) (xs : List TimeoutData) → n < x.deadline → Rising (x ∷ xs) → AllByRecursion (λ y. n < y.deadline) (x ∷ xs)
all_late n x xs lt r =
    let P = λ (y : TimeoutData). n < y.deadline in
    recursion_from_All P (x ∷ xs) (All-from_get_or P (x ∷ xs) x (λ i h. omega (arith, lt, r 0 i x (omega arith) h)))

abbrev wheel : ℕ → List TimeoutData → Wheel
wheel k xs = record { timers = xs; next = k }

drains : (n k : ℕ) (xs : List TimeoutData) → Rising xs → Drains n (wheel k xs) (map told (due_by n xs)) (wheel k (due_after n xs))
drains n k [] o = refl
drains n k (x ∷ xs) o =
    let l = λ (lt : n < x.deadline). late n (x ∷ xs) (all_late n x xs lt o) in
    grind (arith, common_steps, l, drains n k xs (IsNonDecreasingBy-drop (λ (y : TimeoutData). y.deadline) 1 (x ∷ xs) o))

-- two runs from one wheel are one
same_run : (n : ℕ) (w : Wheel) (rs ts : List (ℕ × Token)) (u v : Wheel) → Drains n w rs u → Drains n w ts v → (rs ≡ ts) × (u ≡ v)
same_run n w [] [] u v p q = grind (arith, p, q)
same_run n w [] (b ∷ ts) u v p q = grind (arith, p, q.1)
same_run n w (a ∷ rs) [] u v p q = grind (arith, p.1, q)
same_run n w (a ∷ rs) (b ∷ ts) u v p q = grind (arith, p.1, q.1, same_run n q.0 rs ts u v)

pub exact : (n : ℕ) (w : Wheel) → Rising w.timers → Exact n w
exact n w r =
    let d = drains n w.next w.timers r in
    record {
      ends = d;
      only = λ rs v run. same_run n w rs (map told (due_by n w.timers)) v (rest n w) run d;
      order = IsNonDecreasingBy-filter (λ (y : TimeoutData). y.deadline) (λ (y : TimeoutData). leb y.deadline n) w.timers r;
    }
