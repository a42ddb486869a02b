-- Where a newcomer stands.
use Rattle.std.proofs.Common.{◌≡◌, ℕ, ◌+◌, ◌<◌, ◌≤◌, Bool, true, false, cond, eqb, leb, List, [], ◌∷◌, ◌++◌, length, take, drop, sym, refl, arith}
use Rattle.std.specs.List.{AllByRecursion, insert}
use Rattle.std.specs.List.Sorted.{IsPartitionPoint}
use Rattle.std.proofs.lemmas.List.{append-nil, take-append-drop}
use Rattle.std.proofs.lemmas.List.Elements.{All-from_get_or, filter-append, recursion_from_All}
use Rattle.std.proofs.lemmas.List.Sorted.{IsNonDecreasingBy-insert}
use Rattle.std.proofs.lemmas.Grind.{common_steps}
use Rattle.timer_wheel.specs.declared.timeout.TimeoutData.{TimeoutData}
use Rattle.timer_wheel.specs.Entries.{Rising, enter}
use Rattle.timer_wheel.specs.Laws.{Joins, alike}
use Rattle.timer_wheel.proofs.Expiry.{late}

-- a newcomer between what is due no later and what is later comes last among its equals
queued : (x : TimeoutData) (front back : List TimeoutData) → AllByRecursion (λ y. x.deadline < y.deadline) back → (d : ℕ)
    → alike d (front ++ x ∷ back) ≡ alike d (front ++ back) ++ alike d (x ∷ [])
queued x front back later d = grind (arith, common_steps, late x.deadline back later, filter-append (λ (y : TimeoutData). eqb y.deadline d) front, append-nil)

enter_between : (x : TimeoutData) (front back : List TimeoutData) → AllByRecursion (λ y. y.deadline ≤ x.deadline) front → AllByRecursion (λ y. x.deadline < y.deadline) back
    → front ++ x ∷ back ≡ enter x (front ++ back)
enter_between x [] [] f b = refl
enter_between x [] (y ∷ ys) f b = grind (arith, common_steps)
enter_between x (y ∷ ys) back f b = grind (arith, common_steps, enter_between x ys back f.1 b)

-- what an insertion at its place leaves
pub record Entered (x : TimeoutData) (xs ys : List TimeoutData) : Type 0 where
  pub is : ys ≡ enter x xs
  pub joins : Joins x xs ys
  pub rising : Rising ys

-- what is due no later than x stands before place i, and what is due later from there on
module _ (x : TimeoutData) (xs : List TimeoutData) (i : ℕ) (within : i ≤ length xs)
    (split : IsPartitionPoint (λ (y : TimeoutData). leb y.deadline x.deadline ≡ true) (λ (y : TimeoutData). leb y.deadline x.deadline ≡ false) xs i) where
  sooner : AllByRecursion (λ y. y.deadline ≤ x.deadline) (take i xs)
  sooner =
      let P = λ (y : TimeoutData). y.deadline ≤ x.deadline in
      recursion_from_All P (take i xs) (All-from_get_or P (take i xs) x (λ k lt. grind (arith, common_steps, split.0 k x)))

  later : AllByRecursion (λ y. x.deadline < y.deadline) (drop i xs)
  later =
      let P = λ (y : TimeoutData). x.deadline < y.deadline in
      recursion_from_All P (drop i xs) (All-from_get_or P (drop i xs) x (λ k lt. grind (arith, common_steps, split.1 (i + k) x)))

  inserted : Rising xs → Entered x xs (insert xs i x)
  inserted r =
      let whole = take-append-drop i xs in
      record {
        is = grind (arith, enter_between x (take i xs) (drop i xs) sooner later, whole);
        joins = record {
          front = take i xs;
          back = drop i xs;
          were = sym whole;
          are = refl;
          sooner = sooner;
          later = later;
          queues = λ d. grind (arith, queued x (take i xs) (drop i xs) later d, whole);
        };
        rising = IsNonDecreasingBy-insert (λ (y : TimeoutData). y.deadline) xs i x r within (λ k d h. grind (arith, split.0 k d)) (λ k d h lt. grind (arith, split.1 k d));
      }

-- zs is what was searched, and ys what the insertion left
pub entered : {x : TimeoutData} {xs ys zs : List TimeoutData} {i : ℕ} {b : Bool} → zs ≡ xs → i ≤ length zs
    → IsPartitionPoint (λ (y : TimeoutData). leb y.deadline x.deadline ≡ true) (λ (y : TimeoutData). leb y.deadline x.deadline ≡ false) zs i
    → Rising xs → b ≡ true → ys ≡ cond b (insert xs i x) xs → Entered x xs ys
entered {x} {xs} {ys} {zs} {i} {b} same within split rising ok is =
    let e : ys ≡ insert xs i x = grind (arith, common_steps) in rw e (inserted x xs i (rw same at within) (rw same at split) rising)
