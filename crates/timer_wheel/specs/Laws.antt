-- The laws above the calls: where a newcomer stands, and what expiry takes in all.
use Rattle.std.specs.Prelude.{◌≡◌, ℕ, ◌<◌, ◌≤◌, List, [], ◌∷◌, ◌++◌, map, Some, None, filter, nat_eq, nat_le, nat_lt}
use Rattle.std.specs.List.{AllByRecursion}
use Rattle.token.specs.declared.token.Token.{Token}
use Rattle.timer_wheel.specs.declared.timeout.TimeoutData.{TimeoutData}
use Rattle.timer_wheel.specs.Entries.{Rising}
use Rattle.timer_wheel.specs.Wheel.{Wheel, told, expired_of}

-- the entries of one deadline
abbrev pub alike : ℕ → List TimeoutData → List TimeoutData
alike d = filter (λ (y : TimeoutData). nat_eq y.deadline d)

-- a newcomer stands behind every entry that is due no later and before every later one, and the others keep their order
pub record Joins (x : TimeoutData) (xs ys : List TimeoutData) : Type 0 where
  pub front : List TimeoutData
  pub back : List TimeoutData
  pub were : xs ≡ front ++ back
  pub are : ys ≡ front ++ x ∷ back
  pub sooner : AllByRecursion (λ y. y.deadline ≤ x.deadline) front
  pub later : AllByRecursion (λ y. x.deadline < y.deadline) back
  -- so equal deadlines stand in order of entry
  pub queues : (d : ℕ) → alike d ys ≡ alike d xs ++ alike d (x ∷ [])

abbrev pub due_by : ℕ → List TimeoutData → List TimeoutData
due_by n = filter (λ (y : TimeoutData). nat_le y.deadline n)

abbrev pub due_after : ℕ → List TimeoutData → List TimeoutData
due_after n = filter (λ (y : TimeoutData). nat_lt n y.deadline)

-- expired entries are taken at one instant until there is none: what was answered, and the wheel after
abbrev pub Drains : ℕ → Wheel → List (ℕ × Token) → Wheel → Type 0
Drains n w [] v = expired_of n w ≡ (None, v)
Drains n w (a ∷ rs) v = (u : Wheel) × (expired_of n w ≡ (Some a, u)) × Drains n u rs v

-- what is left when all that is due by the instant is gone
abbrev pub rest : ℕ → Wheel → Wheel
rest n w = record w { timers = due_after n w.timers }

-- taking comes to an end, and takes exactly what is due, by rising deadline, in the order in which it stands
pub record Exact (n : ℕ) (w : Wheel) : Type 0 where
  pub ends : Drains n w (map told (due_by n w.timers)) (rest n w)
  pub only : (rs : List (ℕ × Token)) (v : Wheel) → Drains n w rs v → (rs ≡ map told (due_by n w.timers)) × (v ≡ rest n w)
  pub order : Rising (due_by n w.timers)
