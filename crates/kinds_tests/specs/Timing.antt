-- What becomes of the timers over several calls of a source, and where a wait was made between them.
use Rattle.std.specs.Prelude.{◌≡◌, ℕ, ◌<◌, ◌≤◌, ◌⊎◌, List, [], ◌∷◌, filter}
use Rattle.token.specs.Key.{key_of}
use Rattle.timer_wheel.specs.declared.timeout.TimeoutData.{TimeoutData}
use Rattle.timer_wheel.specs.Laws.{rest}
use Rattle.timer_wheel.specs.Wheel.{Wheel}
use Rattle.sys.specs.declared.clock.Clock.{Ghosts as ClockOf}
use Rattle.sys.specs.Laws.{In}
use Rattle.rules.specs.Timers.{foreign, standings}

-- the counter was one of the source's own, or came from the wheel since
abbrev pub Given : List ℕ → Wheel → Wheel → ℕ → Type 0
Given cs t t' k = In k cs ⊎ ((t.next ≤ k) × (k < t'.next))

-- The rule of the timers over several calls: that of one (`Timers`), but that the source may have given up the counter of a timer that joined.
pub record TimersOver (Drew : ℕ → Type 0) (cs : List ℕ) (t : Wheel) (cs' : List ℕ) (t' : Wheel) : Type 0 where
  -- other sources' timers stay, in their order, and none joins them
  pub others : filter (foreign cs t.next) t'.timers ≡ filter (foreign cs t.next) t.timers
  -- a timer that joined is under a key that was drawn; any other stands no more often than before
  pub only : (x : TimeoutData) → (standings x t'.timers ≤ standings x t.timers) ⊎ Drew (key_of x.token)
  -- and its counter was the source's own, or came from the wheel
  pub from : (x : TimeoutData) → (standings x t'.timers ≤ standings x t.timers) ⊎ Given cs t t' x.counter
  pub joins : (k : ℕ) → In k cs' → Given cs t t' k
  pub forward : t.next ≤ t'.next

-- the clock was read so, one reading after the other
abbrev pub Readings : {C : Type 0} → ClockOf C → C → List ℕ → C → Type 0
Readings clock c [] c' = c' ≡ c
Readings {C} clock c (n ∷ ns) c' = (m : C) × clock.reads c n m × Readings clock m ns c'

-- what a wait leaves of the timers: all, or those that are due later than one of the readings
abbrev pub LeftBy : List ℕ → Wheel → Wheel → Type 0
LeftBy ns t t' = (t' ≡ t) ⊎ ((n : ℕ) × In n ns × (t' ≡ rest n t))

-- the clock went from `c` to `c'`, the source's counters from `cs` to `cs'`, and the wheel from `t` to `t'`
pub record Timed {C : Type 0} (clock : ClockOf C) (Drew : ℕ → Type 0) (c : C) (cs : List ℕ) (t : Wheel) (c' : C) (cs' : List ℕ) (t' : Wheel) : Type 0 where
  pub readings : List ℕ
  pub read : Readings clock c readings c'
  pub left : Wheel
  pub taken : LeftBy readings t left
  -- the rule of the timers, from what the wait left of them
  pub timers : TimersOver Drew cs left cs' t'
