-- What a call of a source may do to the timers.
use Rattle.std.specs.Prelude.{◌≡◌, ℕ, ◌<◌, ◌≤◌, Bool, not, ◌&&◌, ◌==◌, ◌⊎◌, List, filter, nat_lt, count_by}
use Rattle.token.specs.Key.{key_of, same_source}
use Rattle.poller.specs.Meaning.{among}
use Rattle.timer_wheel.specs.declared.timeout.TimeoutData.{TimeoutData}
use Rattle.timer_wheel.specs.Wheel.{Wheel}
use Rattle.sys.specs.Laws.{In}

-- another source's timer: its counter was given out before the call, and is none of the source's own
abbrev pub foreign : List ℕ → ℕ → TimeoutData → Bool
foreign cs n x = not (among x.counter cs) && nat_lt x.counter n

-- deadline, token and counter are the same
abbrev pub same_timer : TimeoutData → TimeoutData → Bool
same_timer x y = x.deadline == y.deadline && (x.counter == y.counter && (same_source x.token y.token && x.token.sub_id == y.token.sub_id))

-- how often the timer stands: equal ones may stand beside each other
abbrev pub standings : TimeoutData → List TimeoutData → ℕ
standings x xs = count_by (same_timer x) xs

-- the source's counters went from `cs` to `cs'`, and the wheel from `t` to `t'`
pub record Timers (Drew : ℕ → Type 0) (cs : List ℕ) (t : Wheel) (cs' : List ℕ) (t' : Wheel) : Type 0 where
  -- other sources' timers stay, in their order, and none joins them
  pub others : filter (foreign cs t.next) t'.timers ≡ filter (foreign cs t.next) t.timers
  -- a timer that joins is under a key that was drawn; any other stands no more often than before
  pub only : (x : TimeoutData) → (standings x t'.timers ≤ standings x t.timers) ⊎ Drew (key_of x.token)
  -- and its counter is one of the source's own then
  pub own : (x : TimeoutData) → (standings x t'.timers ≤ standings x t.timers) ⊎ In x.counter cs'
  -- a counter that joins came from the wheel in this call
  pub joins : (k : ℕ) → In k cs' → In k cs ⊎ ((t.next ≤ k) × (k < t'.next))
  pub forward : t.next ≤ t'.next
