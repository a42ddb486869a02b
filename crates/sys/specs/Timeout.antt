-- The timeout of a wait.
use Rattle.std.specs.Prelude.{◌≡◌, ℕ, ◌-◌, min, Some, None, Option}
use Rattle.sys.specs.declared.clock.Clock.{Ghosts as ClockOf}

-- the smaller of the timeout given and the earliest deadline less the clock, at least 0; an absent one drops out
abbrev pub timeout_of : Option ℕ → Option ℕ → ℕ → Option ℕ
timeout_of (Some t) (Some d) c = Some (min t (d - c))
timeout_of (Some t) None c = Some t
timeout_of None (Some d) c = Some (d - c)
timeout_of None None c = None

-- The timeout r by a reading of the clock, which is made only where a timer stands.
abbrev pub TimedBy : {C : Type 0} → ClockOf C → Option ℕ → Option ℕ → C → C → Option ℕ → Type 0
TimedBy clock given None s t r = (r ≡ given) × (t ≡ s)
TimedBy clock given (Some d) s t r = (c : ℕ) × clock.reads s c t × (r ≡ timeout_of given (Some d) c)
