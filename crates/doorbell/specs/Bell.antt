-- What the count of a Doorbell comes to, and when it has a synthetic event.
use Rattle.std.specs.Prelude.{◌≡◌, ℕ, ◌+◌, ◌-◌, min, if◌then◌else◌, Some, None, Option, ◌≢◌, nat_lt}
use Rattle.token.specs.declared.token.Token.{Token}
use Rattle.poller.specs.declared.entry.Readiness.{Readiness}
use Rattle.poller.specs.declared.entry.TheConstants.Readiness.{READ}
use Rattle.doorbell.specs.declared.doorbell.Tokens.{Tokens}

-- which of its tokens an event is under; three cases, so no Option
pub data Side : Type 0 where
  first : Side
  second : Side
  neither : Side

abbrev pub Under : Option Tokens → Token → Side → Type 0
Under None t neither = Unit {0}
Under None t s = ⊥
Under (Some own) t first = own.first ≡ t
Under (Some own) t second = (own.first ≢ t) × (own.second ≡ t)
Under (Some own) t neither = (own.first ≢ t) × (own.second ≢ t)

-- the first adds one, up to 4,294,967,295; the second takes one off, down to 0
abbrev pub counted : Side → ℕ → ℕ
counted first n = min (n + 1) 4294967295
counted second n = n - 1
counted neither n = n

pub record Counts (own : Option Tokens) (t : Token) (n n' : ℕ) : Type 0 where
  pub side : Side
  pub under : Under own t side
  pub count : n' ≡ counted side n

-- a synthetic event under the second token, while the count is above 0
abbrev pub wanted : Option Tokens → ℕ → Option (Readiness × Token)
wanted None n = None
wanted (Some own) n = if nat_lt 0 n then Some (READ, own.second) else None
