-- What the handlers of a script do, and what a number in it names.
use Rattle.std.specs.Prelude.{ℕ, List, Some, None, Option, if◌then◌else◌, nat_eq}
use Rattle.std.specs.List.{slice_get}
use Rattle.token.specs.declared.token.Token.{Token}
use Rattle.token.specs.Refusal.{Outcome, done, refusal}
use Rattle.alarm.specs.declared.alarm.TimeoutAction.{TimeoutAction}
use Rattle.alarm.specs.declared.alarm.TimeoutAction.TheVariants.{Drop, ToDuration}

-- a timer rings again after its period, or never where that is 0
abbrev pub repeated : ℕ → TimeoutAction
repeated p = if nat_eq p 0 then Drop else ToDuration p

abbrev pub named : Option Token → Outcome Token
named (Some t) = done t
named None = refusal 7

-- the token of the n-th accepted insert, from 0; a line that names another is of no form
abbrev pub nth_token : List Token → ℕ → Outcome Token
nth_token ts n = named (slice_get ts n)
