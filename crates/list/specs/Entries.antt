-- The lifecycle entries: the tokens of sources that want hooks, at most 128.
use Rattle.std.specs.Prelude.{Bool, if◌then◌else◌, not, List, [], ◌∷◌, ◌++◌, length, filter, nat_le}
use Rattle.token.specs.Key.{same_source}
use Rattle.token.specs.Refusal.{Outcome, done, refusal}
use Rattle.token.specs.declared.token.Token.{Token}

-- of another source than the token's
abbrev pub apart : Token → Token → Bool
apart t u = not (same_source u t)

-- the entries that are left when a source's own go
abbrev pub left : Token → List Token → List Token
left t ts = filter (apart t) ts

-- Written out, and not by `push_of` of `bounded`, whose answer hands the item back and would have to be turned into a refusal.
abbrev pub enter_of : Token → List Token → Outcome (Unit {0}) × List Token
enter_of t ts = if nat_le 128 (length ts) then (refusal 18, ts) else (done tt, ts ++ t ∷ [])
