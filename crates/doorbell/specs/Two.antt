-- Two tokens, drawn one after the other.
use Rattle.std.specs.Prelude.{ℕ, List, [], ◌∷◌}
use Rattle.token.specs.declared.token.Token.{Token}
use Rattle.token.specs.Drawing.{draw_of}
use Rattle.token.specs.Key.{key_of}
use Rattle.token.specs.Refusal.{Outcome, done, refused}
use Rattle.rules.specs.Meaning.{Drawer}
use Rattle.doorbell.specs.declared.doorbell.Tokens.{Tokens}

abbrev pub with_second : Token → Outcome Token → Outcome Tokens
with_second a (done b) = done (record { first = a; second = b })
with_second a (refused n c) = refused n c

-- the second is drawn only if the first was
abbrev pub then_second : Outcome Token → Drawer → Outcome Tokens × Drawer
then_second (done a) d = (with_second a (draw_of d).0, (draw_of d).1)
then_second (refused n c) d = (refused n c, d)

abbrev pub draw_two : Drawer → Outcome Tokens × Drawer
draw_two d = then_second (draw_of d).0 (draw_of d).1

abbrev pub first_token : Tokens → Token
first_token t = t.first

abbrev pub both_keys : Tokens → List ℕ
both_keys t = key_of t.first ∷ key_of t.second ∷ []
