-- What a factory draws: its token and those after it up to sub-id 65,534, and then nothing.
use Rattle.std.specs.Prelude.{◌+◌, if◌then◌else◌, nat_lt}
use Rattle.token.specs.declared.token.Token.{Token}
use Rattle.token.specs.Refusal.{Outcome, done, refusal}

-- the token that is drawn after this one
abbrev pub next_sub_id : Token → Token
next_sub_id t = record t { sub_id = t.sub_id + 1 }

-- the answer of a draw, and the token that the factory draws after it
abbrev pub draw_of : Token → Outcome Token × Token
draw_of t = if nat_lt t.sub_id 65535 then (done t, next_sub_id t) else (refusal 8, t)
