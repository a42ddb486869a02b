-- Tokens and their keys.
use Rattle.std.specs.Prelude.{◌≡◌, ℕ, ◌+◌, ◌*◌, ◌/◌, ◌%◌, ◌^◌, Bool, ◌&&◌, ◌==◌}
use Rattle.token.specs.declared.token.Token.{Token}

abbrev pub key_of : Token → ℕ
key_of t = t.id * 2 ^ 32 + t.version * 2 ^ 16 + t.sub_id

abbrev pub token_of : ℕ → Token
token_of k = record { id = k / 2 ^ 32; version = k / 2 ^ 16 % 2 ^ 16; sub_id = k % 2 ^ 16 }

-- the key is the token's, and the token is the key's
pub record Keyed (t : Token) (k : ℕ) : Type 0 where
  pub key : k ≡ key_of t
  pub token : t ≡ token_of k

-- of one slot at one version
abbrev pub same_source : Token → Token → Bool
same_source s t = s.id == t.id && s.version == t.version

-- version 65,535 is followed by 0
abbrev pub next_version : Token → Token
next_version t = record t { version = (t.version + 1) % 2 ^ 16; sub_id = 0 }

-- the token of the whole source, whose sub-id is 0
abbrev pub own_source : Token → Token
own_source t = record t { sub_id = 0 }
