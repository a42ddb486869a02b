-- What a string has when a text was written behind it, or a part of the text for want of room.
use Rattle.std.specs.Prelude.{◌≡◌, ◌<◌, ◌≤◌, ◌+◌, ℕ, List, ◌++◌, length, String, Result, Ok, Err, string_bytes, string_capacity, string_len}
use Rattle.std.specs.declared.alloc.AllocError.{AllocError}
use Rattle.std.specs.Global.{Global}

-- the text stands behind what stood; room never shrinks
pub record Appended (text : List ℕ) (s s' : String Global) : Type 0 where
  pub bytes : string_bytes s' ≡ string_bytes s ++ text
  pub len : string_len s' ≡ string_len s + length text
  pub room : string_capacity s ≤ string_capacity s'

-- a beginning of the text stands there: for the whole of it room was missing
pub record Cut (text : List ℕ) (s s' : String Global) : Type 0 where
  pub part : List ℕ
  pub missing : List ℕ
  pub whole : part ++ missing ≡ text
  pub bytes : string_bytes s' ≡ string_bytes s ++ part
  pub full : string_capacity s < string_len s + length text

-- THE TEXT WAS WRITTEN, or cut where the call answers an error
abbrev pub Written : List ℕ → String Global → Result (Unit {0}) AllocError → String Global → Type 0
Written text s (Ok u) s' = Appended text s s'
Written text s (Err e) s' = Cut text s s'
