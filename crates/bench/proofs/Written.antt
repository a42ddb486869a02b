-- One text after another.
use Rattle.std.proofs.Common.{◌≡◌, ◌<◌, ◌+◌, ℕ, List, [], ◌++◌, length, take, drop, flat_map, slice_index_or, String, Result, Ok, Err, IsErr, refl, string_bytes, string_capacity, string_len, append_assoc, length-append, arith}
use Rattle.std.proofs.lemmas.Grind.{common_steps, flat_map-append}
use Rattle.std.proofs.lemmas.List.{take-append-drop, drop_more}
use Rattle.std.specs.declared.alloc.AllocError.{AllocError}
use Rattle.std.specs.Global.{Global}
use Rattle.bench.specs.Written.{Appended, Cut, Written}

-- nothing was written
pub none_written : (s : String Global) → Appended [] s s
none_written s = grind (arith, common_steps)

-- a text for which there was no room
pub unwritten : (t : List ℕ) (s s' : String Global) → string_bytes s' ≡ string_bytes s → string_capacity s < string_len s + length t → Cut t s s'
unwritten t s s' same full = record { part = []; missing = t; whole = refl; bytes = grind (arith, common_steps, same); full = full }

pub appended_then : (t u w : List ℕ) (s s' s'' : String Global) → t ++ u ≡ w → Appended t s s' → Appended u s' s'' → Appended w s s''
appended_then t u w s s' s'' e a b = grind (arith, common_steps, a, b, append_assoc, length-append t u)

-- what comes after a cut is missing
pub cut_within : (t u v w : List ℕ) (s s' s'' : String Global) → t ++ (u ++ v) ≡ w → Appended t s s' → Cut u s' s'' → Cut w s s''
cut_within t u v w s s' s'' e a c = record {
  part = t ++ c.part;
  missing = c.missing ++ v;
  whole = grind (arith, common_steps, e, c.whole, append_assoc);
  bytes = grind (arith, common_steps, a.bytes, c.bytes, append_assoc);
  full = grind (arith, common_steps, a, c.full, e, length-append);
}

pub written_then : (t u w : List ℕ) (s s' : String Global) (r : Result (Unit {0}) AllocError) (s'' : String Global) → t ++ u ≡ w → Appended t s s' → Written u s' r s'' → Written w s r s''
written_then t u w s s' (Ok x) s'' e a b = appended_then t u w s s' s'' e a b
written_then t u w s s' (Err x) s'' e a b = cut_within t u [] w s s' s'' (grind (arith, common_steps, e)) a b

-- a call that answers an error has cut its text
pub cut_off : (w : List ℕ) (s : String Global) (r : Result (Unit {0}) AllocError) (s' : String Global) → IsErr r → Cut w s s' → Written w s r s'
cut_off w s (Err x) s' e c = c
cut_off w s (Ok x) s' e c = cc

-- the first of two texts was cut
pub cut_first : (t u w : List ℕ) (s : String Global) (r : Result (Unit {0}) AllocError) (s' : String Global) → t ++ u ≡ w → IsErr r → Cut t s s' → Written w s r s'
cut_first t u w s r s' e err c = cut_off w s r s' err (cut_within [] t u w s s s' e (none_written s) c)

module _ {X : Type 0} (f : X → List ℕ) where
  at_piece : (i : ℕ) (xs : List X) (d : X) → i < length xs → flat_map f (take i xs) ++ (f (slice_index_or xs i d) ++ flat_map f (drop (i + 1) xs)) ≡ flat_map f xs
  at_piece i xs d l = grind (arith, common_steps, flat_map-append f (take i xs) (drop i xs), take-append-drop i xs, drop_more xs i d)

  -- as far as the piece i, and that piece cut
  pub cut_at : (i : ℕ) (xs : List X) (d : X) → i < length xs → (s s' s'' : String Global) → Appended (flat_map f (take i xs)) s s' → Cut (f (slice_index_or xs i d)) s' s'' → Cut (flat_map f xs) s s''
  cut_at i xs d l s s' s'' a c = cut_within _ _ _ _ s s' s'' (at_piece i xs d l) a c
