-- How often each slot was given out, and what a token's version says of that.
use Rattle.std.specs.Prelude.{◌≡◌, ℕ, ◌+◌, ◌%◌, ◌^◌, true, List, nat_eq}
use Rattle.std.specs.List.{count_by}
use Rattle.list.specs.Slots.{occupied, slot_at}
use Rattle.list.specs.declared.slots.Slot.{Slot}

-- how often slot i was given out; `h` has the number of the slot of each giving out
abbrev pub times : ℕ → List ℕ → ℕ
times i h = count_by (nat_eq i) h

-- the version of a slot's n-th giving out: n - 1 mod 65,536; a slot that was never given out looks like version 65,535
abbrev pub version_of : ℕ → ℕ
version_of n = (n + 65535) % 2 ^ 16

-- THE VERSIONS COUNT the givings out.
pub record Counted {S : Type 0} (h : List ℕ) (xs : List (Slot S)) : Type 0 where
  pub versions : (i : ℕ) → (slot_at xs i).version ≡ version_of (times i h)

-- slot i is occupied, and its n-th giving out is the latest, but for a multiple of 65,536
pub record Latest {S : Type 0} (h : List ℕ) (xs : List (Slot S)) (i n : ℕ) : Type 0 where
  pub there : occupied (slot_at xs i).place ≡ true
  pub same : n % 2 ^ 16 ≡ times i h % 2 ^ 16
