-- A number as text, and the text that begins with one.
use Rattle.std.specs.Prelude.{◌≡◌, ℕ, ◌+◌, ◌-◌, ◌*◌, ◌^◌, ◌<◌, ◌≤◌, List, [], ◌∷◌, ◌++◌, length, decimal, fold, slice_index}

abbrev pub Digit : ℕ → Type 0
Digit c = (48 ≤ c) × (c ≤ 57)

-- each byte is a digit
abbrev pub Digits : List ℕ → Type 0
Digits ds = (k : ℕ) → k < length ds → Digit (slice_index ds k)

-- the text does not go on with a digit
abbrev pub Stops : List ℕ → Type 0
Stops [] = Unit {0}
Stops (c ∷ cs) = Digit c → ⊥

-- the number that digits write
abbrev pub value : List ℕ → ℕ
value = fold (λ n c. n * 10 + (c - 48)) 0

-- the text is digits, and then the rest, which does not go on with one
pub record Split (text ds rest : List ℕ) : Type 0 where
  pub whole : text ≡ ds ++ rest
  pub digits : Digits ds
  pub stops : Stops rest

-- the text is n and then the rest, which does not go on with a digit; and n has at most k bits.
-- `decimal n` is what `{n}` writes of n: its digits, with no zero in front but for the number 0
pub record Number (k : ℕ) (text : List ℕ) (n : ℕ) (rest : List ℕ) : Type 0 where
  pub reads : text ≡ decimal n ++ rest
  pub fits : n < 2 ^ k
  pub stops : Stops rest

-- the text begins with no number of at most k bits
abbrev pub NoNumber : ℕ → List ℕ → Type 0
NoNumber k text = (n : ℕ) (rest : List ℕ) → Number k text n rest → ⊥
