-- The list of entries: the earliest first, equal deadlines in order of entry.
use Rattle.std.specs.Prelude.{ℕ, Bool, if◌then◌else◌, not, List, [], ◌∷◌, filter, Some, None, Option, ◌==◌, nat_le, nat_lt}
use Rattle.std.specs.List.Sorted.{IsNonDecreasingBy}
use Rattle.timer_wheel.specs.declared.timeout.TimeoutData.{TimeoutData}

-- no entry is due before the one in front of it
abbrev pub Rising : List TimeoutData → Type 0
Rising = IsNonDecreasingBy (λ x. x.deadline)

-- a newcomer joins before the first entry with a larger deadline
abbrev pub enter : TimeoutData → List TimeoutData → List TimeoutData
enter x [] = x ∷ []
enter x (y ∷ ys) = if nat_lt x.deadline y.deadline then x ∷ y ∷ ys else y ∷ enter x ys

-- an entry that a cancel of the counter leaves
abbrev pub stays : ℕ → TimeoutData → Bool
stays k x = not (x.counter == k)

-- all entries with the counter go
abbrev pub without : ℕ → List TimeoutData → List TimeoutData
without k = filter (stays k)

-- THE RULE OF CANCEL: the earliest entry alone where it has the counter, and else all with the counter
abbrev pub cancelled : ℕ → List TimeoutData → List TimeoutData
cancelled k [] = []
cancelled k (x ∷ xs) = if x.counter == k then xs else without k (x ∷ xs)

-- the earliest entry where it is due, and what stands then
abbrev pub expired : ℕ → List TimeoutData → Option TimeoutData × List TimeoutData
expired n [] = (None, [])
expired n (x ∷ xs) = if nat_le x.deadline n then (Some x, xs) else (None, x ∷ xs)
