-- A wait with its retries: an interrupted wait is made again, as long as time is left.
use Rattle.std.specs.Prelude.{◌≡◌, ℕ, ◌-◌, suc, zero, Bool, true, false, if◌then◌else◌, List, [], ◌∷◌, ◌++◌, Some, None, Option, ◌==◌, nat_lt}
use Rattle.token.specs.Refusal.{done, refused}
use Rattle.poller.specs.Meaning.{Answer}
use Rattle.sys.specs.declared.event.PollEvent.{PollEvent}
use Rattle.sys.specs.Wait.{Waits}
use Rattle.sys.specs.World.{Exchange, World, read}

-- The timeout less the time since the dispatch began, which is 0 where the clock ran backwards.
-- None where no time is left.
abbrev pub remaining_of : ℕ → ℕ → ℕ → Option ℕ
remaining_of timeout start clock = if nat_lt (clock - start) timeout then Some (timeout - (clock - start)) else None

abbrev pub interrupted : Answer → Bool
interrupted (done u) = false
interrupted (refused n c) = n == 15

-- what is left to be asked, and what it comes to
abbrev pub Rest : Type 1
Rest = World → List Exchange → Option Answer → List PollEvent → World → Type 0

-- with the time that is left, or to a quiet end, with no events, where none is
abbrev pub Left : Option ℕ → (Option ℕ → Rest) → Rest
Left None on w xs r es w' = (xs ≡ []) × (r ≡ None) × (es ≡ []) × (w' ≡ w)
Left (Some l) on w xs r es w' = on (Some l) w xs r es w'

-- after an interruption the clock is read, if a timeout was given
abbrev pub Again : Option ℕ → ℕ → (Option ℕ → Rest) → Rest
Again None start on w xs r es w' = on None w xs r es w'
Again (Some t) start on w xs r es w' = (now : ℕ) × (ys : List Exchange) × (xs ≡ read now ∷ ys) × Left (remaining_of t start now) on w ys r es w'

abbrev pub After : Bool → Answer → List PollEvent → Rest → Rest
After false a vs on w xs r es w' = (xs ≡ []) × (r ≡ Some a) × (es ≡ vs) × (w' ≡ w)
After true a vs on w xs r es w' = on w xs r es w'

-- THE WAIT with at most n retries: the timeout that was given, the start of the dispatch, and the timeout that is left
abbrev pub Retries : ℕ → Option ℕ → ℕ → Option ℕ → Rest
Retries zero given start left w xs r es w' = (a : Answer) × Waits left w xs a es w' × (r ≡ Some a)
Retries (suc n) given start left w xs r es w' =
    (a : Answer) × (vs : List PollEvent) × (v : World) × (ys : List Exchange) × Waits left w ys a vs v
    × (zs : List Exchange) × (xs ≡ ys ++ zs) × After (interrupted a) a vs (Again given start (Retries n given start)) v zs r es w'
