-- The number of each refusal, the code that it carries, and the answer of a call by them.
use Rattle.std.specs.Prelude.{ℕ, Some, None, Ok, Err, Option, Result}
use Rattle.token.specs.declared.error.Error.{Error}
use Rattle.token.specs.declared.error.Error.TheVariants.{InvalidToken, Busy, AlreadyEnabled, NoSlot, IdleFull, NoSpare, BadForm, SubIdsSpent, ErrandsFull, SourceFailed, Exists, NotFound, PollerFull, PollerFailed, Interrupted, TimersFull, TimersSpent, LifecycleFull, SyntheticFull, LevelFull, NoEdge}

abbrev pub number_of : Error → ℕ
number_of InvalidToken = 1
number_of Busy = 2
number_of AlreadyEnabled = 3
number_of NoSlot = 4
number_of IdleFull = 5
number_of NoSpare = 6
number_of BadForm = 7
number_of SubIdsSpent = 8
number_of ErrandsFull = 9
number_of (SourceFailed code) = 10
number_of Exists = 11
number_of NotFound = 12
number_of PollerFull = 13
number_of (PollerFailed code) = 14
number_of Interrupted = 15
number_of TimersFull = 16
number_of TimersSpent = 17
number_of LifecycleFull = 18
number_of SyntheticFull = 19
number_of LevelFull = 20
number_of NoEdge = 21

abbrev pub code_of : Error → Option ℕ
code_of (SourceFailed code) = Some code
code_of (PollerFailed code) = Some code
code_of e = None

-- What a call answered: its value, or a refusal by its number and its code. Every promise of a refusal is put by it.
-- No `Result T Error`: the number and the code that `number_of` and `code_of` give are the promise.
pub data Outcome (T : Type 0) : Type 0 where
  done : T → Outcome T
  refused : ℕ → Option ℕ → Outcome T

abbrev pub outcome : {T : Type 0} → Result T Error → Outcome T
outcome (Ok x) = done x
outcome (Err e) = refused (number_of e) (code_of e)

-- a refusal that carries no code
abbrev pub refusal : {T : Type 0} → ℕ → Outcome T
refusal n = refused n None

-- it was not refused
abbrev pub Done : {T : Type 0} → Outcome T → Type 0
Done (done x) = Unit {0}
Done (refused n c) = ⊥
