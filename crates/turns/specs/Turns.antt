-- What turns leave, as the values of `model`.
use Rattle.std.specs.Prelude.{◌≡◌, ◌≢◌, ℕ, List, Some, Ok, Err, Result}
use Rattle.token.specs.declared.error.Error.{Error}
use Rattle.token.specs.Refusal.{code_of, done, number_of, refused}
use Rattle.poller.specs.Meaning.{Answer}
use Rattle.poller.specs.declared.poller.Poller.{Ghosts as PollerOf}
use Rattle.sys.specs.World.{World, world_of}
use Rattle.kinds.specs.declared.source.EventSource.{Ghosts as EventSourceOf}
use Rattle.sheet.specs.declared.Line.{Line}
use Rattle.sheet.specs.declared.Verdict.{Verdict}
use Rattle.sheet.specs.declared.Verdict.TheVariants.{Delivered}
use Rattle.model.specs.Dispatch.{Turn, Turns}
use Rattle.model.specs.Others.{Untouched}
use Rattle.model.specs.Register.{Owner, owners}
use Rattle.loop_handle.specs.State.{loop_of}
use Rattle.loop_handle.specs.declared.handle.LoopHandle.{LoopHandle}
use Rattle.turns.specs.declared.inner.LoopInner.{LoopInner}

module _ {P C S : Type 0} where
  -- a source whose turn failed was called
  abbrev pub turn_as : Result Verdict Error → LoopInner P C S → World → Turn S
  turn_as (Ok v) l w = record { answer = done tt; verdict = v; loop = loop_of l.handle w; errands = l.errands }
  turn_as (Err e) l w = record { answer = refused (number_of e) (code_of e); verdict = Delivered; loop = loop_of l.handle w; errands = l.errands }

  abbrev pub turns_as : Answer → LoopInner P C S → World → List Line → Turns S
  turns_as r l w ls = record { answer = r; loop = loop_of l.handle w; errands = l.errands; sheet = ls }

-- the sources of all slots but i are left as they were: their timers, and the entries and level lines of their files
abbrev pub OthersUntouched : {P C S : Type 0} → PollerOf P → EventSourceOf S → ℕ → LoopHandle P C S → LoopHandle P C S → Type 0
OthersUntouched poller kind i l l' = (j : ℕ) (o : Owner) → (j ≢ i) → owners kind l.sources j ≡ Some o → Untouched o (world_of poller l.registry.poll) (world_of poller l'.registry.poll)
