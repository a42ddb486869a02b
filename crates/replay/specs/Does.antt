-- What a line of a sample does.
use Rattle.std.specs.Prelude.{◌≡◌, ℕ, ◌⊎◌, List, Option, Result, String, IsErr, codes}
use Rattle.std.specs.Global.{Global}
use Rattle.std.specs.declared.alloc.AllocError.{AllocError}
use Rattle.poller.specs.Bench.{bench_of}
use Rattle.poller.specs.declared.bench.BenchPoller.{BenchPoller}
use Rattle.poller.specs.declared.bench.Step.{Step}
use Rattle.poller.specs.declared.poller.Poller.{Ghosts as PollerOf}
use Rattle.sys.specs.declared.clock.Clock.{Ghosts as ClockOf}
use Rattle.sys.specs.declared.setting.SetClock.{SetClock}
use Rattle.kinds.specs.declared.source.EventSource.{Ghosts as EventSourceOf}
use Rattle.loop_handle.specs.State.{loop_over}
use Rattle.event_loop.specs.State.{Aside, handle_of, polling_of}
use Rattle.script.specs.Line.{Reading, StartsWith}
use Rattle.script.specs.declared.Form.{Form}
use Rattle.bench.specs.Calls.{Performs, Source, accepted}
use Rattle.bench.specs.Written.{Written}
use Rattle.bench.specs.declared.bench.Bench.{Bench}
use Rattle.replay.specs.Plan.{NoPlan, ThePlan}

module _ (poller : PollerOf BenchPoller) (clock : ClockOf SetClock) (kind : EventSourceOf Source) where
  -- the poller's next calls come to these steps, and all else is as it was
  pub record Planned (steps : List Step) (b b' : Bench) : Type 0 where
    pub plan : bench_of (polling_of b'.event_loop).poller ≡ record (bench_of (polling_of b.event_loop).poller) { steps = steps }
    pub time : (polling_of b'.event_loop).clock ≡ (polling_of b.event_loop).clock
    pub same : loop_over poller (handle_of b'.event_loop) ≡ loop_over poller (handle_of b.event_loop)
    pub aside : Aside b.event_loop b'.event_loop
    pub inserts : accepted b' ≡ accepted b

  -- For want of memory the line was not read, and nothing is done or written. Only a plan and a wait need memory.
  pub record Unread (line : List ℕ) (b : Bench) (s : String Global) (r : Result (Unit {0}) AllocError) (b' : Bench) (s' : String Global) : Type 0 where
    pub needs : StartsWith (codes "(P (") line ⊎ StartsWith (codes "(W ") line
    pub fails : IsErr r
    pub bench : b' ≡ b
    pub text : s' ≡ s

  -- WHAT A LINE COMES TO: one that plans does so; any other does what doorbench does for it
  abbrev pub Does : List ℕ → Bench → String Global → Result (Unit {0}) AllocError → Bench → String Global → Type 0
  Does line b s r b' s' =
      ((steps : List Step) × ThePlan steps line × Planned steps b b' × Written (codes "(ok)") s r s')
      ⊎ ((NoPlan line × (form : Option Form) × Reading line form × Performs poller clock kind form b s r b' s')
      ⊎ Unread line b s r b' s')
