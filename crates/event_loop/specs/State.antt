-- What a loop begins with, and what a call leaves alone.
use Rattle.std.specs.Prelude.{◌≡◌, ℕ, List, []}
use Rattle.poller.specs.declared.poller.Poller.{Ghosts as PollerOf}
use Rattle.poller.specs.Meaning.{Answer}
use Rattle.sys.specs.declared.clock.Clock.{Ghosts as ClockOf}
use Rattle.sys.specs.declared.event.PollEvent.{PollEvent}
use Rattle.sys.specs.World.{Between, Exchange, World, world_of}
use Rattle.kinds.specs.declared.source.EventSource.{Ghosts as EventSourceOf}
use Rattle.model.specs.Dispatch.{Dispatched}
use Rattle.model.specs.Others.{LeavesOthers}
use Rattle.model.specs.Register.{owners}
use Rattle.model.specs.State.{Loop}
use Rattle.loop_handle.specs.State.{loop_of}
use Rattle.loop_handle.specs.declared.handle.LoopHandle.{LoopHandle}
use Rattle.sys.specs.Polling.{State, state_of}
use Rattle.event_loop.specs.declared.state.EventLoop.{EventLoop}

-- what the user's calls reach
abbrev pub handle_of : {P C S : Type 0} → EventLoop P C S → LoopHandle P C S
handle_of l = l.inner.handle

-- the polling system below
abbrev pub polling_of : {P C S : Type 0} → EventLoop P C S → State P C
polling_of l = state_of (handle_of l).registry.poll

-- the call was on the source of slot i, and left the timers, entries and level lines of all others as they were
abbrev pub LeavesAllBut : {P C S : Type 0} → PollerOf P → EventSourceOf S → ℕ → EventLoop P C S → EventLoop P C S → Type 0
LeavesAllBut poller kind i l l' =
    LeavesOthers i (owners kind (handle_of l).sources) (owners kind (handle_of l').sources) (world_of poller (handle_of l).registry.poll) (world_of poller (handle_of l').registry.poll)

-- the hooks' events, those of the last wait, the sheet and the errands are as they were
pub record Aside {P C S : Type 0} (l l' : EventLoop P C S) : Type 0 where
  pub synthetic : l'.synthetic_events ≡ l.synthetic_events
  pub events : l'.events ≡ l.events
  pub sheet : l'.sheet ≡ l.sheet
  pub errands : l'.inner.errands ≡ l.inner.errands

-- what a dispatch leaves, with its answer
abbrev pub left_by : {P C S : Type 0} → EventLoop P C S → Answer → World → Dispatched S
left_by l r w = record { answer = r; loop = loop_of (handle_of l) w; errands = l.inner.errands; waiting = l.synthetic_events.items.items; events = l.events.items.items; sheet = l.sheet.items.items }

-- from one loop to the next the poller and the clock were asked this, and a dispatch came to this by the meaning alone
abbrev pub Dispatching : {P C S : Type 0} → PollerOf P → ClockOf C → EventLoop P C S → Answer → EventLoop P C S → (Loop S → List PollEvent → List Exchange → Dispatched S → Type 0) → Type 0
Dispatching poller clock l r l' came =
    Between poller clock (handle_of l).registry.poll (handle_of l').registry.poll (λ w xs w'. came (loop_of (handle_of l) w) l.synthetic_events.items.items xs (left_by l' r w'))

-- no event waits, none is shown, and nothing is asked for
pub record Idle {P C S : Type 0} (l : EventLoop P C S) : Type 0 where
  pub synthetic : l.synthetic_events.items.items ≡ []
  pub events : l.events.items.items ≡ []
  pub sheet : l.sheet.items.items ≡ []
  pub errands : l.inner.errands ≡ []
