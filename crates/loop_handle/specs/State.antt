-- The loop's code as the plain values of `model`.
use Rattle.std.specs.Prelude.{ℕ, List, Result, Ok, Err, None}
use Rattle.token.specs.Refusal.{number_of, code_of, refused}
use Rattle.token.specs.declared.token.Token.{Token}
use Rattle.list.specs.declared.slots.Slot.{Slot}
use Rattle.poller.specs.declared.poller.Poller.{Ghosts as PollerOf}
use Rattle.sys.specs.declared.clock.Clock.{Ghosts as ClockOf}
use Rattle.sys.specs.World.{Between, World, world_of}
use Rattle.kinds.specs.declared.source.EventSource.{Ghosts as EventSourceOf}
use Rattle.model.specs.Calls.{Inserted, into, back}
use Rattle.model.specs.Course.{Course, Takes}
use Rattle.model.specs.Order.{InOrder}
use Rattle.model.specs.Register.{Shared, owners}
use Rattle.model.specs.State.{Loop}
use Rattle.loop_handle.specs.declared.handle.InsertError.{InsertError}
use Rattle.loop_handle.specs.declared.handle.LoopHandle.{LoopHandle}

-- a function and no model: the poller and the clock are left out, and their world is beside it
abbrev pub loop_of : {P C S : Type 0} → LoopHandle P C S → World → Loop S
loop_of l w = record { slots = l.sources; lifecycle = l.registry.lifecycle; world = w; idles = l.idles; pending = l.pending_action }

-- the loop over the world of its own poll
abbrev pub loop_over : {P C S : Type 0} → PollerOf P → LoopHandle P C S → Loop S
loop_over poller l = loop_of l (world_of poller l.registry.poll)

-- the same with other slots, by name, as clauses say it
abbrev pub with_sources : {P C S : Type 0} → LoopHandle P C S → List (Slot S) → LoopHandle P C S
with_sources l xs = record l { sources = xs }

abbrev pub inserted_of : {S : Type 0} → Result Token (InsertError S) → Inserted S
inserted_of (Ok t) = into t
inserted_of (Err e) = back (refused (number_of e.error) (code_of e.error)) e.inserted

-- The call took its course over the loop, answered this and left this loop. What it asked of a source, of the poller and of
-- the clock was asked, and each answer is their own.
abbrev pub Performed : {P C S A : Type 0} → PollerOf P → ClockOf C → EventSourceOf S → (Loop S → Course S (A × Loop S)) → LoopHandle P C S → A → LoopHandle P C S → Type 0
Performed poller clock kind call l r l' = Between poller clock l.registry.poll l'.registry.poll (λ w xs w'. Takes kind (call (loop_of l w)) xs (r, loop_of l' w'))

-- The loop is in order, `h` being the slots that it gave out so far and `v` the tokens of the enables that were refused: its
-- versions count them, its lifecycle entries fit, each enabled source that wants hooks has one, and one that is not enabled only
-- by a refused enable; each timer's counter was given out, and none is two sources' own; and the poller and the sources share one
-- register, which says that each file that a source holds stands in the poller under a key of its token, and that any other entry
-- is stuck.
abbrev pub Orderly : {P C S : Type 0} → PollerOf P → EventSourceOf S → List ℕ → List Token → LoopHandle P C S → Type 0
Orderly poller kind h v l = InOrder kind None h v (loop_over poller l) × Shared (owners kind l.sources) (world_of poller l.registry.poll)
