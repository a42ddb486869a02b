-- A turn leaves the sources of all other slots as they were.
use Rattle.std.proofs.Common.{List, ℕ, ◌≡◌, Ok, Err, Result, refl, subst}
use Rattle.poller.specs.declared.poller.Poller.{Ghosts as PollerOf}
use Rattle.kinds.specs.declared.source.EventSource.{Ghosts as EventSourceOf}
use Rattle.list.specs.Slots.{Calm}
use Rattle.sys.specs.declared.event.PollEvent.{PollEvent}
use Rattle.sys.specs.World.{Exchange, World, world_of}
use Rattle.token.specs.declared.token.Token.{Token}
use Rattle.loop_handle.specs.State.{Orderly, loop_over}
use Rattle.loop_handle.specs.declared.handle.LoopHandle.{LoopHandle}
use Rattle.model.specs.Course.{Takes}
use Rattle.model.specs.Dispatch.{turn_of}
use Rattle.model.specs.Others.{Untouched}
use Rattle.model.proofs.Aside.{turn_aside}
use Rattle.model.proofs.Kept.{Lawful}
use Rattle.model.proofs.Rest.{at_rest}
use Rattle.sheet.specs.declared.Verdict.{Verdict}
use Rattle.token.specs.declared.error.Error.{Error}
use Rattle.turns.specs.Turns.{OthersUntouched, turn_as}
use Rattle.turns.specs.declared.inner.LoopInner.{LoopInner}

turn_world : {P C S : Type 0} (r : Result Verdict Error) (l : LoopInner P C S) (w : World) → (turn_as r l w).loop.world ≡ w
turn_world (Ok v) l w = refl
turn_world (Err e) l w = refl

pub others_untouched : {P C S : Type 0} (poller : PollerOf P) (kind : EventSourceOf S) → Lawful kind → (l : LoopHandle P C S) (l' : LoopInner P C S) (e : PollEvent) (r : Result Verdict Error) → Calm l.sources
    → (xs : List Exchange) → Takes kind (turn_of kind (loop_over poller l) e) xs (turn_as r l' (world_of poller l'.handle.registry.poll))
    → (h : List ℕ) (v : List Token) → Orderly poller kind h v l → OthersUntouched poller kind e.token.id l l'.handle
others_untouched poller kind laws l l' e r calm xs taken h v order j p ne stands =
    let now = world_of poller l'.handle.registry.poll in
    let aside = turn_aside kind laws h v (loop_over poller l) (at_rest kind h v (loop_over poller l) order.0 calm) e j p ne stands xs (turn_as r l' now) taken in
    subst (λ (w : World). Untouched p (world_of poller l.registry.poll) w) (turn_world r l' now) aside
