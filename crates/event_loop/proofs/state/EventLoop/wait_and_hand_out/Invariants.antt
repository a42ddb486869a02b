use Rattle.std.proofs.Common.{◌≡◌, List, ◌++◌, None, Option}
use Rattle.poller.specs.Meaning.{Answer}
use Rattle.sys.specs.World.{Exchange, Exchanged, World, world_of}
use Rattle.sys.specs.declared.event.PollEvent.{PollEvent}
use Rattle.model.specs.Dispatch.{timeout_by}
use Rattle.model.specs.Retries.{Retries}
use Rattle.event_loop.proofs.state.EventLoop.wait_and_hand_out.Given as goal

-- what is left to be asked, with the retries that are left, is all that is left of the whole
abbrev pub invariant-loop-poll : goal.invariant-loop-poll
invariant-loop-poll g l =
    let given = timeout_by l.synthetic_events.items.items l.fn.timeout in
    (l.timeout ≡ given)
    × (l.timeout ≡ None → l.left ≡ None)
    × (l.sheet ≡ l.initial.sheet)
    × (xs : List Exchange) × Exchanged g.P.Poller g.C.Clock xs l.initial.poll l.poll
    × ((ys : List Exchange) (r : Option Answer) (es : List PollEvent) (w : World)
    → Retries l.retries given l.start l.left (world_of g.P.Poller l.poll) ys r es w → Retries 63 given l.start given (world_of g.P.Poller l.initial.poll) (xs ++ ys) r es w)

abbrev pub decreases-loop-poll : goal.decreases-loop-poll
decreases-loop-poll g l = l.retries
