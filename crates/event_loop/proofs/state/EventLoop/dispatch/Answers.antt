use Rattle.token.specs.Refusal.{outcome}
use Rattle.sys.specs.Polling.{state_of}
use Rattle.sys.specs.World.{world_of}
use Rattle.loop_handle.specs.State.{loop_over}
use Rattle.model.proofs.Dispatch.{dispatch_keeps}
use Rattle.model.proofs.Sheet.{dispatch_lists, dispatch_loses}
use Rattle.event_loop.specs.State.{left_by}
use Rattle.event_loop.proofs.Order.{orderly}
use Rattle.event_loop.proofs.state.EventLoop.dispatch.Goals as goal

pub returns-clause-order : goal.returns-clause-order
returns-clause-order g c h v o =
    let before = c.args.self.now.inner in
    let after = c.dispatch_events.new.self in
    let e = c.dispatch_events.ensures in
    let distinct = (g.met.P.Poller.sound (state_of before.handle.registry.poll).poller).apart in
    let left = left_by after (outcome c.dispatch_events.result) (world_of g.P.Poller after.inner.handle.registry.poll) in
    let kept = dispatch_keeps g.S.EventSource (record { registering = g.met.S.EventSource.registering; reregistering = g.met.S.EventSource.reregistering; unregistering = g.met.S.EventSource.unregistering; leaving = g.met.S.EventSource.leaving; processing = g.met.S.EventSource.processing; sleeping = g.met.S.EventSource.sleeping; seeing = g.met.S.EventSource.seeing }) h v c.args.timeout (loop_over g.P.Poller before.handle) c.args.self.now.synthetic_events.items.items distinct o.0 before.calm e.0 left e.2 in
    orderly g.P.Poller g.S.EventSource h v after.inner.handle kept.0

pub returns-clause-lost : goal.returns-clause-lost
returns-clause-lost g c done =
    let before = c.args.self.now.inner.handle in
    let after = c.dispatch_events.new.self in
    let e = c.dispatch_events.ensures in
    dispatch_loses g.S.EventSource c.args.timeout (loop_over g.P.Poller before) c.args.self.now.synthetic_events.items.items e.0 (left_by after (outcome c.dispatch_events.result) (world_of g.P.Poller after.inner.handle.registry.poll)) e.2 done

pub returns-clause-is : goal.returns-clause-is
returns-clause-is g c =
    let before = c.args.self.now.inner.handle in
    let after = c.dispatch_events.new.self in
    let e = c.dispatch_events.ensures in
    let left = left_by after (outcome c.dispatch_events.result) (world_of g.P.Poller after.inner.handle.registry.poll) in
    (e.0, e.1, (e.2, dispatch_lists g.S.EventSource (record { registering = g.met.S.EventSource.registering; reregistering = g.met.S.EventSource.reregistering; unregistering = g.met.S.EventSource.unregistering; leaving = g.met.S.EventSource.leaving; processing = g.met.S.EventSource.processing; sleeping = g.met.S.EventSource.sleeping; seeing = g.met.S.EventSource.seeing }) c.args.timeout (loop_over g.P.Poller before) c.args.self.now.synthetic_events.items.items before.registry.poll.timers.rising e.0 left e.2))
