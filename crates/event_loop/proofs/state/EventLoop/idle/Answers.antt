use Rattle.std.proofs.Common.{None}
use Rattle.token.specs.Refusal.{outcome}
use Rattle.loop_handle.specs.State.{loop_over}
use Rattle.model.proofs.Kept.{idle_keeps}
use Rattle.event_loop.proofs.Order.{orderly}
use Rattle.event_loop.proofs.state.EventLoop.idle.Goals as goal

pub returns-clause-order : goal.returns-clause-order
returns-clause-order g c h v o =
    let e = c.idle.ensures.is in
    let kept = idle_keeps g.S.EventSource (record { registering = g.met.S.EventSource.registering; reregistering = g.met.S.EventSource.reregistering; unregistering = g.met.S.EventSource.unregistering; leaving = g.met.S.EventSource.leaving; processing = g.met.S.EventSource.processing; sleeping = g.met.S.EventSource.sleeping; seeing = g.met.S.EventSource.seeing }) None h v (loop_over g.P.Poller c.args.self.now.inner.handle) o.0 c.args.value e.0 (outcome c.idle.result, loop_over g.P.Poller c.idle.new.self) e.2 in
    orderly g.P.Poller g.S.EventSource h v c.idle.new.self kept
