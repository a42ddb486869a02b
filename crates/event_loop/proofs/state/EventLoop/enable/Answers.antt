use Rattle.std.proofs.Common.{None}
use Rattle.token.specs.Refusal.{outcome}
use Rattle.loop_handle.specs.State.{loop_over}
use Rattle.model.proofs.Kept.{enable_keeps}
use Rattle.model.proofs.Leaves.{none_away, enable_leaves}
use Rattle.model.proofs.Refusals.{enable_refused}
use Rattle.event_loop.proofs.Order.{orderly}
use Rattle.event_loop.proofs.state.EventLoop.enable.Goals as goal

pub returns-clause-order : goal.returns-clause-order
returns-clause-order g c h v o =
    let e = c.enable.ensures.is in
    let kept = enable_keeps g.S.EventSource (record { registering = g.met.S.EventSource.registering; reregistering = g.met.S.EventSource.reregistering; unregistering = g.met.S.EventSource.unregistering; leaving = g.met.S.EventSource.leaving; processing = g.met.S.EventSource.processing; sleeping = g.met.S.EventSource.sleeping; seeing = g.met.S.EventSource.seeing }) None h v (loop_over g.P.Poller c.args.self.now.inner.handle) o.0 c.args.token (none_away c.args.token) e.0 (outcome c.enable.result, loop_over g.P.Poller c.enable.new.self) e.2 in
    orderly g.P.Poller g.S.EventSource h _ c.enable.new.self kept

pub returns-clause-leaves : goal.returns-clause-leaves
returns-clause-leaves g c h v o =
    let e = c.enable.ensures.is in
    enable_leaves g.S.EventSource (record { registering = g.met.S.EventSource.registering; reregistering = g.met.S.EventSource.reregistering; unregistering = g.met.S.EventSource.unregistering; leaving = g.met.S.EventSource.leaving; processing = g.met.S.EventSource.processing; sleeping = g.met.S.EventSource.sleeping; seeing = g.met.S.EventSource.seeing }) h v (loop_over g.P.Poller c.args.self.now.inner.handle) o.0 c.args.token e.0 (outcome c.enable.result, loop_over g.P.Poller c.enable.new.self) e.2

pub returns-clause-refusals : goal.returns-clause-refusals
returns-clause-refusals g c =
    let e = c.enable.ensures.is in
    enable_refused g.S.EventSource (record { registering = g.met.S.EventSource.registering; reregistering = g.met.S.EventSource.reregistering; unregistering = g.met.S.EventSource.unregistering; leaving = g.met.S.EventSource.leaving; processing = g.met.S.EventSource.processing; sleeping = g.met.S.EventSource.sleeping; seeing = g.met.S.EventSource.seeing }) (loop_over g.P.Poller c.args.self.now.inner.handle) e.0 c.args.token (outcome c.enable.result, loop_over g.P.Poller c.enable.new.self) e.2
