use Rattle.std.proofs.Common.{None}
use Rattle.token.specs.Refusal.{outcome}
use Rattle.loop_handle.specs.State.{loop_over}
use Rattle.model.proofs.Kept.{update_keeps}
use Rattle.model.proofs.Leaves.{none_away, update_leaves}
use Rattle.model.proofs.Refusals.{update_refused}
use Rattle.event_loop.proofs.Order.{orderly}
use Rattle.event_loop.proofs.state.EventLoop.update.Goals as goal

pub returns-clause-order : goal.returns-clause-order
returns-clause-order g c h v o =
    let e = c.update.ensures.is in
    let kept = update_keeps g.S.EventSource (record { registering = g.met.S.EventSource.registering; reregistering = g.met.S.EventSource.reregistering; unregistering = g.met.S.EventSource.unregistering; leaving = g.met.S.EventSource.leaving; processing = g.met.S.EventSource.processing; sleeping = g.met.S.EventSource.sleeping; seeing = g.met.S.EventSource.seeing }) None h v (loop_over g.P.Poller c.args.self.now.inner.handle) o.0 c.args.token (none_away c.args.token) e.0 (outcome c.update.result, loop_over g.P.Poller c.update.new.self) e.2 in
    orderly g.P.Poller g.S.EventSource h v c.update.new.self kept

pub returns-clause-leaves : goal.returns-clause-leaves
returns-clause-leaves g c h v o =
    let e = c.update.ensures.is in
    update_leaves g.S.EventSource (record { registering = g.met.S.EventSource.registering; reregistering = g.met.S.EventSource.reregistering; unregistering = g.met.S.EventSource.unregistering; leaving = g.met.S.EventSource.leaving; processing = g.met.S.EventSource.processing; sleeping = g.met.S.EventSource.sleeping; seeing = g.met.S.EventSource.seeing }) h v (loop_over g.P.Poller c.args.self.now.inner.handle) o.0 c.args.token e.0 (outcome c.update.result, loop_over g.P.Poller c.update.new.self) e.2

pub returns-clause-refusals : goal.returns-clause-refusals
returns-clause-refusals g c =
    let e = c.update.ensures.is in
    update_refused g.S.EventSource (record { registering = g.met.S.EventSource.registering; reregistering = g.met.S.EventSource.reregistering; unregistering = g.met.S.EventSource.unregistering; leaving = g.met.S.EventSource.leaving; processing = g.met.S.EventSource.processing; sleeping = g.met.S.EventSource.sleeping; seeing = g.met.S.EventSource.seeing }) (loop_over g.P.Poller c.args.self.now.inner.handle) e.0 c.args.token (outcome c.update.result, loop_over g.P.Poller c.update.new.self) e.2
