use Rattle.std.proofs.Common.{None}
use Rattle.loop_handle.specs.State.{inserted_of, loop_over}
use Rattle.model.proofs.Kept.{insert_keeps}
use Rattle.model.proofs.Leaves.{insert_leaves, none_away}
use Rattle.model.proofs.Refusals.{insert_refused}
use Rattle.event_loop.proofs.Order.{orderly, version_ok}
use Rattle.event_loop.proofs.state.EventLoop.insert.Goals as goal

pub returns-clause-order : goal.returns-clause-order
returns-clause-order g c h v o free =
    let e = c.insert.ensures.is in
    let kept = insert_keeps g.S.EventSource (record { registering = g.met.S.EventSource.registering; reregistering = g.met.S.EventSource.reregistering; unregistering = g.met.S.EventSource.unregistering; leaving = g.met.S.EventSource.leaving; processing = g.met.S.EventSource.processing; sleeping = g.met.S.EventSource.sleeping; seeing = g.met.S.EventSource.seeing }) None h v (loop_over g.P.Poller c.args.self.now.inner.handle) o.0 c.args.source free e.0 (inserted_of c.insert.result, loop_over g.P.Poller c.insert.new.self) (λ t g. none_away t) e.2 in
    orderly g.P.Poller g.S.EventSource _ _ c.insert.new.self kept

pub returns-clause-version : goal.returns-clause-version
returns-clause-version g c h counted =
    let e = c.insert.ensures.is in
    version_ok g.S.EventSource h (loop_over g.P.Poller c.args.self.now.inner.handle) _ counted c.args.source e.0 c.insert.result e.2

pub returns-clause-leaves : goal.returns-clause-leaves
returns-clause-leaves g c h v o free =
    let e = c.insert.ensures.is in
    insert_leaves g.S.EventSource (record { registering = g.met.S.EventSource.registering; reregistering = g.met.S.EventSource.reregistering; unregistering = g.met.S.EventSource.unregistering; leaving = g.met.S.EventSource.leaving; processing = g.met.S.EventSource.processing; sleeping = g.met.S.EventSource.sleeping; seeing = g.met.S.EventSource.seeing }) h v (loop_over g.P.Poller c.args.self.now.inner.handle) o.0 c.args.source free e.0 (inserted_of c.insert.result, loop_over g.P.Poller c.insert.new.self) e.2

pub returns-clause-refusals : goal.returns-clause-refusals
returns-clause-refusals g c =
    let e = c.insert.ensures.is in
    insert_refused g.S.EventSource (record { registering = g.met.S.EventSource.registering; reregistering = g.met.S.EventSource.reregistering; unregistering = g.met.S.EventSource.unregistering; leaving = g.met.S.EventSource.leaving; processing = g.met.S.EventSource.processing; sleeping = g.met.S.EventSource.sleeping; seeing = g.met.S.EventSource.seeing }) (loop_over g.P.Poller c.args.self.now.inner.handle) e.0 c.args.source (inserted_of c.insert.result, loop_over g.P.Poller c.insert.new.self) e.2
