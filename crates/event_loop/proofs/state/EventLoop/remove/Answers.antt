use Rattle.std.proofs.Common.{None}
use Rattle.loop_handle.specs.State.{loop_over}
use Rattle.model.proofs.Counts.{fits_exactly}
use Rattle.model.proofs.Kept.{left_exactly, remove_keeps}
use Rattle.model.proofs.Leaves.{none_away, remove_leaves}
use Rattle.event_loop.proofs.Order.{orderly}
use Rattle.event_loop.proofs.state.EventLoop.remove.Goals as goal

pub returns-clause-order : goal.returns-clause-order
returns-clause-order g c h v o =
    let e = c.remove.ensures.is in
    let kept = remove_keeps g.S.EventSource (record { registering = g.met.S.EventSource.registering; reregistering = g.met.S.EventSource.reregistering; unregistering = g.met.S.EventSource.unregistering; leaving = g.met.S.EventSource.leaving; processing = g.met.S.EventSource.processing; sleeping = g.met.S.EventSource.sleeping; seeing = g.met.S.EventSource.seeing }) None h v (loop_over g.P.Poller c.args.self.now.inner.handle) o.0 c.args.token (none_away c.args.token) e.0 (c.remove.result, loop_over g.P.Poller c.remove.new.self) (c.args.self.now.inner.calm c.args.token.id) e.2 in
    orderly g.P.Poller g.S.EventSource h v c.remove.new.self kept

pub returns-clause-fits : goal.returns-clause-fits
returns-clause-fits g c h n counted v =
    let e = c.remove.ensures.is in
    let left = left_exactly g.S.EventSource (loop_over g.P.Poller c.args.self.now.inner.handle) c.args.token e.0 c.remove.result _ e.2 in
    let fits = fits_exactly h c.args.self.now.inner.handle.sources counted c.args.token n v in
    (λ is. fits.0 (left.0 is), λ latest. left.1 (fits.1 latest))

pub returns-clause-leaves : goal.returns-clause-leaves
returns-clause-leaves g c h v o =
    let e = c.remove.ensures.is in
    remove_leaves g.S.EventSource (record { registering = g.met.S.EventSource.registering; reregistering = g.met.S.EventSource.reregistering; unregistering = g.met.S.EventSource.unregistering; leaving = g.met.S.EventSource.leaving; processing = g.met.S.EventSource.processing; sleeping = g.met.S.EventSource.sleeping; seeing = g.met.S.EventSource.seeing }) h v (loop_over g.P.Poller c.args.self.now.inner.handle) o.0 c.args.token e.0 (c.remove.result, loop_over g.P.Poller c.remove.new.self) e.2
