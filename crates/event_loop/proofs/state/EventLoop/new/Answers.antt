use Rattle.event_loop.proofs.Order.{new_orderly}
use Rattle.event_loop.proofs.state.EventLoop.new.Goals as goal

pub returns-clause-order : goal.returns-clause-order
returns-clause-order g c none = new_orderly g.P.Poller g.S.EventSource c.in_ok-handle.handle (g.P.Poller.entries c.args.poller) (g.P.Poller.most c.args.poller) g.P.Poller.LEVEL c.in_ok-handle.ensures.is none
