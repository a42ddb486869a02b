use Rattle.timer_wheel.proofs.Expiry.{exact}
use Rattle.timer_wheel.proofs.wheel.TimerWheel.next_expired.Goals as goal

pub returns-in_err-entry-clause-exact : goal.returns-in_err-entry-clause-exact
returns-in_err-entry-clause-exact c = exact c.args.instant _ c.args.self.now.rising

pub returns-clause-exact : goal.returns-clause-exact
returns-clause-exact c = exact c.args.instant _ c.args.self.now.rising
