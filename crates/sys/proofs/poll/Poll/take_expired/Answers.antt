use Rattle.std.proofs.Common.{ap, arith}
use Rattle.timer_wheel.specs.Wheel.{wheel_of}
use Rattle.sys.specs.Polling.{with_wheel}
use Rattle.sys.proofs.Waits.{taking_more, taking_all, taken_one}
use Rattle.sys.proofs.poll.Poll.take_expired.Goals as goal

pub loop-token-preserved : goal.loop-token-preserved
loop-token-preserved g c =
    let inv = c.loop-token.invariant in
    let gone = c.in-Some.ensures.is in
    record {
      room = omega (arith, inv.room, c.push_reserved.ensures.len, taken_one c.now-clock.result (wheel_of c.loop-token.self.timers) _ _ gone);
      taking = taking_more c.now-clock.result (wheel_of c.args.self.now.timers) _ _ _ _ _ _ inv.taking gone c.push_reserved.ensures.items;
      same = ap (λ s. with_wheel s (wheel_of c.next_expired.new.self)) inv.same;
    }

pub returns : goal.returns
returns g c =
    let inv = c.loop-token.invariant in
    let t = taking_all c.now-clock.result (wheel_of c.args.self.now.timers) _ _ _ _ c.args.self.now.timers.rising inv.taking c.in_default.ensures.is in
    (c.now-clock.result, rw (ap (λ s. s.clock) inv.same) c.now-clock.ensures, t.0, cc (ap (λ s. s.poller) inv.same, ap (λ s. s.lines) inv.same, ap (λ s. s.reported) inv.same, t.1))
