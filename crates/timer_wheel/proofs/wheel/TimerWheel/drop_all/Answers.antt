use Rattle.std.proofs.Common.{◌≡◌, arith, rules, subst, sym, vec_items}
use Rattle.std.proofs.lemmas.Fn.{filter_same}
use Rattle.std.proofs.lemmas.List.Kept.{IsNonDecreasingBy-filter}
use Rattle.timer_wheel.specs.declared.timeout.TimeoutData.{TimeoutData}
use Rattle.timer_wheel.specs.Entries.{Rising, stays, without}
use Rattle.timer_wheel.proofs.wheel.TimerWheel.drop_all.Goals as goal
use Rattle.timer_wheel.proofs.wheel.TimerWheel.drop_all.Goals.{After-retain}

-- Written out: named at the function, filter_same is not found, since it asks for a fact about the closure.
kept : (c : After-retain) → vec_items c.retain.new.self ≡ without c.args.counter (vec_items c.args.self.now.entries.items)
kept c = filter_same _ _ _ (λ x b f' k. search rules) _ _ c.retain.ensures.filtered

pub returns-clause-items : goal.returns-clause-items
returns-clause-items c = kept c.before

pub invariant_of-self : goal.invariant_of-self
invariant_of-self c =
    let was = c.args.self.now in
    let rising = IsNonDecreasingBy-filter (λ (y : TimeoutData). y.deadline) (stays c.args.counter) (vec_items was.entries.items) was.rising in
    ((omega arith, (omega arith, tt)), (subst Rising (sym (kept c)) rising, (was.small, tt)))
