use Rattle.std.proofs.Common.{vec_items, arith, leb, rules, subst, sym}
use Rattle.std.proofs.lemmas.List.Sorted.{IsPartitionPoint-from_clause, IsPartitionedBy-leb}
use Rattle.timer_wheel.specs.declared.timeout.TimeoutData.{TimeoutData}
use Rattle.timer_wheel.specs.Entries.{Rising}
use Rattle.timer_wheel.proofs.Entry.{Entered, entered}
use Rattle.timer_wheel.proofs.wheel.TimerWheel.enter.Goals as goal
use Rattle.timer_wheel.proofs.wheel.TimerWheel.enter.Goals.{After-insert}

taken : (c : After-insert) → Entered c.args.entry (vec_items c.args.self.now.entries.items) (vec_items c.insert.new.self)
taken c =
    let was = c.args.self.now in
    let rising = subst Rising (sym c.deref.ensures.value) was.rising in
    let split = IsPartitionPoint-from_clause (λ (y : TimeoutData). leb y.deadline c.args.entry.deadline) c.deref.result.now c.partition_point-at.result c.partition_point-at.ensures.partitioned (IsPartitionedBy-leb (λ (y : TimeoutData). y.deadline) c.deref.result.now c.args.entry.deadline rising) (λ a r f' k. search rules) in
    entered c.deref.ensures.value c.partition_point-at.ensures.bound split was.rising (c.insert.ensures.succeeds (omega arith)) c.insert.ensures.items

pub invariant_of-self : goal.invariant_of-self
invariant_of-self c =
    let was = c.args.self.now in
    ((omega arith, (grind arith, tt)), ((taken c).rising, (was.small, tt)))

pub returns-clause-items : goal.returns-clause-items
returns-clause-items c = (taken c.before).is

pub returns-clause-joins : goal.returns-clause-joins
returns-clause-joins c = (taken c.before).joins
