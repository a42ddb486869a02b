use Rattle.std.proofs.Common.{◌<◌, length, sym, ◌∙◌, arith}
use Rattle.poller.proofs.Benching.{stays_none, stays_told, stays_unripe, goes_on}
use Rattle.poller.proofs.bench.consider.Goals as goal
use Rattle.poller.proofs.bench.consider.Goals.{then-told-i-via-then-told-i, then-told-i-via-else-told-i+then-not-is_ripe}

pub returns-in_default-clause-goes : goal.returns-in_default-clause-goes
returns-in_default-clause-goes c = λ es fs m k. stays_none _ _ _ _ es fs m k c.in_default.ensures.place

pub returns-then-told-i-clause-goes : goal.returns-then-told-i-clause-goes
returns-then-told-i-clause-goes c =
    let d = c.args.table.now.apart in
    let p = c.in-Some.ensures.place in
    λ es fs m k. elim c.then-told-i.branch [
      | then-told-i-via-then-told-i w ↦ stays_told _ _ _ _ es fs m k _ _ d p _ c.index.ensures w.if-told-i.true
      | then-told-i-via-else-told-i+then-not-is_ripe w ↦ stays_unripe _ _ _ _ es fs m k _ _ d p _ c.index.ensures w.if-told-i.false (sym w.is_ripe.ensures ∙ w.if-not-is_ripe.true)
    ]

pub returns-clause-goes : goal.returns-clause-goes
returns-clause-goes c =
    let p = c.in-Some.ensures.place in
    let in' : c.in-Some.i < length c.args.told.now = omega (arith, c.in-Some.ensures.within, c.args.table.now.entries.few, c.told-told) in
    λ es fs m k.
    goes_on _ _ _ _ es fs m k _ _ c.args.table.now.apart p _ c.index.ensures _ _ in' c.if-told-i.false (sym c.is_ripe.ensures ∙ c.if-not-is_ripe.false)
    (c.tell.ensures.entries c.args.file p) (c.tell.ensures.events c.args.file p)
