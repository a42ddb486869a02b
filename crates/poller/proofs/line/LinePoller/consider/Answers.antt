use Rattle.std.proofs.Common.{sym}
use Rattle.poller.proofs.Lining.{line_passes, line_none, line_tells}
use Rattle.poller.proofs.line.LinePoller.consider.Goals as goal

pub returns-in_default-clause-goes : goal.returns-in_default-clause-goes
returns-in_default-clause-goes c = λ es fs un m. line_none es _ fs _ _ _ _ un m c.in_default.ensures.place

pub returns-then-is_due-clause-goes : goal.returns-then-is_due-clause-goes
returns-then-is_due-clause-goes c =
    let s = c.args.self.now in
    let p = c.in-Some.ensures.place in
    λ es fs un m.
    line_tells es _ fs _ s.lines s.risen _ un m _ p _ c.index.ensures _ _ (sym c.if-is_due.ensures) (c.tell.ensures.entries c.args.file p) (c.tell.ensures.events c.args.file p)

pub returns-else-is_due-clause-goes : goal.returns-else-is_due-clause-goes
returns-else-is_due-clause-goes c =
    let s = c.args.self.now in
    λ es fs un m. line_passes es _ fs _ s.lines s.risen _ un m _ c.in-Some.ensures.place _ c.index.ensures (sym c.if-is_due.ensures)
