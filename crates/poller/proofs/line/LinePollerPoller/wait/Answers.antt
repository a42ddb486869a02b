use Rattle.std.proofs.Common.{refl, ◌∙◌, arith}
use Rattle.poller.specs.Line.{due, line_of}
use Rattle.poller.specs.Waits.{among_passing}
use Rattle.poller.proofs.Lining.{lines_none, lines_more, lines_all}
use Rattle.poller.proofs.line.LinePollerPoller.wait.Goals as goal

pub loop-file-init : goal.loop-file-init
loop-file-init c =
    record { midst = lines_none (line_of c.args.self.now) _ c.clear.ensures.items; lines = refl; risen = refl; count = omega (arith, c.clear.ensures.len) }

pub loop-file-preserved : goal.loop-file-preserved
loop-file-preserved c =
    let v = line_of c.args.self.now in
    let n = c.loop-file.file in
    let inv = c.loop-file.invariant in
    record {
      midst = lines_more v _ _ n _ _ inv.lines inv.risen (c.consider.ensures.goes _ _ (among_passing (due v) n n (omega arith)) inv.midst);
      lines = c.consider.ensures.lines ∙ inv.lines;
      risen = c.consider.ensures.risen ∙ inv.risen;
      count = omega (arith, c.consider.ensures.count, inv.count);
    }

pub returns : goal.returns
returns c = lines_all (line_of c.args.self.now) _ c.loop-file.file _ _ (omega arith) c.loop-file.invariant.lines c.loop-file.invariant.midst
