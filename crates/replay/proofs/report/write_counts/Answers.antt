use Rattle.std.proofs.Common.{append_assoc, subst, arith}
use Rattle.std.proofs.lemmas.Grind.{common_steps}
use Rattle.bench.specs.Written.{Written}
use Rattle.replay.proofs.report.write_counts.Goals as goal

pub returns : goal.returns
returns c =
    subst (λ text. Written text c.args.out.now c.push_all.result c.push_all.new.out)
    (grind (arith, common_steps, append_assoc, c.format-scripts.ensures.text, c.format-lines.ensures.text, c.format-differences.ensures.text))
    c.push_all.ensures
