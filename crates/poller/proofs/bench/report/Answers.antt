use Rattle.std.proofs.Common.{length, refl, ap, ◌∙◌, arith}
use Rattle.poller.specs.Places.{entries_of}
use Rattle.poller.proofs.Benching.{stands_none}
use Rattle.poller.proofs.bench.report.Goals as goal

pub loop-file-init : goal.loop-file-init
loop-file-init c =
    record { count = c.args.events.now.items.ok.0 ∙ ap length c.requires; long = refl; stands = stands_none (entries_of c.args.table.now) 256 _ (omega (arith, c.args.table.now.entries.few, c.args.table.now.entries.items.ok.0)) c.requires }
