use Rattle.std.proofs.Common.{◌≡◌, length, take, vec_items, vec_len, count_by}
use Rattle.poller.proofs.Benching.{Stands}
use Rattle.poller.specs.Bench.{reported}
use Rattle.poller.specs.Places.{entries_of}
use Rattle.poller.proofs.bench.report.Given as goal

abbrev pub invariant-loop-file : goal.invariant-loop-file
invariant-loop-file l =
    record {
      count : vec_len l.events.items ≡ count_by (λ b. b) l.told;
      long : length l.told ≡ 256;
      stands : Stands (entries_of l.initial.table) (reported (entries_of l.initial.table) (take l.file-index l.ready)) (entries_of l.table) (vec_items l.events.items) l.told;
    }
