use Rattle.std.proofs.Common.{◌≡◌, ◌≤◌, vec_items, vec_len}
use Rattle.poller.specs.Line.{due, line_of, passing}
use Rattle.poller.specs.Places.{entries_of}
use Rattle.poller.specs.Reports.{Midst}
use Rattle.poller.proofs.line.LinePollerPoller.wait.Given as goal

abbrev pub invariant-loop-file : goal.invariant-loop-file
invariant-loop-file l =
    record {
      midst : Midst (line_of l.initial.self).entries (passing (due (line_of l.initial.self)) l.file) (entries_of l.self.table) (vec_items l.events.items);
      lines : l.self.lines ≡ l.initial.self.lines;
      risen : l.self.risen ≡ l.initial.self.risen;
      count : vec_len l.events.items ≤ l.file;
    }
