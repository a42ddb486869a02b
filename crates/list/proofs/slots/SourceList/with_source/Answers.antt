use Rattle.std.proofs.Common.{rules}
use Rattle.std.proofs.lemmas.List.{get_or_read}
use Rattle.list.specs.Slots.{unused}
use Rattle.list.proofs.slots.SourceList.with_source.Goals as goal

-- Written out: named at the function, get_or_read is not found, even with the call's own fact first in the clause.
pub returns : goal.returns
returns g c =
    let xs = c.self.inside.slots.items.items in
    let here = get_or_read xs c.args.i c.index_mut.result.now (search rules) (search rules) unused in
    (c.in-Occupied.source, c.ask.new.arg2, cc, cc, search rules)
