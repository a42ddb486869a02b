use Rattle.poller.proofs.Outcomes.{deleted_works}
use Rattle.poller.proofs.table.Table.delete.Goals as goal

pub returns : goal.returns
returns g c = deleted_works c.args.file _ c.args.fate _ c.args.self.now.apart c.in-Some.ensures.place _ c.in_default-fate.is _ c.remove.ensures.items
