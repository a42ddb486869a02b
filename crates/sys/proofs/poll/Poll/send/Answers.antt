use Rattle.std.proofs.Common.{rules}
use Rattle.sys.proofs.Lawful.{asks_so}
use Rattle.sys.proofs.poll.Poll.send.Goals as goal

-- the two ends by one lemma, which is not found where it is named at the function
pub returns-in_err-ask : goal.returns-in_err-ask
returns-in_err-ask g c = search (rules, asks_so g.F.FnOnce c.args.ask _ _ c.to_request.result _ c.ask.ensures)

pub returns : goal.returns
returns g c = search (rules, asks_so g.F.FnOnce c.args.ask _ _ c.to_request.result _ c.ask.ensures)
