use Rattle.sys.specs.World.{world_of}
use Rattle.sys.proofs.Armed.{waits_rearmed}
use Rattle.sys.proofs.Locality.{waits_wakeful}
use Rattle.sys.proofs.PlainWait.{polls_plain}
use Rattle.sys.proofs.poll.Poll.poll.Goals as goal

pub returns : goal.returns
returns g c =
    let p = g.P.Poller in
    let law = g.met.P.Poller in
    let s = c.args.self.now in
    let i = c.wait.ensures in
    let came = polls_plain p g.C.Clock law.modifying law.waiting c.args.timeout s _ _ c.wait.new.self i in
    record {
      is = i;
      plain = came;
      wakeful = waits_wakeful c.args.timeout (world_of p s) came.0 _ _ _ (law.sound s.poller).apart came.2;
      rearmed = waits_rearmed c.args.timeout (world_of p s) came.0 _ _ _ came.2;
    }
