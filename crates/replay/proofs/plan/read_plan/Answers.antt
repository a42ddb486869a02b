use Rattle.std.proofs.Common.{◌≡◌, ◌-◌, ℕ, List, ◌++◌, length, take, drop, codes, Option, Some, None, MatchOption, Vec, Global, arith}
use Rattle.std.proofs.lemmas.Grind.{common_steps}
use Rattle.std.proofs.lemmas.Result.{IfOk-weaker}
use Rattle.poller.specs.declared.bench.Step.{Step}
use Rattle.replay.specs.Plan.{Lists, NoList, Planning}
use Rattle.replay.proofs.Lists.{the_plan, no_plan}
use Rattle.replay.proofs.plan.read_plan.Goals as goal

plan_of : (line text : List ℕ) → line ≡ codes "(P (" ++ text → (o : Option (Vec Step Global)) → MatchOption o (NoList text) (λ steps. Lists steps.items text) → Planning line o
plan_of line text e None h = no_plan line text e h
plan_of line text e (Some steps) l = the_plan line text e steps.items l

pub returns-clause-reads : goal.returns-clause-reads
returns-clause-reads c =
    let line = c.args.line.now in
    let b : line ≡ codes "(P (" ++ take (length line - 4) (drop 4 line) = grind (arith, common_steps) in
    IfOk-weaker c.read_steps.result _ _ (plan_of line _ b) c.read_steps.ensures
