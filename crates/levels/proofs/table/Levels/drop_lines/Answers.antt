use Rattle.std.proofs.Common.{rules}
use Rattle.std.proofs.lemmas.Fn.{filter_same}
use Rattle.levels.proofs.table.Levels.drop_lines.Goals as goal

-- Written out: named at the function, filter_same is not found, since it asks for a fact about the closure.
pub returns-clause-is : goal.returns-clause-is
returns-clause-is c = rw (← c.self.view_is) (filter_same _ _ _ (λ x b f' k. search rules) _ _ c.retain.ensures.filtered)
