use Rattle.std.proofs.Common.{rules}
use Rattle.std.proofs.lemmas.Fn.{filter_same}
use Rattle.list.proofs.lifecycle.Lifecycle.drop_all.Goals as goal

-- Written out: named at the function, neither filter_same nor filter_from_retain is found, since each asks for a fact about the closure.
pub returns : goal.returns
returns c = rw (← c.self.view_is) (filter_same _ _ _ (λ x b f' k. search rules) _ _ c.retain.ensures.filtered)
