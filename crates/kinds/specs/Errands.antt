-- The errands of one event: at most eight, and the ninth is refused.
-- Written out, and not by `push_of` of `bounded`, whose answer hands the item back and would have to be turned into a refusal.
use Rattle.std.specs.Prelude.{if◌then◌else◌, List, [], ◌∷◌, ◌++◌, length, nat_lt}
use Rattle.token.specs.Refusal.{done, refusal}
use Rattle.poller.specs.Meaning.{Answer}
use Rattle.kinds.specs.declared.errand.Errand.{Errand}

abbrev pub push_of : List Errand → Errand → Answer × List Errand
push_of es x = if nat_lt (length es) 8 then (done tt, es ++ x ∷ []) else (refusal 9, es)
