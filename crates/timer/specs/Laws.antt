-- An event of a Timer keeps the rules of source kinds.
use Rattle.std.specs.Prelude.{ℕ, List, []}
use Rattle.std.proofs.Common.{sym, ap, ◌∙◌, inl, inr}
use Rattle.std.proofs.lemmas.List.{append-nil}
use Rattle.token.specs.declared.token.Token.{Token}
use Rattle.token.specs.Refusal.{Outcome}
use Rattle.post_action.specs.declared.PostAction.{PostAction}
use Rattle.sys.specs.World.{Exchange, World}
use Rattle.rules.specs.Calls.{Went, went}
use Rattle.rules.specs.Kinds.{Grown, Processing}
use Rattle.kinds.specs.declared.errand.Errand.{Errand}
use Rattle.alarm.specs.declared.alarm.TimeoutAction.{TimeoutAction}
use Rattle.alarm.specs.Calls.{meaning}
use Rattle.alarm.proofs.Laws.{rings_lawful, stays_lawful}
use Rattle.timer.specs.declared.timer.Timer.{Timer}
use Rattle.timer.specs.Events.{Rung}

module _ {H : Type 0} (rings : H → ℕ → List Errand → TimeoutAction → H → List Errand → Type 0)
    (law : (h : H) (d : ℕ) (es : List Errand) (r : TimeoutAction) (h' : H) (es' : List Errand) → rings h d es r h' es' → Grown es es')
    (s : Timer H) (t : Token) (es : List Errand) (w : World) (xs : List Exchange) (r : Outcome PostAction) (s' : Timer H) (w' : World) (es' : List Errand) where
  pub processes_lawful : Rung rings s t es w xs r s' w' es' → Processing (meaning s.alarm) w t es xs r (meaning s'.alarm) w' es'
  processes_lawful (inl o) =
      let grown = law s.handler o.deadline es o.action s'.handler es' o.rung in
      rings_lawful s.alarm t es es' w grown o.registration o.action o.now (went xs r s'.alarm w') o.awaited.registered o.awaited.token o.is
  processes_lawful (inr o) =
      let grown : Grown es es' = ([], o.errands ∙ sym (append-nil es)) in
      stays_lawful s.alarm t es es' w grown (went xs r s'.alarm w') (ap (λ (c : Went PostAction (Timer H)). went c.exchanges c.answer c.source.alarm c.world) o.is)
