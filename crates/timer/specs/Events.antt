-- A Timer as it is made, and what an event of it comes to.
use Rattle.std.specs.Prelude.{◌≡◌, ℕ, ◌⊎◌, List, [], Some, None}
use Rattle.token.specs.declared.token.Token.{Token}
use Rattle.token.specs.Refusal.{Outcome, done}
use Rattle.post_action.specs.declared.PostAction.{PostAction}
use Rattle.post_action.specs.declared.PostAction.TheVariants.{Continue}
use Rattle.sys.specs.World.{Exchange, World}
use Rattle.rules.specs.Calls.{went}
use Rattle.kinds.specs.declared.errand.Errand.{Errand}
use Rattle.alarm.specs.declared.alarm.Registration.{Registration}
use Rattle.alarm.specs.declared.alarm.TimeoutAction.{TimeoutAction}
use Rattle.alarm.specs.Calls.{Awaits, rung_by}
use Rattle.timer.specs.declared.timer.Timer.{Timer}

-- made for a deadline, it has no registration
abbrev pub timer_until : {H : Type 0} → ℕ → H → Timer H
timer_until d h = record { alarm = record { registration = None; deadline = Some d }; handler = h }

module _ {H : Type 0} (rings : H → ℕ → List Errand → TimeoutAction → H → List Errand → Type 0) (s : Timer H) (t : Token) (es : List Errand) (w : World) where
  -- an event under the token of its registration, with a deadline: the handler is told the deadline, and says what becomes of it
  pub record Own (xs : List Exchange) (r : Outcome PostAction) (s' : Timer H) (w' : World) (es' : List Errand) : Type 0 where
    pub registration : Registration
    pub deadline : ℕ
    pub awaited : Awaits s.alarm t registration deadline
    pub action : TimeoutAction
    pub now : ℕ
    pub rung : rings s.handler deadline es action s'.handler es'
    pub is : went xs r s'.alarm w' ≡ rung_by s.alarm registration action now w

  -- any other gets Continue, and the handler is not called
  pub record Other (xs : List Exchange) (r : Outcome PostAction) (s' : Timer H) (w' : World) (es' : List Errand) : Type 0 where
    pub none : (x : Registration) (d : ℕ) → Awaits s.alarm t x d → ⊥
    pub is : went xs r s' w' ≡ went [] (done Continue) s w
    pub errands : es' ≡ es

  abbrev pub Rung : List Exchange → Outcome PostAction → Timer H → World → List Errand → Type 0
  Rung xs r s' w' es' = Own xs r s' w' es' ⊎ Other xs r s' w' es'
