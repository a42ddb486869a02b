-- A Generic as it is made, and what an event of it comes to.
use Rattle.std.specs.Prelude.{◌≡◌, ℕ, ◌⊎◌, List, [], Some, None}
use Rattle.token.specs.declared.token.Token.{Token}
use Rattle.token.specs.Refusal.{Outcome, done}
use Rattle.poller.specs.declared.entry.Interest.{Interest}
use Rattle.poller.specs.declared.entry.Mode.{Mode}
use Rattle.poller.specs.declared.entry.Readiness.{Readiness}
use Rattle.post_action.specs.declared.PostAction.{PostAction}
use Rattle.post_action.specs.declared.PostAction.TheVariants.{Continue}
use Rattle.sys.specs.World.{Exchange, World}
use Rattle.kinds.specs.declared.errand.Errand.{Errand}
use Rattle.generic.specs.declared.generic.Generic.{Generic}

-- made over a file, it holds nothing
abbrev pub generic_over : {H : Type 0} → ℕ → Interest → Mode → H → Generic H
generic_over f i m h = record { file = record { file = f; interest = i; mode = m; tickets = None }; handler = h }

-- Only a call of the handler gives `handles`, and nobody has a copy of the handler that could be called in its place or put back after a call.
-- So `Own` says that it was called once, and `Other`, whose source is as it was, that it was not called.
module _ {H : Type 0} (handles : H → Readiness → List Errand → Outcome PostAction → H → List Errand → Type 0) (s : Generic H) (x : Readiness) (t : Token) (es : List Errand) where
  -- an event under its own token goes to the handler, whose answer is the answer
  pub record Own (r : Outcome PostAction) (s' : Generic H) (es' : List Errand) : Type 0 where
    pub token : s.file.tickets ≡ Some t
    pub handled : handles s.handler x es r s'.handler es'
    pub file : s'.file ≡ s.file

  -- one under another token gets Continue, and changes nothing
  pub record Other (r : Outcome PostAction) (s' : Generic H) (es' : List Errand) : Type 0 where
    pub token : s.file.tickets ≡ Some t → ⊥
    pub answer : r ≡ done Continue
    pub source : s' ≡ s
    pub errands : es' ≡ es

  -- neither reaches the polling system
  abbrev pub Handled : World → List Exchange → Outcome PostAction → Generic H → World → List Errand → Type 0
  Handled w xs r s' w' es' = (xs ≡ []) × (w' ≡ w) × (Own r s' es' ⊎ Other r s' es')
