-- What a turn's fate says.
use Rattle.std.proofs.Common.{◌≡◌, ℕ, List, [], ◌∷◌, ◌++◌, Err, Ok, Option, Result, false, true, refl, sym}
use Rattle.std.proofs.lemmas.Bool.{false≢true}
use Rattle.std.specs.Result.{is_ok, result_and, result_map_both, result_unwrap_or}
use Rattle.token.specs.Refusal.{code_of, done, number_of, outcome, refused}
use Rattle.token.specs.declared.error.Error.{Error}
use Rattle.poller.specs.Meaning.{Answer}
use Rattle.post_action.specs.declared.PostAction.{PostAction}
use Rattle.sheet.specs.declared.Verdict.{Verdict}
use Rattle.sheet.specs.declared.Verdict.TheVariants.{Delivered}
use Rattle.sheet.specs.Printed.{line_of}
use Rattle.model.specs.Dispatch.{Settled, Turns, fate_of, turned, with_turn}
use Rattle.model.specs.State.{Loop}
use Rattle.loop_handle.specs.State.{loop_of}
use Rattle.kinds.specs.declared.errand.Errand.{Errand}
use Rattle.sys.specs.World.{World}
use Rattle.sys.specs.declared.event.PollEvent.{PollEvent}
use Rattle.turns.specs.Turns.{turn_as, turns_as}
use Rattle.turns.specs.declared.inner.LoopInner.{LoopInner}

pub accepted : (r : Result (Unit {0}) Error) → is_ok r ≡ true → outcome r ≡ done tt
accepted (Ok u) h = refl
accepted (Err e) h = absurd (false≢true h)

pub failed : (r : Result (Unit {0}) Error) → is_ok r ≡ false → (n : ℕ) × (c : Option ℕ) × ◌≡◌ {A = Answer} (outcome r) (refused n c)
failed (Ok u) h = absurd (false≢true (sym h))
failed (Err e) h = (number_of e, code_of e, refl)

-- the source's own fault goes before that of the action
pub own_first : (r : Result PostAction Error) (a : Result (Unit {0}) Error) → ◌≡◌ {A = Answer} (outcome (result_and r a)) (fate_of (outcome r) (outcome a))
own_first (Ok x) a = refl
own_first (Err e) a = refl

-- a turn whose source was called, from its parts
pub turned_as : {P C S : Type 0} (k : Loop S) (r : Result (Unit {0}) Error) (es : List Errand) (e : Settled S) (x : Result Verdict Error) (l : LoopInner P C S) (w : World) → x ≡ result_map_both (λ u. Delivered) (λ e. e) r
    → (turned k (outcome r) es e).loop ≡ loop_of l.handle w → es ≡ l.errands → turned k (outcome r) es e ≡ turn_as x l w
turned_as k (Ok u) es e x l w is loop errands = rw (is, loop, errands) refl
turned_as k (Err f) es e x l w is loop errands = rw (is, loop, errands) refl

-- the verdict of a turn, and the turns with it
pub verdict_is : {P C S : Type 0} (r : Result Verdict Error) (l : LoopInner P C S) (w : World) → result_unwrap_or r Delivered ≡ (turn_as r l w).verdict
verdict_is (Ok v) l w = refl
verdict_is (Err e) l w = refl

pub with_turn_is : {P C S : Type 0} (a : Turns S) (e : PollEvent) (r : Result Verdict Error) (v : Verdict) (l : LoopInner P C S) (w : World) → v ≡ result_unwrap_or r Delivered
    → with_turn a e (turn_as r l w) ≡ turns_as (turn_as r l w).answer l w (a.sheet ++ line_of v e ∷ [])
with_turn_is a e (Ok x) v l w is = rw is refl
with_turn_is a e (Err x) v l w is = rw is refl
