-- What each wait has, a wait with its retries has.
use Rattle.std.proofs.Common.{◌≡◌, ℕ, Bool, true, false, zero, suc, List, [], ◌∷◌, ◌++◌, Some, None, Option, refl}
use Rattle.std.proofs.lemmas.List.{append-nil}
use Rattle.poller.specs.Meaning.{Answer}
use Rattle.sys.specs.declared.event.PollEvent.{PollEvent}
use Rattle.sys.specs.Wait.{Waits}
use Rattle.sys.specs.World.{Exchange, World, read}
use Rattle.model.specs.Retries.{After, Again, Left, Rest, Retries, interrupted, remaining_of}

-- `Q` holds of each wait, and of one that is made again if it holds of what is asked after the interruption.
pub record Carries (Q : Rest) : Type 0 where
  pub last : (left : Option ℕ) (w : World) (xs : List Exchange) (a : Answer) (es : List PollEvent) (w' : World) → Waits left w xs a es w' → Q w xs (Some a) es w'
  pub again : (left : Option ℕ) (w : World) (ys : List Exchange) (a : Answer) (vs : List PollEvent) (v : World) (zs : List Exchange) (r : Option Answer) (es : List PollEvent) (w' : World)
      → Waits left w ys a vs v → interrupted a ≡ true → Q v zs r es w' → Q w (ys ++ zs) r es w'
  pub reads : (now : ℕ) (w : World) (xs : List Exchange) (r : Option Answer) (es : List PollEvent) (w' : World) → Q w xs r es w' → Q w (read now ∷ xs) r es w'
  pub quiet : (w : World) → Q w [] None [] w

module _ (Q : Rest) (carries : Carries Q) (given : Option ℕ) (start : ℕ) where
  abbrev Brings : Rest → Type 0
  Brings on = (w : World) (xs : List Exchange) (r : Option Answer) (es : List PollEvent) (w' : World) → on w xs r es w' → Q w xs r es w'

  module _ (on : Option ℕ → Rest) (more : (t : Option ℕ) → Brings (on t)) where
    left_brings : (t : Option ℕ) → Brings (Left t on)
    left_brings None w xs r es w' k = rw (k.0, k.1, k.2, k.3) (carries.quiet w)
    left_brings (Some l) w xs r es w' k = more (Some l) w xs r es w' k

    again_brings : (t : Option ℕ) → Brings (Again t start on)
    again_brings None w xs r es w' k = more None w xs r es w' k
    again_brings (Some t) w xs r es w' k = rw k.2 (carries.reads k.0 w k.1 r es w' (left_brings (remaining_of t start k.0) w k.1 r es w' k.3))

  pub retries_bring : (n : ℕ) (left : Option ℕ) → Brings (Retries n given start left)
  retries_bring zero left w xs r es w' k = rw k.2 (carries.last left w xs k.0 es w' k.1)
  retries_bring (suc n) left w xs r es w' k = rw k.6 (after (again_brings (Retries n given start) (retries_bring n) given) (interrupted k.0) refl k.7)
    where
      after : Brings (Again given start (Retries n given start)) → (b : Bool) → interrupted k.0 ≡ b → After b k.0 k.1 (Again given start (Retries n given start)) k.2 k.5 r es w' → Q w (k.3 ++ k.5) r es w'
      after more false is m = rw (m.0, m.1, m.2, m.3, append-nil) (carries.last left w k.3 k.0 k.1 k.2 k.4)
      after more true is m = carries.again left w k.3 k.0 k.1 k.2 k.5 r es w' k.4 is (more k.2 k.5 r es w' m)

-- what each wait keeps
pub retries_keep : (P : World → Type 0) → ((left : Option ℕ) (w : World) (xs : List Exchange) (a : Answer) (es : List PollEvent) (w' : World) → Waits left w xs a es w' → P w → P w') → (given : Option ℕ) (start : ℕ)
    → (n : ℕ) (left : Option ℕ) (w : World) (xs : List Exchange) (r : Option Answer) (es : List PollEvent) (w' : World) → Retries n given start left w xs r es w' → P w → P w'
retries_keep P keeps = retries_bring (λ w xs r es w'. P w → P w') (record {
  last = keeps;
  again = λ left w ys a vs v zs r es w' m is k p. k (keeps left w ys a vs v m p);
  reads = λ now w xs r es w' k. k;
  quiet = λ w p. p;
})
