-- Lemmas on the list of steps: what the loop that reads it keeps, and that a line is of one plan.
use Rattle.std.proofs.Common.{◌≡◌, ℕ, List, [], ◌∷◌, ◌++◌, codes, decimal, sym, refl, ◌∙◌, append_assoc, arith}
use Rattle.poller.specs.declared.bench.Step.{Step}
use Rattle.poller.specs.declared.bench.Step.TheVariants.{Work, Fail, Interrupt}
use Rattle.script.specs.Number.{Stops}
use Rattle.script.proofs.Lines.{space_stops, bracket_stops}
use Rattle.replay.specs.Plan.{step_text, Fits, AllFit, spaced_on, Plans, ThePlan, NoPlan, Lists, NoList, Begins, NoStep}
use Rattle.replay.proofs.Steps.{no_code, step_unique, begins_text}

-- the text is one step or more, and the brackets
pub record SomeSteps (text : List ℕ) : Type 0 where
  pub first : Step
  pub others : List Step
  pub lists : Lists (first ∷ others) text

-- with the steps ss read and the rest to come, the text is a list just where the rest is one of a step or more
pub record Progress (text rest : List ℕ) (ss : List Step) : Type 0 where
  pub forth : (h : Step) (hs : List Step) → Lists (h ∷ hs) rest → Lists (ss ++ (h ∷ hs)) text
  pub back : (ts : List Step) → Lists ts text → SomeSteps rest

pub lists_none : (text : List ℕ) → text ≡ 41 ∷ (41 ∷ []) → Lists [] text
lists_none text e = record { fits = tt; is = sym e }

on_stops : (hs : List Step) → Stops (spaced_on hs ++ codes "))")
on_stops [] = bracket_stops
on_stops (h ∷ hs) = space_stops

-- a list of one step or more is a step, and then the others
pub step_first : (text : List ℕ) (h : Step) (hs : List Step) → Lists (h ∷ hs) text → Begins h text (spaced_on hs ++ codes "))")
step_first text Work hs l = sym l.is
step_first text Interrupt hs l = sym l.is
step_first text (Fail n) hs l =
    record { reads = sym l.is ∙ append_assoc (decimal n) (spaced_on hs) (codes "))"); fits = l.fits.0; stops = on_stops hs }

fits_step : (s : Step) (text rest : List ℕ) → Begins s text rest → Fits s
fits_step Work text rest a = tt
fits_step Interrupt text rest a = tt
fits_step (Fail n) text rest a = a.fits

back_begin : (text : List ℕ) → (text ≡ 41 ∷ (41 ∷ []) → ⊥) → (ts : List Step) → Lists ts text → SomeSteps text
back_begin text some [] l = absurd (some (sym l.is))
back_begin text some (t ∷ ts) l = record { first = t; others = ts; lists = l }

-- nothing is read yet
pub begin : (text : List ℕ) (ss : List Step) → ss ≡ [] → (text ≡ 41 ∷ (41 ∷ []) → ⊥) → Progress text text ss
begin text ss e some = record { forth = λ h hs l. rw e l; back = back_begin text some }

-- what stands after the first step
after_first : (rest : List ℕ) (s : Step) (after : List ℕ) → Begins s rest after → (l : SomeSteps rest) → after ≡ spaced_on l.others ++ codes "))"
after_first rest s after a l = (step_unique rest s l.first after _ a (step_first rest l.first l.others l.lists)).1

-- a step, then a space
back_step : (after more : List ℕ) → after ≡ 32 ∷ more → (hs : List Step) → AllFit hs → after ≡ spaced_on hs ++ codes "))" → SomeSteps more
back_step after more e [] fit is = absurd (grind arith)
back_step after more e (h ∷ hs) fit is =
    let t : (step_text h ++ spaced_on hs) ++ codes "))" ≡ more = cc in
    record { first = h; others = hs; lists = record { fits = fit; is = t } }

forth_step : (rest : List ℕ) (s : Step) (after more : List ℕ) → Begins s rest after → after ≡ 32 ∷ more → (h : Step) (hs : List Step) → Lists (h ∷ hs) more → Lists (s ∷ (h ∷ hs)) rest
forth_step rest s after more a e h hs l =
    let b = append_assoc (step_text s) (spaced_on (h ∷ hs)) (codes "))") in
    let t = begins_text s rest after a in
    let d = l.is in
    record { fits = (fits_step s rest after a, l.fits); is = cc }

pub step : (text rest : List ℕ) (ss : List Step) (s : Step) (after more : List ℕ) (ts : List Step) → Progress text rest ss → Begins s rest after → after ≡ 32 ∷ more → ts ≡ ss ++ (s ∷ []) → Progress text more ts
step text rest ss s after more ts p a e g =
    record {
      forth = λ h hs l. rw (g, append_assoc ss (s ∷ []) (h ∷ hs)) (p.forth s (h ∷ hs) (forth_step rest s after more a e h hs l));
      back = λ ks l. let n = p.back ks l in back_step after more e n.others n.lists.fits.1 (after_first rest s after a n);
    }

-- a step, then the brackets
pub finish : (text rest : List ℕ) (ss : List Step) (s : Step) (after : List ℕ) (ts : List Step) → Progress text rest ss → Begins s rest after → after ≡ 41 ∷ (41 ∷ []) → ts ≡ ss ++ (s ∷ []) → Lists ts text
finish text rest ss s after ts p a e g =
    let b = append_assoc (step_text s) [] (codes "))") in
    let t = begins_text s rest after a in
    rw g (p.forth s [] (record { fits = (fits_step s rest after a, tt); is = cc }))

-- no step
pub refused_none : (text rest : List ℕ) (ss : List Step) → Progress text rest ss → NoStep rest → NoList text
refused_none text rest ss p h ts l =
    let n = p.back ts l in h n.first _ (step_first rest n.first n.others n.lists)

not_on : (after : List ℕ) → ((s : List ℕ) → after ≡ 32 ∷ s → ⊥) → (after ≡ 41 ∷ (41 ∷ []) → ⊥) → (hs : List Step) → after ≡ spaced_on hs ++ codes "))" → ⊥
not_on after a b [] e = b e
not_on after a b (h ∷ hs) e = a _ e

-- a step, then neither
pub refused_after : (text rest : List ℕ) (ss : List Step) (s : Step) (after : List ℕ) → Progress text rest ss → Begins s rest after → ((s : List ℕ) → after ≡ 32 ∷ s → ⊥) → (after ≡ 41 ∷ (41 ∷ []) → ⊥) → NoList text
refused_after text rest ss s after p a space brackets ts l =
    let n = p.back ts l in not_on after space brackets n.others (after_first rest s after a n)

-- brackets are no list of one step or more
brackets_none : (s : Step) (ss : List Step) → Lists (s ∷ ss) (41 ∷ (41 ∷ [])) → ⊥
brackets_none Work ss l = grind (arith, l.is)
brackets_none Interrupt ss l = grind (arith, l.is)
brackets_none (Fail n) ss l = no_code 41 _ _ bracket_stops refl n _ (step_first _ (Fail n) ss l)

same_first : (s t : Step) (ss ts : List Step) (text : List ℕ) → Lists (s ∷ ss) text → Lists (t ∷ ts) text → (s ≡ t) × (spaced_on ss ++ codes "))" ≡ spaced_on ts ++ codes "))")
same_first s t ss ts text l k = step_unique text s t _ _ (step_first text s ss l) (step_first text t ts k)

same_on : (ss ts : List Step) → AllFit ss → AllFit ts → spaced_on ss ++ codes "))" ≡ spaced_on ts ++ codes "))" → ss ≡ ts
same_on [] [] p q e = refl
same_on [] (t ∷ ts) p q e = absurd (grind arith)
same_on (s ∷ ss) [] p q e = absurd (grind arith)
same_on (s ∷ ss) (t ∷ ts) p q e =
    let x : (step_text s ++ spaced_on ss) ++ codes "))" ≡ (step_text t ++ spaced_on ts) ++ codes "))" = cc in
    let n = same_first s t ss ts _ (record { fits = p; is = x }) (record { fits = q; is = refl }) in
    let a = n.0 in
    let b = same_on ss ts p.1 q.1 n.1 in
    cc

same_steps : (ss ts : List Step) (text : List ℕ) → Lists ss text → Lists ts text → ss ≡ ts
same_steps [] [] text l k = refl
same_steps [] (t ∷ ts) text l k = absurd (brackets_none t ts (record { fits = k.fits; is = k.is ∙ sym l.is }))
same_steps (s ∷ ss) [] text l k = absurd (brackets_none s ss (record { fits = l.fits; is = l.is ∙ sym k.is }))
same_steps (s ∷ ss) (t ∷ ts) text l k =
    let n = same_first s t ss ts text l k in
    let a = n.0 in
    let b = same_on ss ts l.fits.1 k.fits.1 n.1 in
    cc

-- what a line of a plan has behind its two opening brackets
lists_of : (line text : List ℕ) → line ≡ codes "(P (" ++ text → (ss : List Step) → Plans ss line → Lists ss text
lists_of line text e ss p =
    let a = p.is in
    record { fits = p.fits; is = cc }

pub the_plan : (line text : List ℕ) → line ≡ codes "(P (" ++ text → (ss : List Step) → Lists ss text → ThePlan ss line
the_plan line text e ss l =
    let a = l.is in
    record {
      plans = record { fits = l.fits; is = cc };
      only = λ ts p. same_steps ts ss text (lists_of line text e ts p) l;
    }

pub no_plan : (line text : List ℕ) → line ≡ codes "(P (" ++ text → NoList text → NoPlan line
no_plan line text e h ss p = h ss (lists_of line text e ss p)

-- the line begins otherwise
pub no_opening : (line : List ℕ) → ((text : List ℕ) → line ≡ codes "(P (" ++ text → ⊥) → NoPlan line
no_opening line h ss p = h _ (sym p.is)
