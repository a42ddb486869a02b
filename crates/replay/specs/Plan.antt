-- The lines that plan what the next calls of the poller come to.
use Rattle.std.specs.Prelude.{◌≡◌, ℕ, ◌^◌, ◌<◌, List, [], ◌∷◌, ◌++◌, vec_items, Vec, codes, decimal, Option, MatchOption}
use Rattle.std.specs.Global.{Global}
use Rattle.std.specs.List.{AllByRecursion, flat_map}
use Rattle.std.specs.Option.{option_map, unwrap_or}
use Rattle.poller.specs.declared.bench.Step.{Step}
use Rattle.poller.specs.declared.bench.Step.TheVariants.{Work, Fail, Interrupt}
use Rattle.poller.specs.Bench.{BenchView}
use Rattle.script.specs.Number.{Number}
use Rattle.replay.specs.declared.plan.Plan.{Plan}

-- w works, i is interrupted, and a number is the code of a fault
abbrev pub step_text : Step → List ℕ
step_text Work = codes "w"
step_text Interrupt = codes "i"
step_text (Fail code) = decimal code

-- a code has at most 32 bits
abbrev pub Fits : Step → Type 0
Fits Work = Unit {0}
Fits Interrupt = Unit {0}
Fits (Fail code) = code < 2 ^ 32

abbrev pub AllFit : List Step → Type 0
AllFit = AllByRecursion Fits

-- each step after a space
abbrev pub spaced_on : List Step → List ℕ
spaced_on = flat_map (λ s. codes " " ++ step_text s)

-- the steps, with a space between two of them
abbrev pub spaced : List Step → List ℕ
spaced [] = []
spaced (s ∷ ss) = step_text s ++ spaced_on ss

-- the line that plans the steps, byte for byte
abbrev pub written : List Step → List ℕ
written ss = codes "(P (" ++ (spaced ss ++ codes "))")

-- the line plans the steps ss, whose codes fit
pub record Plans (ss : List Step) (line : List ℕ) : Type 0 where
  pub fits : AllFit ss
  pub is : written ss ≡ line

-- the line plans the steps ss and no others
pub record ThePlan (ss : List Step) (line : List ℕ) : Type 0 where
  pub plans : Plans ss line
  pub only : (ts : List Step) → Plans ts line → ts ≡ ss

-- the line plans nothing
abbrev pub NoPlan : List ℕ → Type 0
NoPlan line = (ss : List Step) → Plans ss line → ⊥

-- o is the steps that the line plans, or None where it plans nothing
abbrev pub Planning : List ℕ → Option (Vec Step Global) → Type 0
Planning line o = MatchOption o (NoPlan line) (λ steps. ThePlan (vec_items steps) line)

-- the text is the steps and then the two brackets that end a line
pub record Lists (ss : List Step) (text : List ℕ) : Type 0 where
  pub fits : AllFit ss
  pub is : spaced ss ++ codes "))" ≡ text

-- the text is no such list
abbrev pub NoList : List ℕ → Type 0
NoList text = (ss : List Step) → Lists ss text → ⊥

-- the text is the step and then the rest; behind a code the rest does not go on with a digit
abbrev pub Begins : Step → List ℕ → List ℕ → Type 0
Begins Work text rest = text ≡ codes "w" ++ rest
Begins Interrupt text rest = text ≡ codes "i" ++ rest
Begins (Fail code) text rest = Number 32 text code rest

-- the text begins with no step
abbrev pub NoStep : List ℕ → Type 0
NoStep text = (s : Step) (rest : List ℕ) → Begins s text rest → ⊥

-- the steps that come next are the plan's, where it has some; all else stays
abbrev pub planned_by : Plan → BenchView → BenchView
planned_by p v = record v { steps = unwrap_or (option_map vec_items p.steps) v.steps }
