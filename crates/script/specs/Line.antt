-- The lines of a script: a form as plain values, and the line that it is.
use Rattle.std.specs.Prelude.{◌≡◌, ℕ, ◌^◌, ◌<◌, List, [], ◌∷◌, ◌++◌, vec_items, codes, decimal, Option, MatchOption}
use Rattle.std.specs.List.{AllByRecursion, flat_map}
use Rattle.post_action.specs.declared.PostAction.{PostAction}
use Rattle.post_action.specs.declared.PostAction.TheVariants.{Continue, Reregister, Disable, Remove}
use Rattle.script.specs.Number.{Number}
use Rattle.script.specs.declared.Form.{Form}
use Rattle.script.specs.declared.Form.TheVariants as form

-- what a line can ask of an accepted insert
pub data Call : Type 0 where
  enable : Call
  update : Call
  disable : Call
  remove : Call

-- (T deadline period), (G file action), (W clock (file file ..)), and a call of the n-th insert, as (E n)
pub data Plain : Type 0 where
  timer : ℕ → ℕ → Plain
  generic : ℕ → PostAction → Plain
  wait : ℕ → List ℕ → Plain
  call : Call → ℕ → Plain

-- The code's form as plain values: not the form itself, whose files are a Vec, which no definition can make.
abbrev pub plain : Form → Plain
plain (form.Timer d p) = timer d p
plain (form.Generic f a) = generic f a
plain (form.Wait c fs) = wait c (vec_items fs)
plain (form.Enable n) = call enable n
plain (form.Update n) = call update n
plain (form.Disable n) = call disable n
plain (form.Remove n) = call remove n

-- each file has at most 32 bits
abbrev pub Files : List ℕ → Type 0
Files = AllByRecursion (λ f. f < 2 ^ 32)

-- each number fits its type
abbrev pub Fits : Plain → Type 0
Fits (timer d p) = (d < 2 ^ 64) × (p < 2 ^ 64)
Fits (generic f a) = f < 2 ^ 32
Fits (wait c fs) = (c < 2 ^ 64) × Files fs
Fits (call k n) = n < 2 ^ 64

-- the letters C, R, D and X
abbrev pub letter_of : PostAction → ℕ
letter_of Continue = 67
letter_of Reregister = 82
letter_of Disable = 68
letter_of Remove = 88

-- the letters E, U, D and R
abbrev pub call_letter : Call → ℕ
call_letter enable = 69
call_letter update = 85
call_letter disable = 68
call_letter remove = 82

-- each file after a space
abbrev pub spaced_on : List ℕ → List ℕ
spaced_on = flat_map (λ f. codes " " ++ decimal f)

-- the files, with a space between two of them
abbrev pub spaced : List ℕ → List ℕ
spaced [] = []
spaced (f ∷ fs) = decimal f ++ spaced_on fs

-- the line that a form is, byte for byte
abbrev pub written : Plain → List ℕ
written (timer d p) = codes "(T " ++ (decimal d ++ (codes " " ++ (decimal p ++ codes ")")))
written (generic f a) = codes "(G " ++ (decimal f ++ (codes " " ++ (letter_of a ∷ codes ")")))
written (wait c fs) = codes "(W " ++ (decimal c ++ (codes " (" ++ (spaced fs ++ codes "))")))
written (call k n) = codes "(" ++ (call_letter k ∷ (codes " " ++ (decimal n ++ codes ")")))

-- the line is the form f, whose numbers fit
pub record Writes (f : Plain) (line : List ℕ) : Type 0 where
  pub fits : Fits f
  pub is : written f ≡ line

-- the line is the form f and no other
pub record TheForm (f : Plain) (line : List ℕ) : Type 0 where
  pub writes : Writes f line
  pub only : (g : Plain) → Writes g line → g ≡ f

-- the line is of no form
abbrev pub NoForm : List ℕ → Type 0
NoForm line = (f : Plain) → Writes f line → ⊥

-- o is the form that the line is, or None where it is of no form
abbrev pub Reading : List ℕ → Option Form → Type 0
Reading line o = MatchOption o (NoForm line) (λ form. TheForm (plain form) line)

-- the line starts with these bytes
abbrev pub StartsWith : List ℕ → List ℕ → Type 0
StartsWith front line = (rest : List ℕ) × (line ≡ front ++ rest)

-- the text is n and then the bracket that ends a line
abbrev pub Last : ℕ → List ℕ → Type 0
Last n text = Number 64 text n (codes ")")

-- the text is no such number
abbrev pub NoLast : List ℕ → Type 0
NoLast text = (n : ℕ) → Last n text → ⊥

-- the text is the files and then the two brackets that end a line
pub record Lists (fs : List ℕ) (text : List ℕ) : Type 0 where
  pub fits : Files fs
  pub is : spaced fs ++ codes "))" ≡ text

-- the text is no such list
abbrev pub NoList : List ℕ → Type 0
NoList text = (fs : List ℕ) → Lists fs text → ⊥
