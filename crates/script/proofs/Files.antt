-- Lemmas on the list of files: what the loop that reads it keeps.
use Rattle.std.proofs.Common.{◌≡◌, ℕ, List, [], ◌∷◌, ◌++◌, codes, decimal, sym, ◌∙◌, append_assoc, arith}
use Rattle.script.specs.Number.{Stops, Number, NoNumber}
use Rattle.script.specs.Line.{Files, spaced_on, Lists, NoList}
use Rattle.script.proofs.Reading.{wider, number_unique}
use Rattle.script.proofs.Lines.{space_stops, bracket_stops}

-- the text is one file or more, and the brackets
pub record SomeFiles (text : List ℕ) : Type 0 where
  pub first : ℕ
  pub others : List ℕ
  pub lists : Lists (first ∷ others) text

-- with the files fs read and the rest to come, the text is a list just where the rest is one of a file or more
pub record Progress (text rest fs : List ℕ) : Type 0 where
  pub forth : (h : ℕ) (hs : List ℕ) → Lists (h ∷ hs) rest → Lists (fs ++ (h ∷ hs)) text
  pub back : (gs : List ℕ) → Lists gs text → SomeFiles rest

pub lists_none : (text : List ℕ) → text ≡ 41 ∷ (41 ∷ []) → Lists [] text
lists_none text e = record { fits = tt; is = sym e }

on_stops : (hs : List ℕ) → Stops (spaced_on hs ++ codes "))")
on_stops [] = bracket_stops
on_stops (h ∷ hs) = space_stops

-- a list of one file or more is a number, and then the others
pub number_first : (text : List ℕ) (h : ℕ) (hs : List ℕ) → Lists (h ∷ hs) text → Number 32 text h (spaced_on hs ++ codes "))")
number_first text h hs l =
    record { reads = sym l.is ∙ append_assoc (decimal h) (spaced_on hs) (codes "))"); fits = l.fits.0; stops = on_stops hs }

back_begin : (text : List ℕ) → (text ≡ 41 ∷ (41 ∷ []) → ⊥) → (gs : List ℕ) → Lists gs text → SomeFiles text
back_begin text some [] l = absurd (some (sym l.is))
back_begin text some (g ∷ gs) l = record { first = g; others = gs; lists = l }

-- nothing is read yet
pub begin : (text fs : List ℕ) → fs ≡ [] → (text ≡ 41 ∷ (41 ∷ []) → ⊥) → Progress text text fs
begin text fs e some =
    record { forth = λ h hs l. rw e l; back = back_begin text some }

-- what stands after the first file
after_first : (rest : List ℕ) (f : ℕ) (after : List ℕ) → Number 32 rest f after → (s : SomeFiles rest) → after ≡ spaced_on s.others ++ codes "))"
after_first rest f after q s =
    (number_unique rest f s.first after (spaced_on s.others ++ codes "))") (wider rest f after q)
    (wider rest s.first _ (number_first rest s.first s.others s.lists))).1

-- a file, then a space
back_step : (after more : List ℕ) → after ≡ 32 ∷ more → (hs : List ℕ) → Files hs → after ≡ spaced_on hs ++ codes "))" → SomeFiles more
back_step after more e [] fit is = absurd (grind arith)
back_step after more e (h ∷ hs) fit is =
    let t : (decimal h ++ spaced_on hs) ++ codes "))" ≡ more = cc in
    record { first = h; others = hs; lists = record { fits = fit; is = t } }

forth_step : (rest : List ℕ) (f : ℕ) (after more : List ℕ) → Number 32 rest f after → after ≡ 32 ∷ more → (h : ℕ) (hs : List ℕ) → Lists (h ∷ hs) more → Lists (f ∷ (h ∷ hs)) rest
forth_step rest f after more q e h hs l =
    let a = append_assoc (decimal f) (spaced_on (h ∷ hs)) (codes "))") in
    let b = q.reads in
    let d = l.is in
    record { fits = (q.fits, l.fits); is = cc }

pub step : (text rest fs : List ℕ) (f : ℕ) (after more gs : List ℕ) → Progress text rest fs → Number 32 rest f after → after ≡ 32 ∷ more → gs ≡ fs ++ (f ∷ []) → Progress text more gs
step text rest fs f after more gs p q e g =
    record {
      forth = λ h hs l. rw (g, append_assoc fs (f ∷ []) (h ∷ hs)) (p.forth f (h ∷ hs) (forth_step rest f after more q e h hs l));
      back = λ ks l. let s = p.back ks l in back_step after more e s.others s.lists.fits.1 (after_first rest f after q s);
    }

-- a file, then the brackets
pub finish : (text rest fs : List ℕ) (f : ℕ) (after gs : List ℕ) → Progress text rest fs → Number 32 rest f after → after ≡ 41 ∷ (41 ∷ []) → gs ≡ fs ++ (f ∷ []) → Lists gs text
finish text rest fs f after gs p q e g =
    let a = append_assoc (decimal f) [] (codes "))") in
    let b = q.reads in
    rw g (p.forth f [] (record { fits = (q.fits, tt); is = cc }))

-- no file
pub refused_none : (text rest fs : List ℕ) → Progress text rest fs → NoNumber 32 rest → NoList text
refused_none text rest fs p h gs l =
    let s = p.back gs l in h s.first _ (number_first rest s.first s.others s.lists)

not_on : (after : List ℕ) → ((s : List ℕ) → after ≡ 32 ∷ s → ⊥) → (after ≡ 41 ∷ (41 ∷ []) → ⊥) → (hs : List ℕ) → after ≡ spaced_on hs ++ codes "))" → ⊥
not_on after a b [] e = b e
not_on after a b (h ∷ hs) e = a _ e

-- a file, then neither
pub refused_after : (text rest fs : List ℕ) (f : ℕ) (after : List ℕ) → Progress text rest fs → Number 32 rest f after → ((s : List ℕ) → after ≡ 32 ∷ s → ⊥) → (after ≡ 41 ∷ (41 ∷ []) → ⊥) → NoList text
refused_after text rest fs f after p q a b gs l =
    let s = p.back gs l in not_on after a b s.others (after_first rest f after q s)
