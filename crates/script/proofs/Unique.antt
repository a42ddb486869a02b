-- A line is of one form.
use Rattle.std.proofs.Common.{◌≡◌, ℕ, ◌^◌, ◌<◌, List, [], ◌∷◌, ◌++◌, length, codes, decimal, sym, refl, ap, ◌∙◌, arith}
use Rattle.std.proofs.lemmas.Fmt.{digits_decimal, decimal_nonempty, decimal_injective}
use Rattle.post_action.specs.declared.PostAction.{PostAction}
use Rattle.script.specs.Number.{Digit}
use Rattle.script.specs.Line.{Plain, timer, generic, wait, call, letter_of, Files, spaced, spaced_on, Lists, Writes, TheForm}
use Rattle.script.proofs.Reading.{own, cut, wider, number_unique}
use Rattle.script.proofs.Lines.{space_stops, bracket_stops, timer_line, generic_line, wait_line, call_line}
use Rattle.script.proofs.Files.{number_first}

-- a number and what ends it can be told
same_number : (m n : ℕ) (c : ℕ) (r s : List ℕ) → m < 2 ^ 64 → n < 2 ^ 64 → (Digit c → ⊥) → decimal m ++ (c ∷ r) ≡ decimal n ++ (c ∷ s) → (m ≡ n) × (r ≡ s)
same_number m n c r s f g d e =
    let p = cut (decimal m) (decimal n) (c ∷ r) (c ∷ s) (digits_decimal own m f) (digits_decimal own n g) d d e in
    let t = p.1 in
    (decimal_injective m n f g p.0, cc)

same_action : (a b : PostAction) → letter_of a ≡ letter_of b → a ≡ b
same_action a b e = grind arith

-- brackets are no list of one file or more
brackets_none : (g : ℕ) (gs : List ℕ) → Lists (g ∷ gs) (41 ∷ (41 ∷ [])) → ⊥
brackets_none g gs l =
    let q = wider _ g _ (number_first (41 ∷ (41 ∷ [])) g gs l) in
    let p = cut [] (decimal g) (41 ∷ (41 ∷ [])) _ (λ k h. absurd (omega arith)) (digits_decimal own g q.fits) bracket_stops q.stops q.reads in
    omega (arith, ap length p.0, decimal_nonempty g q.fits)

same_first : (f g : ℕ) (fs gs text : List ℕ) → Lists (f ∷ fs) text → Lists (g ∷ gs) text → (f ≡ g) × (spaced_on fs ++ codes "))" ≡ spaced_on gs ++ codes "))")
same_first f g fs gs text l k =
    number_unique text f g _ _ (wider text f _ (number_first text f fs l)) (wider text g _ (number_first text g gs k))

same_on : (fs gs : List ℕ) → Files fs → Files gs → spaced_on fs ++ codes "))" ≡ spaced_on gs ++ codes "))" → fs ≡ gs
same_on [] [] p q e = refl
same_on [] (g ∷ gs) p q e = absurd (grind arith)
same_on (f ∷ fs) [] p q e = absurd (grind arith)
same_on (f ∷ fs) (g ∷ gs) p q e =
    let t : (decimal f ++ spaced_on fs) ++ codes "))" ≡ (decimal g ++ spaced_on gs) ++ codes "))" = cc in
    let s = same_first f g fs gs _ (record { fits = p; is = t }) (record { fits = q; is = refl }) in
    let a = s.0 in
    let b = same_on fs gs p.1 q.1 s.1 in
    cc

same_files : (fs gs text : List ℕ) → Lists fs text → Lists gs text → fs ≡ gs
same_files [] [] text l k = refl
same_files [] (g ∷ gs) text l k = absurd (brackets_none g gs (record { fits = k.fits; is = k.is ∙ sym l.is }))
same_files (f ∷ fs) [] text l k = absurd (brackets_none f fs (record { fits = l.fits; is = l.is ∙ sym k.is }))
same_files (f ∷ fs) (g ∷ gs) text l k =
    let s = same_first f g fs gs text l k in
    let a = s.0 in
    let b = same_on fs gs l.fits.1 k.fits.1 s.1 in
    cc

-- the form f of the line is the only one
one_form : (f : Plain) (line : List ℕ) → Writes f line → (g : Plain) → Writes g line → g ≡ f
one_form (timer d p) line w g x =
    let v = timer_line _ g (record { fits = x.fits; is = x.is ∙ sym w.is }) in
    let m = same_number v.deadline d 32 _ _ v.deadline_fits w.fits.0 space_stops v.reads in
    let n = same_number v.period p 41 [] [] v.period_fits w.fits.1 bracket_stops m.1 in
    let a = m.0 in
    let b = n.0 in
    let e = v.is in
    cc
one_form (generic f a) line w g x =
    let v = generic_line _ g (record { fits = x.fits; is = x.is ∙ sym w.is }) in
    let m = same_number v.file f 32 _ _ (omega (arith, v.file_fits)) (omega (arith, w.fits)) space_stops v.reads in
    let t = m.1 in
    let z : letter_of v.action ≡ letter_of a = cc in
    let b = m.0 in
    let c = same_action v.action a z in
    let e = v.is in
    cc
one_form (wait c fs) line w g x =
    let v = wait_line _ g (record { fits = x.fits; is = x.is ∙ sym w.is }) in
    let m = same_number v.clock c 32 _ _ v.clock_fits w.fits.0 space_stops v.reads in
    let t = m.1 in
    let z : v.end ≡ spaced fs ++ codes "))" = cc in
    let a = m.0 in
    let b = same_files v.files fs v.end v.lists (record { fits = w.fits.1; is = sym z }) in
    let e = v.is in
    cc
one_form (call k n) line w g x =
    let v = call_line k (decimal n ++ codes ")") g (record { fits = x.fits; is = x.is ∙ sym w.is }) in
    let m = same_number v.insert n 41 [] [] v.reads.fits w.fits bracket_stops (sym v.reads.reads) in
    let a = m.0 in
    let e = v.is in
    cc

pub the_form : (f : Plain) (line : List ℕ) → Writes f line → TheForm f line
the_form f line w = record { writes = w; only = one_form f line w }
