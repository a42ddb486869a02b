-- Lemmas on numbers as text.
use Rattle.std.proofs.Common.{◌≡◌, ℕ, ◌+◌, ◌-◌, ◌*◌, ◌^◌, ◌<◌, ◌≤◌, ◌⊎◌, List, [], ◌∷◌, ◌++◌, length, get_or, decimal, sym, refl, ap, ◌∙◌, subst, ⊎_elim, arith, rules}
use Rattle.std.specs.List.{fold}
use Rattle.std.proofs.lemmas.Str.Parse.{IsNumeralModel, numerals_by_fold, tells_by_index}
use Rattle.std.proofs.lemmas.List.{length-append}
use Rattle.std.proofs.lemmas.Fmt.{digits_decimal, digits_value-decimal, decimal-digits_value, decimal_nonempty, first_decimal, decimal_digit, decimal_injective}
use Rattle.std.proofs.lemmas.Bool.{cases_lt}
use Rattle.script.specs.Number.{Digits, Stops, Split, Number, NoNumber, value}

-- `Digits` and `value` are the library's words
pub own : IsNumeralModel Digits value
own = numerals_by_fold Digits tells_by_index (fold (λ n c. n * 10 + (c - 48))) (search rules)

-- such a text splits in one way
pub cut : (ds es r s : List ℕ) → Digits ds → Digits es → Stops r → Stops s → ds ++ r ≡ es ++ s → (ds ≡ es) × (r ≡ s)
cut [] [] r s p q u v e = (refl, e)
cut [] (y ∷ es) r s p q u v e = absurd (subst Stops e u (tells_by_index.parts y es q).0)
cut (x ∷ ds) [] r s p q u v e = absurd (subst Stops (sym e) v (tells_by_index.parts x ds p).0)
cut (x ∷ ds) (y ∷ es) r s p q u v e =
    let h : x ≡ y = cc in
    let t : ds ++ r ≡ es ++ s = cc in
    let m = cut ds es r s (tells_by_index.parts x ds p).1 (tells_by_index.parts y es q).1 u v t in
    let a : ds ≡ es = m.0 in
    (cc, m.1)

-- what a number's text is, where the text splits
pub split_number : (text ds rest : List ℕ) → Split text ds rest → (n : ℕ) (r : List ℕ) → Number 64 text n r → (decimal n ≡ ds) × (r ≡ rest)
split_number text ds rest p n r q =
    cut (decimal n) ds r rest (digits_decimal own n q.fits) p.digits q.stops p.stops (sym q.reads ∙ p.whole)

-- no digit, or a zero in front of others, is no number
pub refused_form : (text ds rest : List ℕ) → Split text ds rest → (length ds < 1) ⊎ ((1 < length ds) × (get_or ds 0 0 ≡ 48)) → NoNumber 64 text
refused_form text ds rest p w n r q =
    let e : decimal n ≡ ds = (split_number text ds rest p n r q).0 in
    ⊎_elim
    (λ (l : length ds < 1). omega (arith, decimal_nonempty n q.fits, ap length e))
    (λ (l : (1 < length ds) × (get_or ds 0 0 ≡ 48)).
    ⊎_elim
    (λ (z : 0 < n). omega (arith, first_decimal n z q.fits, ap (λ xs. get_or xs 0 0) e, l.1))
    (λ (z : n ≤ 0). let small : n < 10 = omega arith in omega (arith, ap length (sym (decimal_digit n small) ∙ e), l.0))
    (cases_lt 0 n))
    w

-- digits that do not fit 64 bits are no number
pub refused_large : (text ds rest : List ℕ) → Split text ds rest → (value ds < 2 ^ 64 → ⊥) → NoNumber 64 text
refused_large text ds rest p large n r q =
    let e : decimal n ≡ ds = (split_number text ds rest p n r q).0 in
    let v : value (decimal n) ≡ n = digits_value-decimal own n q.fits in
    large (rw (← e, v) q.fits)

-- the number that other digits write
pub number_read : (text ds rest : List ℕ) → Split text ds rest → (n : ℕ) → n ≡ value ds → value ds < 2 ^ 64 → 0 < length ds → (get_or ds 0 0 ≡ 48 → length ds ≡ 1) → Number 64 text n rest
number_read text ds rest p n is f some lead =
    let e : decimal (value ds) ≡ ds = decimal-digits_value own ds p.digits some lead f in
    let d : decimal n ≡ ds = ap decimal is ∙ e in
    record { reads = rw d p.whole; fits = rw is f; stops = p.stops }

-- a number of 32 bits has at most 64
pub wider : (text : List ℕ) (n : ℕ) (rest : List ℕ) → Number 32 text n rest → Number 64 text n rest
wider text n rest q = record { reads = q.reads; fits = omega (arith, q.fits); stops = q.stops }

-- a text begins with one number
pub number_unique : (text : List ℕ) (m n : ℕ) (r s : List ℕ) → Number 64 text m r → Number 64 text n s → (m ≡ n) × (r ≡ s)
number_unique text m n r s p q =
    let e = cut (decimal m) (decimal n) r s (digits_decimal own m p.fits) (digits_decimal own n q.fits) p.stops q.stops (sym p.reads ∙ q.reads) in
    (decimal_injective m n p.fits q.fits e.0, e.1)

pub refused_file : (text : List ℕ) (m : ℕ) (r : List ℕ) → Number 64 text m r → (m < 2 ^ 32 → ⊥) → NoNumber 32 text
refused_file text m r p large n s q =
    large (rw (number_unique text m n r s p (wider text n s q)).0 q.fits)

pub rest_shorter : (text : List ℕ) (n : ℕ) (rest : List ℕ) → Number 32 text n rest → length rest < length text
rest_shorter text n rest q =
    let q' = wider text n rest q in
    omega (arith, ap length q.reads ∙ length-append (decimal n) rest, decimal_nonempty n q'.fits)
