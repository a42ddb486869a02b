-- Lemmas on steps as text.
use Rattle.std.proofs.Common.{◌≡◌, ℕ, ◌^◌, ◌<◌, List, [], ◌∷◌, ◌++◌, length, decimal, sym, refl, ap, ◌∙◌, subst, arith}
use Rattle.std.proofs.lemmas.Str.Parse.{tells_by_index}
use Rattle.std.proofs.lemmas.Fmt.{digits_decimal, decimal_nonempty}
use Rattle.poller.specs.declared.bench.Step.{Step}
use Rattle.poller.specs.declared.bench.Step.TheVariants.{Work, Fail, Interrupt}
use Rattle.script.specs.Number.{Digit, Digits, Number, NoNumber}
use Rattle.script.proofs.Reading.{own, wider, number_unique, refused_file, rest_shorter}
use Rattle.replay.specs.Plan.{step_text, Begins, NoStep}

digit_first : (ds rest : List ℕ) → Digits ds → 0 < length ds → (c : ℕ) (s : List ℕ) → ds ++ rest ≡ c ∷ s → Digit c
digit_first [] rest p l c s e = absurd (omega (arith, l))
digit_first (x ∷ ds) rest p l c s e =
    let h : x ≡ c = cc in
    subst Digit h (tells_by_index.parts x ds p).0

-- a text that begins with another character begins with no code
pub no_code : (c : ℕ) (text s : List ℕ) → (Digit c → ⊥) → text ≡ c ∷ s → NoNumber 32 text
no_code c text s d e n rest q =
    let w = wider text n rest q in
    d (digit_first (decimal n) rest (digits_decimal own n w.fits) (decimal_nonempty n w.fits) c s (sym q.reads ∙ e))

w_stops : Digit 119 → ⊥
w_stops d = omega arith

i_stops : Digit 105 → ⊥
i_stops d = omega arith

-- a text begins with one step
pub step_unique : (text : List ℕ) (s t : Step) (r q : List ℕ) → Begins s text r → Begins t text q → (s ≡ t) × (r ≡ q)
step_unique text Work Work r q a b = (refl, cc)
step_unique text Work Interrupt r q a b = absurd (grind (arith, a, b))
step_unique text Work (Fail n) r q a b = absurd (no_code 119 text r w_stops a n q b)
step_unique text Interrupt Work r q a b = absurd (grind (arith, a, b))
step_unique text Interrupt Interrupt r q a b = (refl, cc)
step_unique text Interrupt (Fail n) r q a b = absurd (no_code 105 text r i_stops a n q b)
step_unique text (Fail m) Work r q a b = absurd (no_code 119 text q w_stops b m r a)
step_unique text (Fail m) Interrupt r q a b = absurd (no_code 105 text q i_stops b m r a)
step_unique text (Fail m) (Fail n) r q a b =
    let u = number_unique text m n r q (wider text m r a) (wider text n q b) in
    let e = u.0 in
    (cc, u.1)

pub begins_text : (s : Step) (text rest : List ℕ) → Begins s text rest → text ≡ step_text s ++ rest
begins_text Work text rest a = a
begins_text Interrupt text rest a = a
begins_text (Fail n) text rest a = a.reads

pub step_shorter : (s : Step) (text rest : List ℕ) → Begins s text rest → length rest < length text
step_shorter Work text rest a = omega (arith, ap length a)
step_shorter Interrupt text rest a = omega (arith, ap length a)
step_shorter (Fail n) text rest a = rest_shorter text n rest a

-- neither letter, and a number of more than 32 bits
pub large_number : (text : List ℕ) → ((s : List ℕ) → text ≡ 119 ∷ s → ⊥) → ((s : List ℕ) → text ≡ 105 ∷ s → ⊥) → (m : ℕ) (r : List ℕ) → Number 64 text m r → (m < 2 ^ 32 → ⊥) → NoStep text
large_number text w i m r q large Work rest a = w rest a
large_number text w i m r q large Interrupt rest a = i rest a
large_number text w i m r q large (Fail n) rest a = refused_file text m r q large n rest a
