-- Lemmas on lines: what a line of each form has after its letter.
use Rattle.std.proofs.Common.{◌≡◌, ℕ, ◌^◌, ◌<◌, List, [], ◌∷◌, ◌++◌, codes, decimal, sym, refl, subst, arith}
use Rattle.post_action.specs.declared.PostAction.{PostAction}
use Rattle.script.specs.Number.{Digit, Number, NoNumber}
use Rattle.script.specs.Line.{Plain, timer, generic, wait, call, Call, letter_of, call_letter, spaced, Writes, NoForm, Last, NoLast, Lists, NoList}
use Rattle.script.proofs.Reading.{wider, number_unique}

-- a space is no digit, and a bracket is none
pub space_stops : Digit 32 → ⊥
space_stops d = omega arith

pub bracket_stops : Digit 41 → ⊥
bracket_stops d = omega arith

pub no_number : (k : ℕ) (text : List ℕ) (n c : ℕ) (s : List ℕ) → NoNumber k text → n < 2 ^ k → (Digit c → ⊥) → decimal n ++ (c ∷ s) ≡ text → ⊥
no_number k text n c s h f d e = h n (c ∷ s) (record { reads = sym e; fits = f; stops = d })

pub after_number : (text : List ℕ) (m : ℕ) (r : List ℕ) → Number 64 text m r → (n c : ℕ) (s : List ℕ) → n < 2 ^ 64 → (Digit c → ⊥) → decimal n ++ (c ∷ s) ≡ text → (m ≡ n) × (r ≡ c ∷ s)
after_number text m r p n c s f d e = number_unique text m n r (c ∷ s) p (record { reads = sym e; fits = f; stops = d })

pub after_file : (text : List ℕ) (m : ℕ) (r : List ℕ) → Number 32 text m r → (n c : ℕ) (s : List ℕ) → n < 2 ^ 32 → (Digit c → ⊥) → decimal n ++ (c ∷ s) ≡ text → (m ≡ n) × (r ≡ c ∷ s)
after_file text m r p n c s f d e = after_number text m r (wider text m r p) n c s (omega arith) d e

-- a number that something else follows than the bracket alone
pub last_no_bracket : (text : List ℕ) (m : ℕ) (rest : List ℕ) → Number 64 text m rest → (rest ≡ 41 ∷ [] → ⊥) → NoLast text
last_no_bracket text m rest q h n p = h (number_unique text m n rest _ q p).1

-- (T d p)

pub record TimerLine (text : List ℕ) (g : Plain) : Type 0 where
  pub deadline : ℕ
  pub period : ℕ
  pub is : g ≡ timer deadline period
  pub deadline_fits : deadline < 2 ^ 64
  pub period_fits : period < 2 ^ 64
  pub reads : decimal deadline ++ (32 ∷ (decimal period ++ (41 ∷ []))) ≡ text

pub timer_line : (text : List ℕ) (g : Plain) → Writes g (codes "(T " ++ text) → TimerLine text g
timer_line text (timer d p) w =
    let e = w.is in
    record { deadline = d; period = p; is = refl; deadline_fits = w.fits.0; period_fits = w.fits.1; reads = cc }
timer_line text (generic f a) w = absurd (grind (arith, w.is))
timer_line text (wait c fs) w = absurd (grind (arith, w.is))
timer_line text (call k n) w = absurd (grind (arith, w.is))

pub timer_no_deadline : (text : List ℕ) → NoNumber 64 text → NoForm (codes "(T " ++ text)
timer_no_deadline text h g w =
    let v = timer_line text g w in
    no_number 64 text v.deadline 32 _ h v.deadline_fits space_stops v.reads

pub timer_no_space : (text : List ℕ) (m : ℕ) (rest : List ℕ) → Number 64 text m rest → ((s : List ℕ) → rest ≡ 32 ∷ s → ⊥) → NoForm (codes "(T " ++ text)
timer_no_space text m rest q h g w =
    let v = timer_line text g w in
    h _ (after_number text m rest q v.deadline 32 _ v.deadline_fits space_stops v.reads).1

pub timer_no_period : (text : List ℕ) (m : ℕ) (rest more : List ℕ) → Number 64 text m rest → rest ≡ 32 ∷ more → NoLast more → NoForm (codes "(T " ++ text)
timer_no_period text m rest more q s h g w =
    let v = timer_line text g w in
    let a = (after_number text m rest q v.deadline 32 _ v.deadline_fits space_stops v.reads).1 in
    let t : more ≡ decimal v.period ++ (41 ∷ []) = cc in
    h v.period (record { reads = t; fits = v.period_fits; stops = bracket_stops })

pub timer_read : (text : List ℕ) (m : ℕ) (rest more : List ℕ) (n : ℕ) → Number 64 text m rest → rest ≡ 32 ∷ more → Last n more → Writes (timer m n) (codes "(T " ++ text)
timer_read text m rest more n q s r =
    let a = q.reads in
    let b = r.reads in
    record { fits = (q.fits, r.fits); is = cc }

-- (G f a)

pub record GenericLine (text : List ℕ) (g : Plain) : Type 0 where
  pub file : ℕ
  pub action : PostAction
  pub is : g ≡ generic file action
  pub file_fits : file < 2 ^ 32
  pub reads : decimal file ++ (32 ∷ (letter_of action ∷ (41 ∷ []))) ≡ text

pub generic_line : (text : List ℕ) (g : Plain) → Writes g (codes "(G " ++ text) → GenericLine text g
generic_line text (timer d p) w = absurd (grind (arith, w.is))
generic_line text (generic f a) w =
    let e = w.is in
    record { file = f; action = a; is = refl; file_fits = w.fits; reads = cc }
generic_line text (wait c fs) w = absurd (grind (arith, w.is))
generic_line text (call k n) w = absurd (grind (arith, w.is))

pub generic_no_file : (text : List ℕ) → NoNumber 32 text → NoForm (codes "(G " ++ text)
generic_no_file text h g w =
    let v = generic_line text g w in
    no_number 32 text v.file 32 _ h v.file_fits space_stops v.reads

pub generic_no_end : (text : List ℕ) (m : ℕ) (rest : List ℕ) → Number 32 text m rest → ((l : ℕ) → rest ≡ 32 ∷ (l ∷ (41 ∷ [])) → ⊥) → NoForm (codes "(G " ++ text)
generic_no_end text m rest q h g w =
    let v = generic_line text g w in
    h _ (after_file text m rest q v.file 32 _ v.file_fits space_stops v.reads).1

pub generic_no_action : (text : List ℕ) (m : ℕ) (rest : List ℕ) (l : ℕ) → Number 32 text m rest → rest ≡ 32 ∷ (l ∷ (41 ∷ [])) → ((a : PostAction) → letter_of a ≡ l → ⊥) → NoForm (codes "(G " ++ text)
generic_no_action text m rest l q s h g w =
    let v = generic_line text g w in
    let t = (after_file text m rest q v.file 32 _ v.file_fits space_stops v.reads).1 in
    let z : letter_of v.action ≡ l = cc in
    h v.action z

pub generic_read : (text : List ℕ) (m : ℕ) (rest : List ℕ) (l : ℕ) (a : PostAction) → Number 32 text m rest → rest ≡ 32 ∷ (l ∷ (41 ∷ [])) → letter_of a ≡ l → Writes (generic m a) (codes "(G " ++ text)
generic_read text m rest l a q s h =
    let t = q.reads in
    record { fits = q.fits; is = cc }

-- (W c (f f ..))

pub record WaitLine (text : List ℕ) (g : Plain) : Type 0 where
  pub clock : ℕ
  pub files : List ℕ
  pub end : List ℕ
  pub is : g ≡ wait clock files
  pub clock_fits : clock < 2 ^ 64
  pub lists : Lists files end
  pub reads : decimal clock ++ (32 ∷ (40 ∷ end)) ≡ text

pub wait_line : (text : List ℕ) (g : Plain) → Writes g (codes "(W " ++ text) → WaitLine text g
wait_line text (timer d p) w = absurd (grind (arith, w.is))
wait_line text (generic f a) w = absurd (grind (arith, w.is))
wait_line text (wait c fs) w =
    let e = w.is in
    record {
      clock = c;
      files = fs;
      end = spaced fs ++ codes "))";
      is = refl;
      clock_fits = w.fits.0;
      lists = record { fits = w.fits.1; is = refl };
      reads = cc;
    }
wait_line text (call k n) w = absurd (grind (arith, w.is))

pub wait_no_open : (text : List ℕ) (m : ℕ) (rest : List ℕ) → Number 64 text m rest → ((s : List ℕ) → rest ≡ 32 ∷ (40 ∷ s) → ⊥) → NoForm (codes "(W " ++ text)
wait_no_open text m rest q h g w =
    let v = wait_line text g w in
    h v.end (after_number text m rest q v.clock 32 _ v.clock_fits space_stops v.reads).1

pub wait_no_clock : (text : List ℕ) → NoNumber 64 text → NoForm (codes "(W " ++ text)
wait_no_clock text h g w =
    let v = wait_line text g w in
    no_number 64 text v.clock 32 _ h v.clock_fits space_stops v.reads

pub wait_no_list : (text : List ℕ) (m : ℕ) (rest more : List ℕ) → Number 64 text m rest → rest ≡ 32 ∷ (40 ∷ more) → NoList more → NoForm (codes "(W " ++ text)
wait_no_list text m rest more q o h g w =
    let v = wait_line text g w in
    let t = (after_number text m rest q v.clock 32 _ v.clock_fits space_stops v.reads).1 in
    let z : v.end ≡ more = cc in
    h v.files (subst (Lists v.files) z v.lists)

pub wait_read : (text : List ℕ) (m : ℕ) (rest more fs : List ℕ) → Number 64 text m rest → rest ≡ 32 ∷ (40 ∷ more) → Lists fs more → Writes (wait m fs) (codes "(W " ++ text)
wait_read text m rest more fs q o l =
    let t = q.reads in
    let s = l.is in
    record { fits = (q.fits, l.fits); is = cc }

-- (E n), (U n), (D n) and (R n)

pub record CallLine (k : Call) (text : List ℕ) (g : Plain) : Type 0 where
  pub insert : ℕ
  pub is : g ≡ call k insert
  pub reads : Last insert text

same_call : (j k : Call) → call_letter j ≡ call_letter k → j ≡ k
same_call j k e = grind arith

pub call_line : (k : Call) (text : List ℕ) (g : Plain) → Writes g (codes "(" ++ (call_letter k ∷ (codes " " ++ text))) → CallLine k text g
call_line k text (timer d p) w = absurd (grind (arith, w.is))
call_line k text (generic f a) w = absurd (grind (arith, w.is))
call_line k text (wait c fs) w = absurd (grind (arith, w.is))
call_line k text (call j n) w =
    let e = w.is in
    let z : call_letter j ≡ call_letter k = cc in
    let s = same_call j k z in
    let t : text ≡ decimal n ++ (41 ∷ []) = cc in
    record { insert = n; is = cc; reads = record { reads = t; fits = w.fits; stops = bracket_stops } }

pub call_no_insert : (k : Call) (text : List ℕ) → NoLast text → NoForm (codes "(" ++ (call_letter k ∷ (codes " " ++ text)))
call_no_insert k text h g w = let v = call_line k text g w in h v.insert v.reads

pub call_read : (k : Call) (text : List ℕ) (n : ℕ) → Last n text → Writes (call k n) (codes "(" ++ (call_letter k ∷ (codes " " ++ text)))
call_read k text n q =
    let t = q.reads in
    record { fits = q.fits; is = cc }
