-- The lines as bits, and the waits of the line poller.
use Rattle.std.specs.Prelude.{◌≡◌, ℕ, ◌+◌, Bool, true, false, cond, not, ◌&&◌, ◌||◌, List, [], ◌∷◌, ◌++◌, None, bit_and, bit_or, bit_xor, slice_index_or, Some, refl}
use Rattle.std.proofs.Common.{sym, ◌∙◌, append-nil, arith}
use Rattle.std.proofs.lemmas.Bool.Decides.{nat_tests}
use Rattle.std.proofs.lemmas.Nat.Bits.{bit_at_or, bit_at_and, bit_at_xor, bit_at-lt}
use Rattle.std.proofs.lemmas.List.{map-id}
use Rattle.std.proofs.lemmas.Grind.{common_steps}
use Rattle.std.proofs.lemmas.List.FromFn.{filter_of_map_range_with_len_more}
use Rattle.std.specs.List.{range_with_len}
use Rattle.token.specs.Refusal.{done}
use Rattle.poller.specs.declared.entry.Entry.{Entry}
use Rattle.poller.specs.declared.entry.Event.{Event}
use Rattle.poller.specs.Line.{LineView, bit, due, due_by, passing, line_wait}
use Rattle.poller.specs.Meaning.{Answer, among}
use Rattle.poller.specs.Places.{place_of}
use Rattle.poller.specs.Register.{entry_of, changed}
use Rattle.poller.specs.Reports.{event_at, reported_once, Midst}
use Rattle.poller.proofs.Outcomes.{absent}
use Rattle.poller.proofs.Reporting.{entry_at, midst_entry, midst_more, unripe_none}

-- a line that was clear and is set now has risen
pub risen_bits : (r o n f : ℕ) → bit (bit_or r (bit_and (bit_xor o n) n)) f ≡ (bit r f || bit n f && not (bit o f))
risen_bits r o n f =
    let a = bit_at_or r (bit_and (bit_xor o n) n) f in
    let b = bit_at_and (bit_xor o n) n f in
    let c = bit_at_xor o n f in
    let x = bit_at-lt r f in
    let y = bit_at-lt o f in
    let z = bit_at-lt n f in
    grind (arith, nat_tests)

-- one file of a wait
module _ (es cur : List Entry) (fs : List ℕ) (vs : List Event) (lines risen f : ℕ) (un : among f fs ≡ false) (m : Midst es fs cur vs) where
  abbrev view : LineView
  view = record { entries = es; lines = lines; risen = risen }

  seen : due view f ≡ due_by (bit lines f) (bit risen f) (entry_of f cur)
  seen = rw (midst_entry es fs cur vs m f un) refl

  passes : due_by (bit lines f) (bit risen f) (entry_of f cur) ≡ false → Midst es (fs ++ cond (due view f) (f ∷ []) []) cur vs
  passes e = rw (seen ∙ e, append-nil) m

  pub line_none : None ≡ place_of f cur → Midst es (fs ++ cond (due view f) (f ∷ []) []) cur vs
  line_none p = passes (grind (arith, common_steps, unripe_none f cur (absent f cur p)))

  module _ (i : ℕ) (p : Some i ≡ place_of f cur) (y : Entry) (is : y ≡ slice_index_or cur i y) where
    pub line_passes : due_by (bit lines f) (bit risen f) (Some y) ≡ false → Midst es (fs ++ cond (due view f) (f ∷ []) []) cur vs
    line_passes e = passes (rw (entry_at cur i y is f p) e)

    pub line_tells : (cur' : List Entry) (vs' : List Event) → due_by (bit lines f) (bit risen f) (Some y) ≡ true → cur' ≡ changed f reported_once cur → vs' ≡ vs ++ event_at cur f
        → Midst es (fs ++ cond (due view f) (f ∷ []) []) cur' vs'
    line_tells cur' vs' e a b =
        let yes : due view f ≡ true = rw (seen, entry_at cur i y is f p) e in
        rw yes (midst_more es fs cur vs m f cur' vs' un a b)

pub passing_more : (p : ℕ → Bool) (n : ℕ) → passing p (n + 1) ≡ passing p n ++ cond (p n) (n ∷ []) []
unfolding passing
passing_more p n = rw (← map-id (range_with_len 0 (n + 1)), ← map-id (range_with_len 0 n)) (filter_of_map_range_with_len_more p (λ k. k) 0 n n (omega arith))

-- a wait begins, goes on by one line and ends
pub lines_none : (v : LineView) (vs : List Event) → vs ≡ [] → Midst v.entries (passing (due v) 0) v.entries vs
unfolding passing
lines_none v vs e = record { entries = sym (map-id v.entries); events = e }

pub lines_more : (v : LineView) (lines risen n : ℕ) (cur : List Entry) (vs : List Event) → lines ≡ v.lines → risen ≡ v.risen
    → Midst v.entries (passing (due v) n ++ cond (due (record { entries = v.entries; lines = lines; risen = risen }) n) (n ∷ []) []) cur vs
    → Midst v.entries (passing (due v) (n + 1)) cur vs
lines_more v lines risen n cur vs l r m = rw (passing_more (due v) n) (rw (l, r) at m)

pub lines_all : (v : LineView) (lines n : ℕ) (cur : List Entry) (vs : List Event) → n ≡ 64 → lines ≡ v.lines → Midst v.entries (passing (due v) n) cur vs
    → ◌≡◌ {A = Answer × List Event × LineView} (done tt, vs, record { entries = cur; lines = lines; risen = 0 }) (line_wait v)
lines_all v lines n cur vs e l m = let w = rw e at m in cc (w.entries, w.events, l)
