-- What the two pollers report is what every poller's waits may report. The laws of the pollers cite it.
use Rattle.std.specs.Prelude.{◌≡◌, ℕ, ◌<◌, ◌≤◌, Bool, true, false, cond, List, [], ◌∷◌, ◌++◌, map, Some, None, filter, fold, nat_eq, Option, ◌≢◌, refl}
use Rattle.std.specs.Cmp.{nat_eq_equiv, unsigned_Decides}
use Rattle.std.specs.Option.{option_map, option_to_list}
use Rattle.std.specs.List.{All, AllPairs, AllZip, IsDistinct, range_with_len}
use Rattle.std.proofs.Common.{sym, subst, inl, inr, arith}
use Rattle.std.proofs.lemmas.Bool.{false≢true, and_parts, ne_eqb}
use Rattle.std.proofs.lemmas.List.Elements.{All-nil, All-head, All-tail, All-push, All-filter, All-weaker, filter_passes}
use Rattle.std.proofs.lemmas.List.Folds.{list_any_none}
use Rattle.std.proofs.lemmas.List.FromFn.{get_or-range_with_len, length-range_with_len}
use Rattle.std.proofs.lemmas.Map.Keys.{IsDistinct-push}
use Rattle.std.proofs.lemmas.Map.Made.{IsDistinct-from_AllPairs}
use Rattle.std.proofs.lemmas.List.Kept.{AllPairs-filter}
use Rattle.poller.specs.declared.bench.Step.{Step}
use Rattle.poller.specs.declared.bench.Step.TheVariants.{Work, Fail, Interrupt}
use Rattle.poller.specs.declared.entry.Entry.{Entry}
use Rattle.poller.specs.declared.entry.Event.{Event}
use Rattle.poller.specs.Bench.{BenchView, once_more, reported, wait_by, bench_wait, step_of}
use Rattle.poller.specs.Line.{LineView, bit, awaited_at, due, passing, line_wait}
use Rattle.poller.specs.Meaning.{Answer, Reported, Tells, Waited, among, told}
use Rattle.poller.specs.Register.{entry_of}
use Rattle.poller.specs.Reports.{ripe, event_of, events_of}

-- the file may be reported
abbrev pub May : List Entry → ℕ → Type 0
May es f = ripe (entry_of f es) ≡ true

-- files that are reported: no file twice, and each may be
abbrev pub Good : List Entry → List ℕ → Type 0
Good es fs = IsDistinct nat_eq fs × All (May es) fs

pub tells : (es : List Entry) (fs : List ℕ) → All (May es) fs → AllZip (Tells es) fs (events_of es fs)
tells es [] a = tt
tells es (f ∷ fs) a = at (entry_of f es) refl (All-head (May es) f fs a) (tells es fs (All-tail (May es) f fs a))
  where
    at : (o : Option Entry) → entry_of f es ≡ o → ripe o ≡ true → AllZip (Tells es) fs (events_of es fs) → AllZip (Tells es) (f ∷ fs) (option_to_list (option_map event_of o) ++ events_of es fs)
    at None q r rest = absurd (false≢true r)
    at (Some e) q r rest =
        let w = and_parts e.armed e.interest.readable r in
        (record { entry = e; stands = q; armed = w.0; key = refl; reads = λ t. w.1; writes = λ t. absurd (false≢true t) }, rest)

pub reports : (es : List Entry) (fs : List ℕ) → Good es fs → Reported es (events_of es fs) (map (told fs) es)
reports es fs g = record { files = fs; apart = g.0; tell = tells es fs g.1; after = refl }

-- a wait of the bench
good_once : (es : List Entry) (fs : List ℕ) (f : ℕ) → Good es fs → Good es (once_more es fs f)
good_once es fs f g = at (among f fs) (ripe (entry_of f es)) refl refl
  where
    at : (a b : Bool) → among f fs ≡ a → ripe (entry_of f es) ≡ b → Good es (cond a fs (cond b (fs ++ f ∷ []) fs))
    at true b p q = g
    at false true p q = (IsDistinct-push nat_eq_equiv fs f g.0 p, All-push (May es) fs f g.1 q)
    at false false p q = g

good_all : (es : List Entry) (rs fs : List ℕ) → Good es fs → Good es (fold (once_more es) fs rs)
good_all es [] fs g = g
good_all es (f ∷ rs) fs g = good_all es rs (once_more es fs f) (good_once es fs f g)

good_none : (es : List Entry) → Good es []
unfolding IsDistinct
good_none es = (tt, All-nil (May es))

-- what a wait comes to is what every poller's waits may come to
pub bench_waits : (v v' : BenchView) (r : Answer) (vs : List Event) → ◌≡◌ {A = Answer × List Event × BenchView} (r, vs, v') (bench_wait v)
    → Waited v.entries r vs v'.entries
bench_waits v v' r vs e =
    subst (λ (o : Answer × List Event × BenchView). Waited v.entries o.0 o.1 o.2.entries) (sym e) (at (step_of v.steps))
  where
    at : (s : Step) → Waited v.entries (wait_by v s).0 (wait_by v s).1 (wait_by v s).2.entries
    at Work = reports v.entries (reported v.entries v.ready) (good_all v.entries v.ready [] (good_none v.entries))
    at (Fail c) = (refl, refl, inr (refl, refl))
    at Interrupt = (refl, refl, inl (refl, refl))

-- a wait over the lines: the files so far are below the next one
range_below : (n : ℕ) → All (λ (f : ℕ). f < n) (range_with_len 0 n)
range_below n k d h = let l = length-range_with_len 0 n in omega (arith, get_or-range_with_len 0 n k d (omega arith))

pub among_passing : (p : ℕ → Bool) (n g : ℕ) → n ≤ g → among g (passing p n) ≡ false
unfolding passing
among_passing p n g h =
    let other : (f : ℕ) → f < n → nat_eq g f ≡ false = λ f l. ne_eqb g f (λ e. omega arith) in
    list_any_none (nat_eq g) (filter p (range_with_len 0 n)) (All-weaker (λ f. f < n) (λ f. nat_eq g f ≡ false) other _ (All-filter p (λ f. f < n) (range_with_len 0 n) (range_below n)))

good_passing : (v : LineView) (n : ℕ) → Good v.entries (passing (due v) n)
unfolding passing
good_passing v n =
    let all = range_with_len 0 n in (
      IsDistinct-from_AllPairs unsigned_Decides _ (AllPairs-filter ◌≢◌ (due v) all rise),
      All-weaker (λ f. due v f ≡ true) (May v.entries) may _ (filter_passes (due v) all),
    )
  where
    rise : AllPairs ◌≢◌ (range_with_len 0 n)
    rise i j d a b e =
        let h = length-range_with_len 0 n in omega (arith, get_or-range_with_len 0 n i d (omega arith), get_or-range_with_len 0 n j d (omega arith))

    may : (f : ℕ) → due v f ≡ true → May v.entries f
    may f e = let o = entry_of f v.entries in (and_parts (bit v.lines f) (ripe o) (and_parts _ (awaited_at (bit v.risen f) o) e).0).1

pub line_waits : (v v' : LineView) (r : Answer) (vs : List Event) → ◌≡◌ {A = Answer × List Event × LineView} (r, vs, v') (line_wait v) → Waited v.entries r vs v'.entries
line_waits v v' r vs e =
    subst (λ (o : Answer × List Event × LineView). Waited v.entries o.0 o.1 o.2.entries) (sym e) (reports v.entries (passing (due v) 64) (good_passing v 64))
