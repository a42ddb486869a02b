-- The waits of the bench's poller.
use Rattle.std.specs.Prelude.{◌≡◌, ℕ, ◌+◌, ◌<◌, ◌≤◌, Bool, true, false, List, [], ◌∷◌, ◌++◌, length, get_or, take, replicate, Some, None, slice_index_or, slice_set}
use Rattle.std.proofs.Common.{sym, subst, ◌∙◌, arith}
use Rattle.std.proofs.lemmas.List.{map-id, get_or-replicate, take_all}
use Rattle.std.proofs.lemmas.List.Sums.{fold_more}
use Rattle.poller.specs.declared.entry.Entry.{Entry}
use Rattle.poller.specs.declared.entry.Event.{Event}
use Rattle.poller.specs.Bench.{once_more, reported}
use Rattle.poller.specs.Meaning.{among}
use Rattle.poller.specs.Places.{place_of}
use Rattle.poller.specs.Register.{Distinct, changed}
use Rattle.poller.specs.Reports.{ripe, event_at, reported_once, Midst, Marks}
use Rattle.poller.proofs.Outcomes.{absent}
use Rattle.poller.proofs.Reporting.{entry_at, midst_apart, midst_place, midst_entry, midst_holds, midst_more, unripe_none, mark_at, marks_more}

-- where a wait stands: its entries, events and marks
abbrev pub Stands : List Entry → List ℕ → List Entry → List Event → List Bool → Type 0
Stands es fs cur vs ms = Midst es fs cur vs × Marks es fs ms

module _ (cur : List Entry) (vs : List Event) (ms : List Bool) (f : ℕ) (es : List Entry) (fs : List ℕ) (m : Midst es fs cur vs) (k : Marks es fs ms) where
  stay : once_more es fs f ≡ fs → Stands es (once_more es fs f) cur vs ms
  stay e = rw e (m, k)

  pub stays_none : None ≡ place_of f cur → Stands es (once_more es fs f) cur vs ms
  stays_none p = stay (grind (arith, unripe_none f es, midst_holds es fs cur vs m f, absent f cur p))

  module _ (i : ℕ) (b : Bool) (d : Distinct cur) (p : Some i ≡ place_of f cur) (y : Entry) (is : y ≡ slice_index_or cur i y) where
    here : Some i ≡ place_of f es
    here = p ∙ midst_place es fs cur vs m f

    mark : get_or ms i b ≡ among f fs
    mark = mark_at es fs ms k f i (midst_apart es fs cur vs m f d) here y b

    pub stays_told : get_or ms i b ≡ true → Stands es (once_more es fs f) cur vs ms
    stays_told t = stay (grind (arith, mark))

    pub stays_unripe : get_or ms i b ≡ false → ripe (Some y) ≡ false → Stands es (once_more es fs f) cur vs ms
    stays_unripe u r = stay (grind (arith, mark, midst_entry es fs cur vs m f, entry_at cur i y is f p))

    pub goes_on : (cur' : List Entry) (vs' : List Event) → i < length ms → get_or ms i b ≡ false → ripe (Some y) ≡ true
        → cur' ≡ changed f reported_once cur → vs' ≡ vs ++ event_at cur f → Stands es (once_more es fs f) cur' vs' (slice_set ms i true)
    goes_on cur' vs' in' u r a e =
        let more : once_more es fs f ≡ fs ++ f ∷ [] = grind (arith, mark, midst_entry es fs cur vs m f, entry_at cur i y is f p) in
        rw more (midst_more es fs cur vs m f cur' vs' (sym mark ∙ u) a e, marks_more es fs ms k f i (midst_apart es fs cur vs m f d) here in')

-- a wait begins, goes on by one file and ends
pub stands_none : (es : List Entry) (n : ℕ) (vs : List Event) → length es ≤ n → vs ≡ [] → Stands es [] es vs (replicate n false)
stands_none es n vs le e = (record { entries = sym (map-id es); events = e }, record { each = λ i d b lt. get_or-replicate n i false b (omega arith) })

pub stands_more : (es : List Entry) (ready : List ℕ) (i d : ℕ) (cur : List Entry) (vs : List Event) (ms : List Bool) → i < length ready
    → Stands es (once_more es (reported es (take i ready)) (slice_index_or ready i d)) cur vs ms → Stands es (reported es (take (i + 1) ready)) cur vs ms
stands_more es ready i d cur vs ms lt s = subst (λ (gs : List ℕ). Stands es gs cur vs ms) (sym (fold_more (once_more es) [] ready i d lt)) s

pub stands_all : (es : List Entry) (ready : List ℕ) (i : ℕ) (cur : List Entry) (vs : List Event) (ms : List Bool) → length ready ≤ i
    → Stands es (reported es (take i ready)) cur vs ms → Midst es (reported es ready) cur vs
stands_all es ready i cur vs ms le s = subst (λ (l : List ℕ). Midst es (reported es l) cur vs) (take_all i ready le) s.0
