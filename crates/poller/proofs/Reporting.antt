-- The steps of a wait, and why what it reports is as it should be.
use Rattle.std.specs.Prelude.{◌≡◌, ℕ, ◌+◌, ◌<◌, Bool, true, false, cond, List, [], ◌∷◌, ◌++◌, map, length, Some, count_by, ◌≢◌, slice_index_or, slice_set, refl}
use Rattle.std.proofs.Common.{◌∙◌, arith, length-set}
use Rattle.std.proofs.lemmas.List.Sums.{sum_by-set, count_by-le-length}
use Rattle.poller.specs.declared.entry.Entry.{Entry}
use Rattle.poller.specs.declared.entry.Event.{Event}
use Rattle.poller.specs.declared.entry.Mode.TheVariants.{OneShot}
use Rattle.poller.specs.Meaning.{among, told}
use Rattle.poller.specs.Places.{place_of}
use Rattle.poller.specs.Register.{entry_of, Distinct, holds, changed, disarmed}
use Rattle.std.proofs.lemmas.Grind.{common_steps}
use Rattle.poller.specs.Reports.{ripe, event_of, event_at, reported_once, Midst, Marks}
use Rattle.poller.proofs.Standing.{entry_found, found_file, written, place_at, place_map, holds_map, distinct_map}

-- the entry at a place that was found
module _ (es : List Entry) (i : ℕ) (y : Entry) (is : y ≡ slice_index_or es i y) (f : ℕ) (p : Some i ≡ place_of f es) where
  pub entry_at : entry_of f es ≡ Some y
  entry_at = grind (arith, entry_found f y es i p)

  pub event_at_lem : event_of y ∷ [] ≡ event_at es f
  event_at_lem = grind (arith, common_steps, entry_at)

  pub told_one_shot : Distinct es → (x : Entry) → x ≡ slice_index_or es i x → x.mode ≡ OneShot → slice_set es i (disarmed y) ≡ changed f reported_once es
  told_one_shot d x ix q = grind (arith, common_steps, written f reported_once y es i d p, found_file f y es i p)

  pub told_other : Distinct es → (y.mode ≢ OneShot) → es ≡ changed f reported_once es
  told_other d n = grind (arith, common_steps, written f reported_once y es i d p, found_file f y es i p)

told_file : (fs : List ℕ) (e : Entry) → (told fs e).file ≡ e.file
told_file fs e = grind (arith, common_steps)

-- one more entry is reported
told_more : (fs : List ℕ) (f : ℕ) → among f fs ≡ false → (es : List Entry) → changed f reported_once (map (told fs) es) ≡ map (told (fs ++ f ∷ [])) es
told_more fs f un [] = refl
told_more fs f un (e ∷ es) = grind (arith, common_steps, told_file fs e, told_more fs f un es)

entry_kept : (fs : List ℕ) (f : ℕ) → among f fs ≡ false → (es : List Entry) → entry_of f (map (told fs) es) ≡ entry_of f es
entry_kept fs f un [] = refl
entry_kept fs f un (e ∷ es) = grind (arith, common_steps, told_file fs e, entry_kept fs f un es)

module _ (es : List Entry) (fs : List ℕ) (cur : List Entry) (vs : List Event) (m : Midst es fs cur vs) (f : ℕ) where
  pub midst_apart : Distinct cur → Distinct es
  midst_apart d = distinct_map (told fs) (told_file fs) es (rw m.entries at d)

  pub midst_place : place_of f cur ≡ place_of f es
  midst_place = rw m.entries (place_map (told fs) (told_file fs) f es)

  pub midst_entry : among f fs ≡ false → entry_of f cur ≡ entry_of f es
  midst_entry un = rw m.entries (entry_kept fs f un es)

  pub midst_holds : holds f cur ≡ holds f es
  midst_holds = rw m.entries (holds_map (told fs) (told_file fs) f es)

  pub midst_more : (cur' : List Entry) (vs' : List Event) → among f fs ≡ false → cur' ≡ changed f reported_once cur → vs' ≡ vs ++ event_at cur f
      → Midst es (fs ++ f ∷ []) cur' vs'
  midst_more cur' vs' un a b = record { entries = a ∙ rw m.entries (told_more fs f un es); events = grind (arith, common_steps, m.events, midst_entry un) }

-- no entry of the file stands
pub unripe_none : (f : ℕ) (es : List Entry) → holds f es ≡ false → ripe (entry_of f es) ≡ false
unripe_none f es h = grind (arith, common_steps)

-- marks by place
module _ (es : List Entry) (fs : List ℕ) (ms : List Bool) (k : Marks es fs ms) (f i : ℕ) (d : Distinct es) (p : Some i ≡ place_of f es) where
  pub mark_at : (x : Entry) (b : Bool) → slice_index_or ms i b ≡ among f fs
  mark_at x b = grind (arith, common_steps, found_file f x es i p, k.each i x b)

  pub marks_more : i < length ms → Marks es (fs ++ f ∷ []) (slice_set ms i true)
  marks_more in' = record { each = λ j x b h. grind (arith, common_steps, found_file f x es i p, k.each j x b h, place_at x es j d h) }

-- a mark that is not set leaves one to set
pub marks_count : (ms : List Bool) (i : ℕ) (d : Bool) → i < length ms → slice_index_or ms i d ≡ false → count_by (λ b. b) (slice_set ms i true) ≡ count_by (λ b. b) ms + 1
marks_count ms i d lt e = grind (arith, common_steps, sum_by-set (λ (b : Bool). cond b 1 0) ms i true d lt)

pub marks_room : (ms : List Bool) (i : ℕ) (d : Bool) → i < length ms → slice_index_or ms i d ≡ false → count_by (λ b. b) ms < length ms
marks_room ms i d lt e = omega (arith, marks_count ms i d lt e, count_by-le-length (λ (b : Bool). b) (slice_set ms i true), length-set ms i true)

-- what the report of one entry stands on
pub ruleset telling = (told_one_shot, told_other, event_at_lem)

-- and the count of the marks
pub ruleset marking_one = (marks_count, marks_room)
