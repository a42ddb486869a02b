-- What a call on one source leaves of all others: their timers, their entries and their level lines.
use Rattle.std.proofs.Common.{◌≡◌, ◌≢◌, ◌↔◌, ℕ, ◌<◌, ◌≤◌, Bool, true, false, not, filter, List, [], ◌∷◌, ◌++◌, Some, None, Option, ◌⊎◌, inl, inr, refl, ap, sym, ◌∙◌, subst, arith}
use Rattle.std.proofs.lemmas.Grind.{common_steps}
use Rattle.poller.specs.declared.entry.Entry.{Entry}
use Rattle.poller.specs.Meaning.{among}
use Rattle.poller.specs.Register.{entry_of}
use Rattle.timer_wheel.specs.declared.timeout.TimeoutData.{TimeoutData}
use Rattle.timer_wheel.specs.Wheel.{Wheel}
use Rattle.levels.specs.declared.table.Line.{Line}
use Rattle.sys.specs.Laws.{Consistent, In, Noted}
use Rattle.sys.specs.World.{Exchange, World}
use Rattle.sys.proofs.Entries.{in_append, in_back, in_front, kept_within}
use Rattle.rules.specs.Files.{Files}
use Rattle.rules.specs.Kinds.{Reaches}
use Rattle.rules.specs.Meaning.{Meaning}
use Rattle.rules.specs.Timers.{foreign, standings}
use Rattle.rules.proofs.Timers.{among_in, in_among, stood}
use Rattle.model.specs.Others.{LeavesOthers, Untouched, beside, counters_of, under}
use Rattle.model.specs.Register.{KeyOf, OneRegister, OwnFiles, Owner, Owners}

-- THE TIMERS

-- a filter after a wider one, of what stands there
within_wider : (p q : TimeoutData → Bool) (xs : List TimeoutData) → ((x : TimeoutData) → In x xs → p x ≡ true → q x ≡ true) → filter p (filter q xs) ≡ filter p xs
within_wider p q [] h = refl
within_wider p q (x ∷ xs) h = grind (arith, common_steps, h x, within_wider p q xs (λ y m. h y (inr m)))

not_true : (b : Bool) → (b ≡ true → ⊥) → not b ≡ true
not_true true n = absurd (n refl)
not_true false n = refl

not_among : (k : ℕ) (cs ds : List ℕ) → In k cs ⊎ In k ds → not (among k (cs ++ ds)) ≡ true → ⊥
not_among k cs ds (inl m) e = grind (arith, common_steps, in_among k (cs ++ ds) (in_front k cs ds m))
not_among k cs ds (inr m) e = grind (arith, common_steps, in_among k (cs ++ ds) (in_back k cs ds m))

module _ (cs cs' : List ℕ) (t t' : Wheel) (others : filter (foreign cs t.next) t'.timers ≡ filter (foreign cs t.next) t.timers)
    (given : (x : TimeoutData) → In x t.timers → x.counter < t.next) (own : (x : TimeoutData) → (standings x t'.timers ≤ standings x t.timers) ⊎ In x.counter cs') where
  foreign_of : (x : TimeoutData) → x.counter < t.next → not (among x.counter (cs ++ cs')) ≡ true → foreign cs t.next x ≡ true
  foreign_of x l e =
      let out : not (among x.counter cs) ≡ true = not_true (among x.counter cs) (λ m. not_among x.counter cs cs' (inl (among_in x.counter cs m)) e) in
      grind (arith, common_steps)

  -- all but those of its own counters stay, in their order
  pub rest_stay : beside (cs ++ cs') t'.timers ≡ beside (cs ++ cs') t.timers
  rest_stay =
      let p = λ (x : TimeoutData). not (among x.counter (cs ++ cs')) in
      let now = within_wider p (foreign cs t.next) t'.timers (λ x m e. elim (own x) [
        | inl few ↦ foreign_of x (given x (stood x t.timers t'.timers few m)) e
        | inr mine ↦ absurd (not_among x.counter cs cs' (inr mine) e)
      ]) in
      let before = within_wider p (foreign cs t.next) t.timers (λ x m e. foreign_of x (given x m) e) in
      sym now ∙ ap (filter p) others ∙ before

  -- so those of other counters do
  pub under_stay : (ps : List ℕ) → ((k : ℕ) → In k ps → In k cs ⊎ In k cs' → ⊥) → under ps t'.timers ≡ under ps t.timers
  under_stay ps apart =
      let q = λ (x : TimeoutData). among x.counter ps in
      let p = λ (x : TimeoutData). not (among x.counter (cs ++ cs')) in
      let wider = kept_within q p (λ x e. outside x.counter e) in
      sym (wider t'.timers) ∙ ap (filter q) rest_stay ∙ wider t.timers
    where
      outside : (k : ℕ) → among k ps ≡ true → not (among k (cs ++ cs')) ≡ true
      outside k e = not_true (among k (cs ++ cs')) (λ m. apart k (among_in k ps e) (in_append k cs cs' (among_in k (cs ++ cs') m)))

-- LINES

noted_entry : (es : List Entry) (t : Option (List Line)) → Consistent es t → (l : Line) → Noted l t → (e : Entry) × (entry_of l.file es ≡ Some e) × (e.key ≡ l.key)
noted_entry es None c l n = elim n [ ]
noted_entry es (Some ls) c l n = let e = c l n in (e.0, e.1, e.2.key)

-- A CALL OF THE SOURCE IN SLOT i
module _ (who : Owners) (i : ℕ) (o : Owner) (some : who i ≡ Some o)
    (D : ℕ → Type 0) (drew : (k : ℕ) → D k → KeyOf o.token k) (w w' : World) (xs : List Exchange) (m' : Meaning) (r : Reaches D o.means w xs m' w') (one : OneRegister who w) where
  mine : OwnFiles o w.entries
  mine = one.files i o some

  files : Files D o.means.held o.means.entered w.entries m'.held m'.entered w'.entries
  files = r.files mine.sound

  -- another source, whose keys are none of its own
  module _ (j : ℕ) (p : Owner) (ne : j ≢ i) (is : who j ≡ Some p) (another_key : (k : ℕ) → KeyOf p.token k → KeyOf o.token k → ⊥) where
    theirs : OwnFiles p w.entries
    theirs = one.files j p is

    not_mine : (f : ℕ) → In f p.means.entered → In f o.means.entered → ⊥
    not_mine f yours own = one.apart j i p o is some ne f yours own

    entry_stays : (f : ℕ) → In f p.means.entered → entry_of f w'.entries ≡ entry_of f w.entries
    entry_stays f m = let e = theirs.sound.rest f m in files.others f (not_mine f m) e.0 e.1 ∙ sym e.1

    its_key : (l : Line) (es : List Entry) (t : Option (List Line)) → entry_of l.file es ≡ entry_of l.file w.entries → Consistent es t → In l.file p.means.entered → Noted l t → KeyOf p.token l.key
    its_key l es t same level m n = let e = noted_entry es t level l n in subst (KeyOf p.token) e.2 (theirs.keys l.file m e.0 (sym same ∙ e.1))

    line_stays : (l : Line) → In l.file p.means.entered → Noted l w.lines ↔ Noted l w'.lines
    line_stays l m = (
      λ n. (r.lines mine.sound one.level).stay l n (not_mine l.file m) (λ d. another_key l.key (its_key l w.entries w.lines refl one.level m n) (drew l.key d)),
      λ n. elim ((r.lines mine.sound one.level).join l n) [
        | inl was ↦ was
        | inr d ↦ absurd (another_key l.key (its_key l w'.entries w'.lines (entry_stays l.file m) (r.level one.level) m n) (drew l.key d))
      ],
    )

    module _ (cs' : List ℕ) (own : (x : TimeoutData) → (standings x w'.wheel.timers ≤ standings x w.wheel.timers) ⊎ In x.counter cs')
        (joins : (k : ℕ) → In k cs' → In k o.means.counters ⊎ (w.wheel.next ≤ k)) where
      pub untouched : Untouched p w w'
      untouched = record {
        timers = under_stay o.means.counters cs' w.wheel w'.wheel r.timers.others one.wheel.timers own p.means.counters (λ k theirs. λ a. elim a [
          | inl own ↦ one.wheel.apart j i p o is some ne k theirs own
          | inr new ↦ elim (joins k new) [ inl own ↦ one.wheel.apart j i p o is some ne k theirs own | inr later ↦ omega (arith, one.wheel.given j p is k theirs, later) ]
        ]);
        entries = entry_stays;
        lines = line_stays;
      }

  -- whatever stands in slot i then, if it has the counters of those timers that joined
  pub leaves_others : ((j : ℕ) (p : Owner) → who j ≡ Some p → p.token.id ≡ j) → (who' : Owners) → counters_of (who i) ≡ o.means.counters → ((x : TimeoutData) → (standings x w'.wheel.timers ≤ standings x w.wheel.timers) ⊎ In x.counter (counters_of (who' i)))
      → ((k : ℕ) → In k (counters_of (who' i)) → In k o.means.counters ⊎ (w.wheel.next ≤ k)) → LeavesOthers i who who' w w'
  leaves_others ids who' same own joins = record {
    -- a key is of one slot alone
    others = λ j p ne is. untouched j p ne is (λ k a b. ne (grind (arith, common_steps, ids j p is, ids i o some))) (counters_of (who' i)) own joins;
    timers = subst (λ cs. beside (cs ++ counters_of (who' i)) w'.wheel.timers ≡ beside (cs ++ counters_of (who' i)) w.wheel.timers) (sym same)
        (rest_stay o.means.counters (counters_of (who' i)) w.wheel w'.wheel r.timers.others one.wheel.timers own);
  }

-- nothing was reached
pub nothing_reached : (o : Owner) (w : World) → Untouched o w w
nothing_reached o w = record { timers = refl; entries = λ f m. refl; lines = λ l m. (λ n. n, λ n. n) }

pub untouched_then : (o : Owner) (u v w : World) → Untouched o u v → Untouched o v w → Untouched o u w
untouched_then o u v w a b = record {
  timers = b.timers ∙ a.timers;
  entries = λ f m. b.entries f m ∙ a.entries f m;
  lines = λ l m. (λ n. (b.lines l m).0 ((a.lines l m).0 n), λ n. (a.lines l m).1 ((b.lines l m).1 n));
}

pub leaves_all : (i : ℕ) (who who' : Owners) (w w' : World) → w' ≡ w → LeavesOthers i who who' w w'
leaves_all i who who' w w' e = rw e (record { others = λ j o ne is. nothing_reached o w; timers = refl })
