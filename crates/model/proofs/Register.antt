-- The one register through each change of the slots.
use Rattle.std.proofs.Common.{length, ◌<◌, ◌≤◌, ◌^◌, ◌≡◌, ℕ, Bool, true, false, ◌⊎◌, List, [], Some, None, Option, ◌≢◌, nat_lt, sym, ◌∙◌, ap, arith, inl, inr, subst}
use Rattle.std.specs.Prelude.{nat_eq, ◌==◌, if◌then◌else◌}
use Rattle.std.specs.List.{IsDistinct}
use Rattle.std.proofs.lemmas.Grind.{common_steps}
use Rattle.token.specs.declared.token.Token.{Token}
use Rattle.token.specs.Key.{key_of}
use Rattle.token.specs.Refusal.{Outcome}
use Rattle.poller.specs.declared.entry.Entry.{Entry}
use Rattle.poller.specs.Register.{entry_of}
use Rattle.timer_wheel.specs.declared.timeout.TimeoutData.{TimeoutData}
use Rattle.timer_wheel.specs.Wheel.{Wheel, empty}
use Rattle.sys.specs.Laws.{Consistent, In, Wakeful}
use Rattle.sys.specs.Polling.{new_table}
use Rattle.sys.specs.World.{Exchange, World}
use Rattle.sys.proofs.Entries.{Alike, alike_at, in_filter}
use Rattle.sys.proofs.Locality.{Later}
use Rattle.rules.specs.Files.{Files, Sound}
use Rattle.rules.specs.Kinds.{Free, Processing, Reaches}
use Rattle.rules.specs.Meaning.{Drawer, Drawn, Meaning, Nothing}
use Rattle.rules.specs.Timers.{Timers}
use Rattle.rules.proofs.Timers.{stood}
use Rattle.kinds.specs.declared.source.EventSource.{Ghosts as EventSourceOf}
use Rattle.list.specs.Slots.{placed, vacant_of}
use Rattle.list.specs.declared.slots.Place.{Place}
use Rattle.list.specs.declared.slots.Slot.{Slot}
use Rattle.model.specs.Register.{KeyOf, OneRegister, OneWheel, OwnFiles, Owned, Owner, Owners, Shared, changed, meaning, owners, owner_in, token_in}
use Rattle.model.proofs.Slots.{GivenOut, given_out, placed_here, placed_other, same_or_not}

-- what a source's factory draws are keys of its token
pub drawn_of : (t : Token) (d d' : Drawer) (k : ℕ) → d.id ≡ t.id → d.version ≡ t.version → t.version < 2 ^ 16 → d'.sub_id ≤ 2 ^ 16 → Drawn d d' k → KeyOf t k
drawn_of t d d' k i v fits few drawn = grind (arith, common_steps)

pub none_of : (t : Token) (k : ℕ) → Nothing k → KeyOf t k
none_of t k n = elim n [ ]

-- an entry of a source's own is held or stuck
held_or_stuck : (m : Meaning) (es : List Entry) (f : ℕ) (e : Entry) → Sound m.held m.entered es → In f m.entered → entry_of f es ≡ Some e
    → In (record { file = f; key = e.key }) m.held ⊎ (e.stuck ≡ true)
held_or_stuck m es f e s own at = grind (arith, common_steps, s.rest f own)

pub shared : (who : Owners) (w : World) → OneRegister who w → Shared who w
shared who w one = record {
  held = λ i o is x h.
      let files = one.files i o is in
      let e = files.sound.stands x h in
      (e, subst (KeyOf o.token) e.2 (files.keys x.file (files.sound.own x h) e.0 e.1));
  others = λ f e at. elim (one.only f e at) [
    | inl x ↦ elim (held_or_stuck x.1.means w.entries f e (one.files x.0 x.1 x.2).sound x.3 at) [ inl h ↦ inl (x.0, x.1, x.2, h) | inr s ↦ inr s ]
    | inr s ↦ inr s
  ];
}

-- it speaks of what stands in each slot alone
pub one_same : (who who' : Owners) (w : World) → ((i : ℕ) → who' i ≡ who i) → OneRegister who w → OneRegister who' w
one_same who who' w same one = record {
  files = λ i o is. one.files i o (sym (same i) ∙ is);
  apart = λ i j o p is js. one.apart i j o p (sym (same i) ∙ is) (sym (same j) ∙ js);
  only = λ f e at. elim (one.only f e at) [ inl x ↦ inl (x.0, x.1, same x.0 ∙ x.2, x.3) | inr s ↦ inr s ];
  level = one.level;
  wheel = record {
    timers = one.wheel.timers;
    given = λ i o is. one.wheel.given i o (sym (same i) ∙ is);
    apart = λ i j o p is js. one.wheel.apart i j o p (sym (same i) ∙ is) (sym (same j) ∙ js);
  };
}

-- a source goes from slot i to slot j, where none stood
module _ (who : Owners) (i j : ℕ) (o : Owner) (some : who i ≡ Some o) (none : who j ≡ None) where
  abbrev moved : Owners
  moved = changed (changed who i None) j (Some o)

  abbrev before : ℕ → ℕ
  before k = if k == j then i else k

  moved_before : (k : ℕ) (p : Owner) → moved k ≡ Some p → who (before k) ≡ Some p
  moved_before k p is = grind (arith, common_steps)

  before_apart : (k l : ℕ) (p q : Owner) → moved k ≡ Some p → moved l ≡ Some q → (k ≢ l) → (before k ≢ before l)
  before_apart k l p q ks ls ne = grind (arith, common_steps)

  moved_after : (k : ℕ) (p : Owner) → who k ≡ Some p → moved (if k == i then j else k) ≡ Some p
  moved_after k p is = grind (arith, common_steps)

  pub one_moved : (w : World) → OneRegister who w → OneRegister moved w
  one_moved w one = record {
    files = λ k p is. one.files (before k) p (moved_before k p is);
    apart = λ k l p q ks ls ne. one.apart (before k) (before l) p q (moved_before k p ks) (moved_before l q ls) (before_apart k l p q ks ls ne);
    only = λ f e at. elim (one.only f e at) [ inl x ↦ inl ((if x.0 == i then j else x.0), x.1, moved_after x.0 x.1 x.2, x.3) | inr s ↦ inr s ];
    level = one.level;
    wheel = record {
      timers = one.wheel.timers;
      given = λ k p is. one.wheel.given (before k) p (moved_before k p is);
      apart = λ k l p q ks ls ne. one.wheel.apart (before k) (before l) p q (moved_before k p ks) (moved_before l q ls) (before_apart k l p q ks ls ne);
    };
  }

none_twice : IsDistinct nat_eq []
unfolding IsDistinct
none_twice = tt

-- the files of the source itself through its call: its entries had keys of its token, or such a key was drawn
own_files : (D : ℕ → Type 0) (o : Owner) (m' : Meaning) (es es' : List Entry) → ((k : ℕ) → D k → KeyOf o.token k)
    → Files D o.means.held o.means.entered es m'.held m'.entered es' → OwnFiles o es → OwnFiles (meaning o m') es'
own_files D o m' es es' drew fs own = record {
  sound = fs.sound;
  keys = λ f now e at. grind (arith, common_steps, fs.keys f e at, fs.fresh f now, own.keys f, drew e.key);
}

-- another source's files through it
beside_files : (D : ℕ → Type 0) (m m' : Meaning) (o : Owner) (es es' : List Entry) → Files D m.held m.entered es m'.held m'.entered es'
    → OwnFiles o es → ((f : ℕ) → In f m.entered → In f o.means.entered → ⊥) → OwnFiles o es'
beside_files D m m' o es es' fs own apart =
    let s = own.sound in
    record {
      sound = record {
        stands = λ x h. let e = s.stands x h in (e.0, fs.others x.file (λ mine. apart x.file mine (s.own x h)) e.0 e.1, e.2);
        own = s.own;
        rest = λ f yours. let e = s.rest f yours in (e.0, fs.others f (λ mine. apart f mine yours) e.0 e.1, e.2);
        once = s.once;
      };
      keys = λ f yours e at. let x = s.rest f yours in grind (arith, common_steps, fs.others f (λ mine. apart f mine yours) x.0 x.1, own.keys f yours e);
    }

-- a source beside the one that a change put into another slot, if it put one there
pub record Beside (w : World) (o : Option Owner) (p : Owner) : Type 0 where
  pub files : OwnFiles p w.entries
  pub apart : (q : Owner) → o ≡ Some q → (f : ℕ) → In f q.means.entered → In f p.means.entered → ⊥

module _ (who : Owners) (i : ℕ) where
  -- a source stands in slot i now, or stood in another
  pub who_stands : (o : Option Owner) (j : ℕ) (p : Owner) → changed who i o j ≡ Some p → ((j ≡ i) × (o ≡ Some p)) ⊎ ((j ≢ i) × (who j ≡ Some p))
  who_stands o j p is = grind (arith, common_steps)

  pub changed_other : (o : Option Owner) (j : ℕ) → (j ≢ i) → changed who i o j ≡ who j
  changed_other o j ne = grind (arith, common_steps)

  pub changed_here : (o : Option Owner) → changed who i o i ≡ o
  changed_here o = grind (arith, common_steps)

  module _ (w w' : World) (o : Option Owner) (was : OneRegister who w)
      (here : (p : Owner) → o ≡ Some p → OwnFiles p w'.entries)
      (beside : (j : ℕ) (p : Owner) → (j ≢ i) → who j ≡ Some p → Beside w' o p) where
    apart_after : (j k : ℕ) (p q : Owner) → changed who i o j ≡ Some p → changed who i o k ≡ Some q → (j ≢ k) → (f : ℕ) → In f p.means.entered → In f q.means.entered → ⊥
    apart_after j k p q js ks ne f inp inq = elim (who_stands o j p js) [
      | inl a ↦ elim (who_stands o k q ks) [ inl b ↦ grind (arith, common_steps) | inr b ↦ (beside k q b.0 b.1).apart p a.1 f inp inq ]
      | inr a ↦ elim (who_stands o k q ks) [ inl b ↦ (beside j p a.0 a.1).apart q b.1 f inq inp | inr b ↦ was.apart j k p q a.1 b.1 ne f inp inq ]
    ]

    -- the register after the change, where each entry is a source's own or stuck
    one_changed : OneWheel (changed who i o) w'.wheel → ((f : ℕ) (e : Entry) → entry_of f w'.entries ≡ Some e → Owned (changed who i o) f ⊎ (e.stuck ≡ true))
        → Consistent w'.entries w'.lines → OneRegister (changed who i o) w'
    one_changed wheel only level = record {
      files = λ j p is. elim (who_stands o j p is) [ inl a ↦ here p a.1 | inr b ↦ (beside j p b.0 b.1).files ];
      apart = apart_after;
      only = only;
      level = level;
      wheel = wheel;
    }

  -- THE COUNTERS, where slot i is given another source or none
  module _ (o : Option Owner) (t t' : Wheel) (was : OneWheel who t) (forward : t.next ≤ t'.next) where
    -- each counter of the source in slot i is below the next, and none of another's
    pub wheel_changed : ((x : TimeoutData) → In x t'.timers → x.counter < t'.next)
        → ((p : Owner) → o ≡ Some p → (k : ℕ) → In k p.means.counters → (k < t'.next) × ((j : ℕ) (q : Owner) → (j ≢ i) → who j ≡ Some q → In k q.means.counters → ⊥))
        → OneWheel (changed who i o) t'
    wheel_changed timers here = record {
      timers = timers;
      given = λ j p is k m. elim (who_stands o j p is) [ inl a ↦ (here p a.1 k m).0 | inr b ↦ omega (arith, was.given j p b.1 k m, forward) ];
      apart = λ j l p q js ls ne k inp inq. elim (who_stands o j p js) [
        | inl a ↦ elim (who_stands o l q ls) [ inl b ↦ ne (a.0 ∙ sym b.0) | inr b ↦ (here p a.1 k inp).1 l q b.0 b.1 inq ]
        | inr a ↦ elim (who_stands o l q ls) [ inl b ↦ (here q b.1 k inq).1 j p a.0 a.1 inp | inr b ↦ was.apart j l p q a.1 b.1 ne k inp inq ]
      ];
    }

  -- through a call of the source
  module _ (o : Owner) (some : who i ≡ Some o) (D : ℕ → Type 0) (m' : Meaning) (t t' : Wheel) (r : Timers D o.means.counters t m'.counters t') (was : OneWheel who t) where
    wheel_step : OneWheel (changed who i (Some (meaning o m'))) t'
    wheel_step = wheel_changed (Some (meaning o m')) t t' was r.forward
        (λ x now. elim (r.own x) [ inl few ↦ omega (arith, was.timers x (stood x t.timers t'.timers few now), r.forward) | inr mine ↦ its x.counter mine ])
        (λ p is k m. let mine : In k m'.counters = subst (λ (q : Owner). In k q.means.counters) (same_owner p is) m in (its k mine, others k mine))
      where
        same_owner : (p : Owner) → Some (meaning o m') ≡ Some p → p ≡ meaning o m'
        same_owner p is = grind (arith, common_steps)

        its : (k : ℕ) → In k m'.counters → k < t'.next
        its k m = elim (r.joins k m) [ inl old ↦ omega (arith, was.given i o some k old, r.forward) | inr new ↦ new.1 ]

        others : (k : ℕ) → In k m'.counters → (j : ℕ) (q : Owner) → (j ≢ i) → who j ≡ Some q → In k q.means.counters → ⊥
        others k m j q ne is theirs = elim (r.joins k m) [ inl old ↦ was.apart j i q o is some ne k theirs old | inr new ↦ omega (arith, was.given j q is k theirs, new.0) ]

  still_owned : (o : Option Owner) (j : ℕ) (p : Owner) (f : ℕ) → (j ≢ i) → who j ≡ Some p → In f p.means.entered → Owned (changed who i o) f
  still_owned o j p f ne is own = (j, p, changed_other o j ne ∙ is, own)

  -- a file that was a source's own is so still, or was slot i's
  owned_still : (o : Option Owner) (f : ℕ) → Owned who f → Owned (changed who i o) f ⊎ ((p : Owner) × (who i ≡ Some p) × In f p.means.entered)
  owned_still o f x = elim (same_or_not x.0 i) [ inl e ↦ inr (x.1, sym (ap who e) ∙ x.2, x.3) | inr ne ↦ inl (still_owned o x.0 x.1 f ne x.2 x.3) ]

  -- the same of an entry that is a source's own or stuck, where slot i's are told
  only_after : (o : Option Owner) (f : ℕ) (e : Entry) → ((p : Owner) → who i ≡ Some p → In f p.means.entered → Owned (changed who i o) f ⊎ (e.stuck ≡ true))
      → Owned who f ⊎ (e.stuck ≡ true) → Owned (changed who i o) f ⊎ (e.stuck ≡ true)
  only_after o f e own (inr s) = inr s
  only_after o f e own (inl x) = elim (owned_still o f x) [ inl y ↦ inl y | inr y ↦ own y.0 y.1 y.2 ]

  pub one_new : (w : World) (o : Owner) → who i ≡ None → Free o.means → OneRegister who w → OneRegister (changed who i (Some o)) w
  one_new w o none free one = one_changed w w (Some o) one
      (λ p is. record { sound = grind (arith, common_steps, none_twice); keys = λ f own e at. grind (arith, common_steps) })
      (λ j p ne is. record { files = one.files j p is; apart = λ q qs f own other. grind (arith, common_steps) })
      (wheel_changed (Some o) w.wheel w.wheel one.wheel (omega arith) one.wheel.timers (λ p is k m. absurd (none_free p is k m)))
      (λ f e at. only_after (Some o) f e (λ q qs own. grind (arith, common_steps)) (one.only f e at))
      one.level
    where
      none_free : (p : Owner) → Some o ≡ Some p → (k : ℕ) → In k p.means.counters → ⊥
      none_free p is k m = grind (arith, common_steps, free.counters)

  pub one_gone : (w : World) (o : Owner) → who i ≡ Some o → o.means.held ≡ [] → OneRegister who w → OneRegister (changed who i None) w
  one_gone w o some free one = one_changed w w None one
      (λ p is. grind (arith, common_steps))
      (λ j p ne is. record { files = one.files j p is; apart = λ q qs f own other. grind (arith, common_steps) })
      (wheel_changed None w.wheel w.wheel one.wheel (omega arith) one.wheel.timers (λ p is k m. absurd (grind (arith, common_steps))))
      (λ f e at. only_after None f e (λ q qs own. grind (arith, common_steps, held_or_stuck o.means w.entries f e (one.files i o some).sound)) (one.only f e at))
      one.level

  -- A CALL OF THE SOURCE IN SLOT i keeps the one register.
  pub one_step : (D : ℕ → Type 0) (w w' : World) (xs : List Exchange) (o : Owner) (m' : Meaning) → who i ≡ Some o → ((k : ℕ) → D k → KeyOf o.token k)
      → Reaches D o.means w xs m' w' → OneRegister who w → OneRegister (changed who i (Some (meaning o m'))) w'
  one_step D w w' xs o m' some drew r one =
      let own : OwnFiles o w.entries = one.files i o some in
      let fs : Files D o.means.held o.means.entered w.entries m'.held m'.entered w'.entries = r.files own.sound in
      let now : OwnFiles (meaning o m') w'.entries = own_files D o m' w.entries w'.entries drew fs own in
      one_changed w w' (Some (meaning o m')) one
      (λ p is. grind (arith, common_steps, now))
      (λ j p ne is.
      let apart : (f : ℕ) → In f o.means.entered → In f p.means.entered → ⊥ = one.apart i j o p some is (λ e. ne (sym e)) in
      record {
        files = beside_files D o.means m' p w.entries w'.entries fs (one.files j p is) apart;
        apart = λ q qs f mine yours. grind (arith, common_steps, fs.fresh f, (one.files j p is).sound.rest f yours, apart f);
      })
      (wheel_step o some D m' w.wheel w'.wheel r.timers one.wheel)
      (λ f e at. elim (fs.only f e at) [
        | inl was ↦ only_after (Some (meaning o m')) f e (λ q qs own. grind (arith, common_steps)) (one.only f e was.1)
        | inr now ↦ elim now [ inl own ↦ inl (i, meaning o m', changed_here (Some (meaning o m')), own) | inr s ↦ inr s ]
      ])
      (r.level one.level)

  -- AN EVENT HANDLED touches no entry, and changes no more of the source than its counters.
  pub one_processed : {E T : Type 0} (w w' : World) (o : Owner) (m' : Meaning) (t : Token) (es es' : List E) (xs : List Exchange) (r : Outcome T) → who i ≡ Some o
      → Processing o.means w t es xs r m' w' es' → OneRegister who w → OneRegister (changed who i (Some (meaning o m'))) w'
  one_processed w w' o m' t es es' xs r some p one =
      let own : OwnFiles o w.entries = one.files i o some in
      let now : OwnFiles (meaning o m') w'.entries = record { sound = grind (arith, common_steps, own.sound, p.world, p.same); keys = λ f mine e at. grind (arith, common_steps, own.keys f, p.world, p.same) } in
      one_changed w w' (Some (meaning o m')) one
      (λ q is. grind (arith, common_steps, now))
      (λ j q ne is. record {
        files = rw p.world (one.files j q is);
        apart = λ u us f mine yours. grind (arith, common_steps, one.apart i j o q some is (λ e. ne (sym e)) f, p.same);
      })
      (wheel_step o some (λ k. k ≡ key_of t) m' w.wheel w'.wheel p.timers one.wheel)
      (λ f e at. only_after (Some (meaning o m')) f e (λ q qs mine. inl (i, meaning o m', changed_here (Some (meaning o m')), grind (arith, common_steps, p.same))) (one.only f e (grind (arith, common_steps, p.world))))
      (grind (arith, common_steps, one.level, p.world))

  pub changed_twice : (o p : Option Owner) (j : ℕ) → changed who i p j ≡ changed (changed who i o) i p j
  changed_twice o p j = grind (arith, common_steps)

  pub changed_back : (o p : Option Owner) → who i ≡ p → (j : ℕ) → who j ≡ changed (changed who i o) i p j
  changed_back o p is j = grind (arith, common_steps)

module _ (who : Owners) (i : ℕ) (D : ℕ → Type 0) (w w' : World) (xs : List Exchange) (o : Owner) (m' : Meaning) (none : who i ≡ None) (free : Free o.means)
    (drew : (k : ℕ) → D k → KeyOf o.token k) (r : Reaches D o.means w xs m' w') (one : OneRegister who w) where
  -- A NEWCOMER registers: it stands in slot i then
  pub one_joined : OneRegister (changed who i (Some (meaning o m'))) w'
  one_joined = one_same (changed (changed who i (Some o)) i (Some (meaning o m'))) (changed who i (Some (meaning o m'))) w' (changed_twice who i (Some o) (Some (meaning o m')))
      (one_step (changed who i (Some o)) i D w w' xs o m' (changed_here who i (Some o)) drew r (one_new who i w o none free one))

  -- it is refused: the slots are as they were
  pub one_refused : Free m' → OneRegister who w'
  one_refused gone = one_same (changed (changed who i (Some (meaning o m'))) i None) who w' (changed_back who i (Some (meaning o m')) None none)
      (one_gone (changed who i (Some (meaning o m'))) i w' (meaning o m') (changed_here who i (Some (meaning o m'))) gone.held one_joined)

-- A WAIT changes nothing of the entries but which are armed.

-- what stands before a wait stands after it
forward_alike : (f : ℕ) (es es' : List Entry) (e : Entry) → Alike es es' → entry_of f es ≡ Some e → (e' : Entry) × (entry_of f es' ≡ Some e') × (e'.key ≡ e.key) × (e'.stuck ≡ e.stuck)
forward_alike f es es' e same at = let x = alike_at f es' es e (sym same) at in (x.0, x.1, grind (arith, common_steps, x.2), grind (arith, common_steps, x.2))

files_alike : (o : Owner) (es es' : List Entry) → Alike es es' → OwnFiles o es → OwnFiles o es'
files_alike o es es' same own =
    let s = own.sound in
    record {
      sound = record {
        stands = λ x h. let e = s.stands x h in let e' = forward_alike x.file es es' e.0 same e.1 in (e'.0, e'.1, e'.2 ∙ e.2);
        own = s.own;
        rest = λ f o. let e = s.rest f o in let e' = forward_alike f es es' e.0 same e.1 in (e'.0, e'.1, grind (arith, common_steps));
        once = s.once;
      };
      keys = λ f mine e at. let x = alike_at f es es' e same at in grind (arith, common_steps, own.keys f mine x.0 x.1, x.2);
    }

-- what a wait leaves of the timers
left_timers : (t t' : Wheel) → Later t t' → (t'.next ≡ t.next) × ((x : TimeoutData) → In x t'.timers → In x t.timers)
left_timers t t' (inl e) = (ap (λ (u : Wheel). u.next) e, λ x m. subst (λ (u : Wheel). In x u.timers) e m)
left_timers t t' (inr r) =
    (ap (λ (u : Wheel). u.next) r.1, λ x m. (in_filter (λ (y : TimeoutData). nat_lt r.0 y.deadline) t.timers x (subst (λ (u : Wheel). In x u.timers) r.1 m)).0)

pub one_waited : (who : Owners) (w w' : World) → Wakeful w.entries w.lines w'.entries w'.lines → Later w.wheel w'.wheel → OneRegister who w → OneRegister who w'
one_waited who w w' k later one =
    let fewer = left_timers w.wheel w'.wheel later in
    let same : Alike w.entries w'.entries = k.same one.level in
    record {
      files = λ i o is. files_alike o w.entries w'.entries same (one.files i o is);
      apart = one.apart;
      only = λ f e' at. let e = alike_at f w.entries w'.entries e' same at in elim (one.only f e.0 e.1) [ inl x ↦ inl x | inr s ↦ inr (grind (arith, common_steps, e.2)) ];
      level = k.consistent one.level;
      wheel = record {
        timers = λ x m. subst (λ (n : ℕ). x.counter < n) (sym fewer.0) (one.wheel.timers x (fewer.1 x m));
        given = λ i o is n m. subst (λ (u : ℕ). n < u) (sym fewer.0) (one.wheel.given i o is n m);
        apart = one.wheel.apart;
      };
    }

-- THE SLOTS

module _ {S : Type 0} (kind : EventSourceOf S) (xs : List (Slot S)) where
  pub owners_placed : (i : ℕ) (p : Place S) → i < length xs → (j : ℕ) → owners kind (placed xs i p) j ≡ changed (owners kind xs) i (owner_in kind (token_in xs i) p) j
  owners_placed i p l j = elim (same_or_not j i) [ inl e ↦ grind (arith, common_steps, placed_here xs i p l) | inr ne ↦ grind (arith, common_steps, placed_other xs i j p ne) ]

  -- a slot that is given out is empty before and after
  pub owners_given : (t : Token) (ys : List (Slot S)) → vacant_of xs ≡ (Some t, ys) → (j : ℕ) → owners kind ys j ≡ owners kind xs j
  owners_given t ys g j =
      let o : GivenOut xs t ys = given_out xs t ys g in
      elim (same_or_not j t.id) [ inl e ↦ grind (arith, common_steps, o.here, o.was) | inr ne ↦ grind (arith, common_steps, o.others j ne) ]

  pub owners_vacant : (t : Token) (ys : List (Slot S)) → vacant_of xs ≡ (Some t, ys) → owners kind xs t.id ≡ None
  owners_vacant t ys g = grind (arith, common_steps, (given_out xs t ys g).was)

-- a loop that begins, with no slot in use and no entry
pub one_new_loop : {S : Type 0} (kind : EventSourceOf S) (w : World) (level : Bool) → w.entries ≡ [] → w.lines ≡ new_table level → w.wheel ≡ empty → OneRegister (owners kind []) w
one_new_loop kind w level e l t = record {
  files = λ i o is. grind (arith, common_steps);
  apart = λ i j o p is js ne f mine yours. grind (arith, common_steps);
  only = λ f x at. grind (arith, common_steps);
  level = rw l (elim level as (λ b. Consistent w.entries (new_table b)) [ true ↦ tt | false ↦ λ x m. absurd m ]);
  wheel = record {
    timers = λ x m. absurd (subst (λ (u : Wheel). In x u.timers) t m);
    given = λ i o is. grind (arith, common_steps);
    apart = λ i j o p is. grind (arith, common_steps);
  };
}
