-- Each call touches one file, and keeps the level table consistent.
use Rattle.std.proofs.Common.{◌≡◌, ℕ, Bool, true, false, List, [], ◌∷◌, ◌⊎◌, map, Some, None, Option, ap, inl, inr, refl, subst, sym, ◌∙◌, arith}
use Rattle.std.specs.Option.{option_map}
use Rattle.std.proofs.lemmas.Bool.{cases_eq}
use Rattle.std.proofs.lemmas.Grind.{common_steps}
use Rattle.std.proofs.lemmas.List.Elements.{filter-append}
use Rattle.token.specs.Refusal.{Outcome, done, refused}
use Rattle.poller.specs.declared.entry.Entry.{Entry}
use Rattle.poller.specs.declared.entry.Event.{Event}
use Rattle.poller.specs.declared.entry.Mode.{Mode}
use Rattle.poller.specs.declared.entry.Mode.TheVariants.{Edge, Level, OneShot}
use Rattle.poller.specs.declared.entry.Request.{Request}
use Rattle.poller.specs.Register.{Distinct, disarmed, renewed}
use Rattle.poller.specs.Meaning.{Answer, Fate, Waited, add_of, modify_of}
use Rattle.poller.proofs.Standing.{distinct_map}
use Rattle.timer_wheel.specs.Laws.{rest}
use Rattle.timer_wheel.specs.Wheel.{Wheel}
use Rattle.levels.specs.declared.table.Line.{Line}
use Rattle.levels.specs.Table.{dropped, entered, line_of, stays}
use Rattle.sys.specs.declared.event.PollEvent.{PollEvent}
use Rattle.sys.specs.Laws.{Consistent, Untouched, Touches, Wakeful}
use Rattle.sys.specs.Polling.{lines_after, mode_below_of, request}
use Rattle.sys.specs.Wait.{Arms, Rearms, RearmsIn, Takes, Waits, Wakes}
use Rattle.sys.specs.World.{World, Exchange, added, modified, let_go_of, register_of, reregister_of, sent, unregister_of, with_entries, with_timers}
use Rattle.sys.proofs.Entries.{Alike, alike_at, changed_alike, distinct_mapped, found_in, in_append, in_filter, kept_within, told_alike}
use Rattle.sys.proofs.Outcomes.{Deleted, Registered, add_leaves, delete_leaves, modify_leaves}

-- EACH CALL TOUCHES ONE FILE

module _ (l : Line) (m : Mode) (w : World) where
  -- with a table all goes down as OneShot, and what was asked for agrees with the line
  noted : (held : Bool) (b : Mode) (r : Answer) (es : List Entry) (t : Option (List Line)) → mode_below_of t l.key m ≡ done b → Registered held w.entries (request l b) r es
      → Consistent w.entries t → Consistent es (lines_after r (entered l m) t)
  noted held b (refused n c) es t e a k = rw (a.refusing n c refl) k
  noted held b (done u) es None e a k = tt
  noted held b (done u) es (Some ls) e a k = λ x i.
      grind (arith, common_steps, in_filter (stays l.file (Some l.key)) ls x, in_append x (dropped l.file (Some l.key) ls) (l ∷ []), a.others x.file, a.now refl, k x)

  -- lines of other files and keys stay
  beside : (r : Answer) (t : Option (List Line)) → option_map (dropped l.file (Some l.key)) (lines_after r (entered l m) t) ≡ option_map (dropped l.file (Some l.key)) t
  beside (refused n c) t = refl
  beside (done u) None = refl
  beside (done u) (Some ls) = ap Some (entered_beside m ls)
    where
      entered_beside : (m : Mode) (ls : List Line) → dropped l.file (Some l.key) (entered l m ls) ≡ dropped l.file (Some l.key) ls
      entered_beside Level ls = grind (arith, common_steps, filter-append (stays l.file (Some l.key)) (dropped l.file (Some l.key) ls) (l ∷ []), kept_within (stays l.file (Some l.key)) (stays l.file (Some l.key)) (λ x e. e) ls)
      entered_beside OneShot ls = kept_within (stays l.file (Some l.key)) (stays l.file (Some l.key)) (λ x e. e) ls
      entered_beside Edge ls = kept_within (stays l.file (Some l.key)) (stays l.file (Some l.key)) (λ x e. e) ls

  sent_touches : (held : Bool) (ask : Request → Answer → Exchange) (of : Request → Answer × List Entry) → ((q : Request) → Registered held w.entries q (of q).0 (of q).1)
      → (o : Outcome Mode) → mode_below_of w.lines l.key m ≡ o
      → Touches l.file (Some l.key) w.entries w.lines (sent ask of o l m w).world.entries (sent ask of o l m w).world.lines
  sent_touches held ask of law (refused n c) e = record { others = λ g ne. refl; lines = refl; consistent = λ k. k }
  sent_touches held ask of law (done b) e = let a = law (request l b) in record { others = a.others; lines = beside _ w.lines; consistent = noted held b _ _ w.lines e a }

  pub register_touches : (fate : Fate) → Touches l.file (Some l.key) w.entries w.lines (register_of l m w fate).world.entries (register_of l m w fate).world.lines
  register_touches fate = sent_touches false added (λ q. add_of w.most w.entries q fate) (λ q. add_leaves w.most w.entries q fate) (mode_below_of w.lines l.key m) refl

  pub reregister_touches : (fate : Fate) → Touches l.file (Some l.key) w.entries w.lines (reregister_of l m w fate).world.entries (reregister_of l m w fate).world.lines
  reregister_touches fate = sent_touches true modified (λ q. modify_of w.entries q fate) (λ q. modify_leaves w.entries q fate) (mode_below_of w.lines l.key m) refl

module _ (f : ℕ) (w : World) where
  forgotten : (es : List Entry) (t : Option (List Line)) → Untouched f w.entries es → Consistent w.entries t → Consistent es (option_map (dropped f None) t)
  forgotten es None u k = tt
  forgotten es (Some ls) u k = λ l m. grind (arith, common_steps, in_filter (stays f None) ls l m, u l.file, k l)

  -- where the delete is refused, an entry with another mark agrees with the lines that it agreed with
  unentered : (r : Answer) (es : List Entry) (t : Option (List Line)) → Deleted w.entries f r es → Consistent w.entries t → Consistent es (lines_after r (dropped f None) t)
  unentered (done u) es t d k = forgotten es t d.others k
  unentered (refused n c) es None d k = tt
  unentered (refused n c) es (Some ls) d k = λ l m. grind (arith, common_steps, k l m, d.others l.file, d.refusing n c refl, cases_eq l.file f)

  -- lines of other files stay
  dropped_again : (t : Option (List Line)) → option_map (dropped f None) (option_map (dropped f None) t) ≡ option_map (dropped f None) t
  dropped_again None = refl
  dropped_again (Some ls) = ap Some (kept_within (stays f None) (stays f None) (λ l e. e) ls)

  lessened : (r : Answer) (t : Option (List Line)) → option_map (dropped f None) (lines_after r (dropped f None) t) ≡ option_map (dropped f None) t
  lessened (done u) t = dropped_again t
  lessened (refused n c) t = refl

  pub unregister_touches : (fate : Fate) → Touches f None w.entries w.lines (unregister_of f w fate).world.entries (unregister_of f w fate).world.lines
  unregister_touches fate = let d = delete_leaves w.entries f fate in record { others = d.others; lines = lessened _ w.lines; consistent = unentered _ _ w.lines d }

  pub let_go_touches : (fate : Fate) → Touches f None w.entries w.lines (let_go_of f w fate).world.entries (let_go_of f w fate).world.lines
  let_go_touches fate = let u = (delete_leaves w.entries f fate).others in record { others = u; lines = dropped_again w.lines; consistent = forgotten _ w.lines u }

-- A WAIT ONLY ARMS AND DISARMS

-- files stay, and so stay distinct
alike_apart : (es es' : List Entry) → Alike es es' → Distinct es → Distinct es'
alike_apart es es' a d = distinct_map disarmed (λ e. refl) es' (rw a (distinct_mapped disarmed (λ e. refl) es d))

alike_keeps : (es es' : List Entry) (t : Option (List Line)) → Alike es es' → Consistent es t → Consistent es' t
alike_keeps es es' None a c = tt
alike_keeps es es' (Some ls) a c = λ l m. let e = c l m in grind (arith, common_steps, alike_at l.file es' es e.0 (sym a) e.1, e.2)

rearms_alike : (ls : List Line) (vs : List Event) (es : List Entry) (xs : List Exchange) (r : Answer) (es' : List Entry) → Distinct es → Consistent es (Some ls)
    → Rearms ls vs es xs r es' → Alike es es'
rearms_alike ls [] es xs r es' d c h = ap (map disarmed) h.2
rearms_alike ls (v ∷ vs) es xs r es' d c h = at (line_of v.key ls) refl h (λ fs ys. rearms_alike ls vs fs ys r es')
  where
    at : (o : Option Line) → line_of v.key ls ≡ o → Arms o (Rearms ls vs) es xs r es'
        → ((fs : List Entry) (ys : List Exchange) → Distinct fs → Consistent fs (Some ls) → Rearms ls vs fs ys r es' → Alike fs es') → Alike es es'
    at None e h more = more es xs d c h
    at (Some l) e h more =
        let arms = changed_alike (renewed (request l OneShot)) l.file es d (λ x is. let g = c l (found_in v.key ls l e) in grind (arith, common_steps, g.2)) in
        let a : Alike es h.1 = grind (arith, common_steps, h.2) in
        grind (arith, common_steps, more h.1 h.3 (alike_apart es h.1 a d) (alike_keeps _ _ (Some ls) a c))

rearms_in_alike : (t : Option (List Line)) (vs : List Event) (es : List Entry) (xs : List Exchange) (r : Answer) (es' : List Entry) → Distinct es → Consistent es t
    → RearmsIn t vs es xs r es' → Alike es es'
rearms_in_alike None vs es xs r es' d c h = ap (map disarmed) h.2
rearms_in_alike (Some ls) vs es xs r es' d c h = rearms_alike ls vs es xs r es' d c h

-- all timers, or those that are due later than a reading
abbrev pub Later : Wheel → Wheel → Type 0
Later t t' = (t' ≡ t) ⊎ ((now : ℕ) × (t' ≡ rest now t))

-- WHAT A WAIT LEAVES OF THE WORLD, with a table that agrees: the entries but for which are armed, the lines, the most, and timers
pub record Wakens (w w' : World) : Type 0 where
  pub same : Consistent w.entries w.lines → Alike w.entries w'.entries
  pub lines : w'.lines ≡ w.lines
  pub most : w'.most ≡ w.most
  pub wheel : Later w.wheel w'.wheel

takes_leaves : (a : Answer) (vs : List Event) (w : World) (xs : List Exchange) (r : Answer) (es : List PollEvent) (w' : World) → Takes a vs w xs r es w'
    → (t : Wheel) × Later w.wheel t × (w' ≡ with_timers w t)
takes_leaves (refused n c) vs w xs r es w' h = (w.wheel, inl refl, h.3)
takes_leaves (done u) vs w xs r es w' h = (rest h.0 w.wheel, inr (h.0, refl), h.4)

wakes_leaves : (a : Answer) (vs : List Event) (w : World) (xs : List Exchange) (r : Answer) (es : List PollEvent) (w' : World) → Distinct w.entries → Wakes a vs w xs r es w' → Wakens w w'
wakes_leaves (refused n c) vs w xs r es w' d h = subst (Wakens w) (sym h.3) (record { same = λ c. refl; lines = refl; most = refl; wheel = inl refl })
wakes_leaves (done u) vs w xs r es w' d h =
    let t = takes_leaves h.0 vs (with_entries w h.1) h.4 r es w' h.6 in
    subst (Wakens w) (sym t.2) (record { same = λ c. rearms_in_alike w.lines vs w.entries h.2 h.0 h.1 d c h.3; lines = refl; most = refl; wheel = t.1 })

waited_alike : (es : List Entry) (r : Answer) (vs : List Event) (es' : List Entry) → Waited es r vs es' → Alike es es'
waited_alike es (refused n c) vs es' h = ap (map disarmed) h.1
waited_alike es (done u) vs es' h = rw h.after (told_alike h.files es)

module _ (given : Option ℕ) (w : World) (xs : List Exchange) (r : Answer) (es : List PollEvent) (w' : World) (apart : Distinct w.entries) where
  pub waits_wakens : Waits given w xs r es w' → Wakens w w'
  waits_wakens h =
      let a = waited_alike w.entries h.answer h.told h.entries h.meant in
      let k = wakes_leaves h.answer h.told (with_entries w h.entries) h.rest r es w' (alike_apart w.entries h.entries a apart) h.wakes in
      record { same = λ c. k.same (alike_keeps w.entries h.entries w.lines a c) ∙ a; lines = k.lines; most = k.most; wheel = k.wheel }

  pub waits_wakeful : Waits given w xs r es w' → Wakeful w.entries w.lines w'.entries w'.lines
  waits_wakeful h =
      let k = waits_wakens h in
      record { same = k.same; consistent = λ c. rw k.lines (alike_keeps w.entries w'.entries w.lines (k.same c) c); lines = k.lines }
