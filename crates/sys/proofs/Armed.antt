-- Re-arming arms: what a wait that succeeds leaves of the entries that it reported.
use Rattle.std.proofs.Common.{◌≡◌, ℕ, true, List, [], ◌∷◌, ◌++◌, map, Some, None, Option, refl, inl, inr, arith}
use Rattle.std.proofs.lemmas.Bool.{cases_eq}
use Rattle.std.proofs.lemmas.Grind.{common_steps}
use Rattle.token.specs.Refusal.{done}
use Rattle.poller.specs.declared.entry.Entry.{Entry}
use Rattle.poller.specs.declared.entry.Event.{Event}
use Rattle.poller.specs.declared.entry.Mode.TheVariants.{OneShot}
use Rattle.poller.specs.Meaning.{Answer, By, modify_of}
use Rattle.poller.specs.declared.entry.Request.{Request}
use Rattle.poller.specs.Register.{entry_of}
use Rattle.timer_wheel.specs.declared.timeout.TimeoutData.{TimeoutData}
use Rattle.timer_wheel.specs.Laws.{due_by}
use Rattle.levels.specs.declared.table.Line.{Line}
use Rattle.levels.specs.Table.{line_of}
use Rattle.sys.specs.declared.event.Class.TheVariants.{Polled}
use Rattle.sys.specs.declared.event.PollEvent.{PollEvent}
use Rattle.sys.specs.Laws.{In, Rearmed}
use Rattle.sys.specs.Polling.{request}
use Rattle.sys.specs.Wait.{Arms, Rearms, RearmsIn, Waits}
use Rattle.sys.specs.World.{Exchange, World}
use Rattle.sys.specs.Event.{polled, rung}
use Rattle.sys.proofs.Entries.{in_append}
use Rattle.sys.proofs.Outcomes.{modify_leaves}

-- the file's entry, if it stands, is armed
abbrev Armed : List Entry → ℕ → Type 0
Armed es f = (e : Entry) → entry_of f es ≡ Some e → e.armed ≡ true

-- an accepted modify arms its entry, and disarms none
modified_arms : (es : List Entry) (q : Request) (r : Answer) (es' : List Entry) → By (modify_of es q) r es' → r ≡ done tt
    → Armed es' q.file × ((f : ℕ) → Armed es f → Armed es' f)
modified_arms es q r es' b d =
    let m = modify_leaves es q b.0 in
    (λ e is. grind (arith, common_steps, b.1, m.now), λ f a e is. grind (arith, common_steps, b.1, m.now, m.others f, a e, cases_eq f q.file))

in_polled : (v : PollEvent) (ws : List Event) → In v (map polled ws) → (w : Event) × In w ws × (v ≡ polled w)
in_polled v [] h = absurd h
in_polled v (w ∷ ws) (inl e) = (w, inl refl, e)
in_polled v (w ∷ ws) (inr h) = let r = in_polled v ws h in (r.0, inr r.1, r.2)

-- no timer is an event of the poller
not_rung : (v : PollEvent) (xs : List TimeoutData) → v.class ≡ Polled → In v (map rung xs) → ⊥
not_rung v [] c h = h
not_rung v (x ∷ xs) c h = grind (arith, common_steps, not_rung v xs c)

-- what was armed stays armed, and what was reported and has a line is armed
abbrev Kept : List Entry → List Entry → List Line → List Event → Type 0
Kept es es' ls vs = ((f : ℕ) → Armed es f → Armed es' f) × ((w : Event) → In w vs → (l : Line) → line_of w.key ls ≡ Some l → Armed es' l.file)

arms : (ls : List Line) (vs : List Event) (es : List Entry) (xs : List Exchange) (r : Answer) (es' : List Entry) → Rearms ls vs es xs r es' → r ≡ done tt → Kept es es' ls vs
arms ls [] es xs r es' h d = (λ f a. rw h.2 a, λ w i. absurd i)
arms ls (v ∷ vs) es xs r es' h d = at (line_of v.key ls) refl h (λ fs ys k. arms ls vs fs ys r es' k d)
  where
    at : (o : Option Line) → line_of v.key ls ≡ o → Arms o (Rearms ls vs) es xs r es'
        → ((fs : List Entry) (ys : List Exchange) → Rearms ls vs fs ys r es' → Kept fs es' ls vs) → Kept es es' ls (v ∷ vs)
    at None e h on = let k = on es xs h in (k.0, λ w i l is. grind (arith, common_steps, k.1 w))
    at (Some m) e h on =
        let g : (h.0 ≡ done tt) × Rearms ls vs h.1 h.3 r es' = grind (arith, common_steps) in
        let b = modified_arms es (request m OneShot) h.0 h.1 h.2 g.0 in
        let k = on h.1 h.3 g.1 in
        (λ f x. k.0 f (b.1 f x), λ w i l is. grind (arith, common_steps, k.1 w, k.0 m.file b.0))

found : (t : Option (List Line)) (told : List Event) (due : List TimeoutData) (vs : List PollEvent) (es : List Entry) (xs : List Exchange) (es' : List Entry)
    → RearmsIn t told es xs (done tt) es' → vs ≡ map polled told ++ map rung due → Rearmed t vs es'
found None told due vs es xs es' h e = tt
found (Some ls) told due vs es xs es' h e = λ v i c l k y is.
    grind (arith, common_steps, in_append v (map polled told) (map rung due), in_polled v told, not_rung v due c, (arms ls told es xs (done tt) es' h refl).1)

-- A WAIT THAT SUCCEEDS has armed again each reported key that has a line.
pub waits_rearmed : (given : Option ℕ) (w : World) (xs : List Exchange) (r : Answer) (vs : List PollEvent) (w' : World) → Waits given w xs r vs w' → r ≡ done tt → Rearmed w.lines vs w'.entries
waits_rearmed given w xs r vs w' h d =
    let k : (now : ℕ) × (ys : List Exchange) × RearmsIn w.lines h.told h.entries ys (done tt) w'.entries × (vs ≡ map polled h.told ++ map rung (due_by now w.wheel.timers)) = grind (arith, common_steps, h.wakes) in
    found w.lines h.told (due_by k.0 w.wheel.timers) vs h.entries k.1 w'.entries k.2 k.3
