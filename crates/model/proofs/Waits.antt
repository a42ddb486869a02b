-- What an interrupted wait leaves, and what one that succeeds brings.
use Rattle.std.specs.Prelude.{if◌then◌else◌}
use Rattle.std.proofs.Common.{◌≡◌, ℕ, Bool, true, false, List, [], ◌∷◌, ◌++◌, Ok, Err, Some, None, Option, ap, inl, inr, nat_le, refl, subst, sym, arith}
use Rattle.std.proofs.lemmas.Grind.{common_steps}
use Rattle.std.proofs.lemmas.List.{append_assoc}
use Rattle.std.proofs.lemmas.List.Kept.{IsNonDecreasingBy-filter}
use Rattle.token.specs.Refusal.{done, refusal, refused}
use Rattle.poller.specs.declared.entry.Entry.{Entry}
use Rattle.poller.specs.declared.entry.Event.{Event}
use Rattle.poller.specs.declared.entry.Mode.TheVariants.{OneShot}
use Rattle.poller.specs.declared.entry.Request.{Request}
use Rattle.poller.specs.Meaning.{Answer, By, Fate, Waited, altered, modify_of}
use Rattle.poller.specs.Register.{holds}
use Rattle.timer_wheel.specs.Entries.{Rising}
use Rattle.timer_wheel.specs.Wheel.{Wheel}
use Rattle.timer_wheel.specs.declared.timeout.TimeoutData.{TimeoutData}
use Rattle.levels.specs.declared.table.Line.{Line}
use Rattle.levels.specs.Table.{line_of}
use Rattle.sys.specs.declared.event.PollEvent.{PollEvent}
use Rattle.sys.specs.Polling.{request}
use Rattle.sys.specs.Wait.{Arms, Goes, Rearms, RearmsIn, Takes, Waits, Wakes}
use Rattle.sys.specs.World.{Exchange, World, modified, read, waited, with_entries}
use Rattle.rules.specs.Refusals.{RefusedBy}
use Rattle.model.specs.Laws.{Accepted, Brought}
use Rattle.model.specs.Refusals.{by_arming, by_wait}
use Rattle.model.specs.Retries.{interrupted}
use Rattle.model.proofs.Retries.{Carries}

-- RE-ARMING is not interrupted, and where it succeeds each modify was accepted.
record Armed (xs : List Exchange) (a : Answer) : Type 0 where
  whole : interrupted a ≡ false
  by : RefusedBy by_arming a
  accepted : a ≡ done tt → Accepted xs

none_armed : (xs : List Exchange) (a : Answer) → xs ≡ [] → a ≡ done tt → Armed xs a
none_armed xs a none fine = rw (none, fine) (record { whole = refl; by = tt; accepted = λ ok x m. absurd m })

-- a modify that is refused
modify_whole : (es : List Entry) (q : Request) (fate : Fate) (b : Bool) → interrupted (if b then altered es q fate else (refusal 12, es)).0 ≡ false
modify_whole es q fate false = refl
modify_whole es q (Ok u) true = refl
modify_whole es q (Err c) true = refl

modify_by : (es : List Entry) (q : Request) (fate : Fate) (b : Bool) → RefusedBy by_arming (if b then altered es q fate else (refusal 12, es)).0
modify_by es q fate false = (refl, refl)
modify_by es q (Ok u) true = tt
modify_by es q (Err c) true = (refl, refl)

module _ (ls : List Line) (a : Answer) (es' : List Entry) where
  abbrev AllArmed : List Event → Type 0
  AllArmed vs = (es : List Entry) (xs : List Exchange) → Rearms ls vs es xs a es' → Armed xs a

  goes_armed : (vs : List Event) → AllArmed vs → (q : Request) (b : Answer) (es fs : List Entry) (xs : List Exchange) → By (modify_of es q) b fs → Goes b (Rearms ls vs) fs xs a es' → Armed (modified q b ∷ xs) a
  goes_armed vs more q (done u) es fs xs by k =
      let rest = more fs xs k in
      record { whole = rest.whole; by = rest.by; accepted = λ ok x m. elim m [ inl is ↦ (q, is) | inr later ↦ rest.accepted ok x later ] }
  goes_armed vs more q (refused n c) es fs xs by k =
      let answered : refused n c ≡ (modify_of es q by.0).0 = ap (λ o. o.0) by.1 in
      let whole : interrupted (refused n c) ≡ false = subst (λ r. interrupted r ≡ false) (sym answered) (modify_whole es q by.0 (holds q.file es)) in
      let by : RefusedBy {T = Unit {0}} by_arming (refused n c) = subst (RefusedBy by_arming) (sym answered) (modify_by es q by.0 (holds q.file es)) in
      record { whole = rw k.1 whole; by = rw k.1 by; accepted = λ ok. grind (arith, common_steps) }

  arms_armed : (vs : List Event) → AllArmed vs → (l : Option Line) (es : List Entry) (xs : List Exchange) → Arms l (Rearms ls vs) es xs a es' → Armed xs a
  arms_armed vs more None es xs k = more es xs k
  arms_armed vs more (Some l) es xs k = rw k.4 (goes_armed vs more (request l OneShot) k.0 es k.1 k.3 k.2 k.5)

  all_armed : (vs : List Event) → AllArmed vs
  all_armed [] es xs k = none_armed xs a k.0 k.1
  all_armed (v ∷ vs) es xs k = arms_armed vs (all_armed vs) (line_of v.key ls) es xs k

rearmed : (ls : Option (List Line)) (vs : List Event) (es : List Entry) (xs : List Exchange) (a : Answer) (es' : List Entry) → RearmsIn ls vs es xs a es' → Armed xs a
rearmed None vs es xs a es' k = none_armed xs a k.0 k.1
rearmed (Some ls) vs es xs a es' k = all_armed ls a es' vs es xs k

module _ (left : Option ℕ) (w : World) (xs : List Exchange) (a : Answer) (es : List PollEvent) (w' : World) (h : Waits left w xs a es w') where
  -- AN INTERRUPTED WAIT brings no event and leaves the world.
  pub interrupted_quiet : interrupted a ≡ true → (es ≡ []) × (w' ≡ w)
  interrupted_quiet is = wakes h.answer h.entries h.meant h.wakes
    where
      taking : (b : Answer) (v : World) (ys : List Exchange) → interrupted b ≡ false → Takes b h.told v ys a es w' → ⊥
      taking (done u) v ys whole k = grind (arith, common_steps)
      taking (refused n c) v ys whole k = grind (arith, common_steps)

      wakes : (b : Answer) (fs : List Entry) → Waited w.entries b h.told fs → Wakes b h.told (with_entries w fs) h.rest a es w' → (es ≡ []) × (w' ≡ w)
      wakes (refused n c) fs m k = (k.2, subst (λ gs. w' ≡ with_entries w gs) m.1 k.3)
      wakes (done u) fs m k = absurd (taking k.0 (with_entries (with_entries w fs) k.1) k.4 (rearmed w.lines h.told fs k.2 k.0 k.1 k.3).whole k.6)

  -- A WAIT IS REFUSED as its poller answers, or as a modify was.
  pub waits_refused : RefusedBy by_wait a
  waits_refused = wakes h.answer h.entries h.meant h.wakes
    where
      arming_wait : (b : Answer) → RefusedBy by_arming b → RefusedBy by_wait b
      arming_wait (done u) by = tt
      arming_wait (refused n c) by = (grind (arith, common_steps, by.0), by.1)

      taking : (b : Answer) (v : World) (ys : List Exchange) → RefusedBy by_arming b → Takes b h.told v ys a es w' → RefusedBy by_wait a
      taking (done u) v ys by k = rw k.2 tt
      taking (refused n c) v ys by k = rw k.1 (arming_wait (refused n c) by)

      wakes : (b : Answer) (fs : List Entry) → Waited w.entries b h.told fs → Wakes b h.told (with_entries w fs) h.rest a es w' → RefusedBy by_wait a
      wakes (refused n c) fs m k = rw k.1 (elim m.2 [ inl at ↦ rw (at.0, at.1) (refl, refl) | inr at ↦ rw at.0 (refl, at.1) ])
      wakes (done u) fs m k = taking k.0 (with_entries (with_entries w fs) k.1) k.4 (rearmed w.lines h.told fs k.2 k.0 k.1 k.3).by k.6

  -- ONE THAT SUCCEEDS
  waits_bring : Rising w.wheel.timers → a ≡ done tt → Brought w.wheel xs es
  waits_bring rises ok = wakes h.answer h.entries h.asked h.wakes
    where
      taking : (b : Answer) (fs gs : List Entry) (arming ys : List Exchange) → xs ≡ h.reading ++ waited h.timeout (done tt) h.told ∷ (arming ++ ys) → Armed arming b → Takes b h.told (with_entries (with_entries w fs) gs) ys a es w' → Brought w.wheel xs es
      taking (done u) fs gs arming ys is armed k = record {
        before = h.reading;
        timeout = h.timeout;
        told = h.told;
        arming = arming;
        accepted = armed.accepted refl;
        now = k.0;
        asked = rw k.1 at is;
        is = k.3;
        rising = IsNonDecreasingBy-filter (λ (x : TimeoutData). x.deadline) (λ (x : TimeoutData). nat_le x.deadline k.0) w.wheel.timers rises;
      }
      taking (refused n c) fs gs arming ys is armed k = grind (arith, common_steps)

      wakes : (b : Answer) (fs : List Entry) → xs ≡ h.reading ++ waited h.timeout b h.told ∷ h.rest → Wakes b h.told (with_entries w fs) h.rest a es w' → Brought w.wheel xs es
      wakes (refused n c) fs is k = grind (arith, common_steps)
      wakes (done u) fs is k = taking k.0 fs k.1 k.2 k.4 (rw k.5 at is) (rearmed w.lines h.told fs k.2 k.0 k.1 k.3) k.6

brought_behind : (ys : List Exchange) (wheel : Wheel) (xs : List Exchange) (es : List PollEvent) → Brought wheel xs es → Brought wheel (ys ++ xs) es
brought_behind ys wheel xs es b = record {
  before = ys ++ b.before;
  timeout = b.timeout;
  told = b.told;
  arming = b.arming;
  accepted = b.accepted;
  now = b.now;
  asked = rw (b.asked, append_assoc) refl;
  is = b.is;
  rising = b.rising;
}

pub brings : Carries (λ w xs r es w'. Rising w.wheel.timers → r ≡ Some (done tt) → Brought w.wheel xs es)
brings = record {
  last = λ left w xs a es w' k rises ok. waits_bring left w xs a es w' k rises (grind (arith, common_steps));
  again = λ left w ys a vs v zs r es w' k is on rises ok.
      let same = (interrupted_quiet left w ys a vs v k is).1 in
      brought_behind ys w.wheel zs es (subst (λ u. Rising u.wheel.timers → Brought u.wheel zs es) same (λ up. on up ok) rises);
  reads = λ now w xs r es w' on rises ok. brought_behind (read now ∷ []) w.wheel xs es (on rises ok);
  quiet = λ w rises ok. grind (arith, common_steps);
}

-- a wait with its retries is refused as each of its waits may be
pub refuses : Carries (λ w xs r es w'. (a : Answer) → r ≡ Some a → RefusedBy by_wait a)
refuses = record {
  last = λ left w xs b es w' k a is. subst (RefusedBy by_wait) (grind (arith, common_steps)) (waits_refused left w xs b es w' k);
  again = λ left w ys b vs v zs r es w' k is on. on;
  reads = λ now w xs r es w' on. on;
  quiet = λ w a is. grind (arith, common_steps);
}
