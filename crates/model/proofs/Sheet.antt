-- What a dispatch leaves on its sheet.
use Rattle.std.specs.Prelude.{if◌then◌else◌}
use Rattle.std.proofs.Common.{◌≡◌, ◌≢◌, ◌⊎◌, ℕ, Bool, true, false, List, [], ◌∷◌, ◌++◌, length, map, nat_le, Some, None, Option, inl, inr, refl, sym, ◌∙◌, ap, arith}
use Rattle.std.proofs.lemmas.Grind.{common_steps}
use Rattle.std.proofs.lemmas.List.{append-nil, map-append}
use Rattle.token.specs.declared.token.Token.{Token}
use Rattle.token.specs.Key.{own_source}
use Rattle.token.specs.Refusal.{Outcome, done, refusal, refused}
use Rattle.poller.specs.declared.entry.Readiness.{Readiness}
use Rattle.poller.specs.Meaning.{Answer}
use Rattle.post_action.specs.declared.PostAction.{PostAction}
use Rattle.timer_wheel.specs.Entries.{Rising}
use Rattle.list.specs.Slots.{fitting, placed}
use Rattle.list.specs.declared.slots.Place.{Place}
use Rattle.list.specs.declared.slots.Place.TheVariants.{Empty, Handled, Occupied}
use Rattle.list.specs.declared.slots.Slot.{Slot}
use Rattle.sys.specs.declared.event.PollEvent.{PollEvent}
use Rattle.sys.specs.World.{Exchange, World}
use Rattle.sys.proofs.Entries.{in_append}
use Rattle.sheet.specs.declared.Line.{Line}
use Rattle.sheet.specs.declared.Verdict.{Verdict}
use Rattle.sheet.specs.declared.Verdict.TheVariants.{Delivered, Lost}
use Rattle.sheet.specs.Printed.{line_of}
use Rattle.kinds.specs.declared.errand.Errand.{Errand}
use Rattle.kinds.specs.declared.source.EventSource.{Ghosts as EventSourceOf}
use Rattle.model.specs.Calls.{standing_at}
use Rattle.model.specs.Course.{Course, Takes, ends}
use Rattle.model.specs.Dispatch.{Dispatched, Hooked, Turn, Turns, acted_on, acts, action_of, asked_at, asks_hooks, dispatch_of, fate_of, hands_out, hooked_by, lost, queued, settles, synthetic, timeout_by, turn_by, turned, waits_by, woken}
use Rattle.model.specs.Laws.{Joined, Lists, NoneLost, Stopped, Woke, name_of, named}
use Rattle.model.specs.State.{Loop}
use Rattle.model.proofs.Course.{taken_made, taken_then}
use Rattle.model.proofs.Retries.{retries_bring}
use Rattle.model.proofs.Turn.{settling}
use Rattle.model.proofs.Turns.{Steps, handed_out}
use Rattle.model.proofs.Waits.{brings, refuses}
use Rattle.model.proofs.Faults.{hooks_refused, woken_refused}
use Rattle.model.proofs.Kept.{Lawful}
use Rattle.model.specs.Refusals.{by_asking, by_turn}
use Rattle.rules.specs.Refusals.{RefusedBy}

-- THE LINES, by class and key

lost_named : (es : List PollEvent) → Lists es (lost es)
lost_named [] = refl
lost_named (e ∷ es) = ap (name_of e ∷◌) (lost_named es)

-- the lines so far and those to come are the lines of `all`
abbrev Lacks : List PollEvent → List PollEvent → List Line → Type 0
Lacks all es ls = map named ls ++ map name_of es ≡ map name_of all

module _ {S : Type 0} (kind : EventSourceOf S) where
  turns_list : (all : List PollEvent) → Steps kind (λ es (a : Turns S). Lacks all es a.sheet) (λ (b : Turns S). Lists all b.sheet)
  turns_list all = record {
    step = λ e es a qs t i c. grind (arith, common_steps, map-append named a.sheet (line_of t.verdict e ∷ []));
    over = λ a i. sym (append-nil (map named a.sheet)) ∙ i;
    stop = λ n d es a is i. grind (arith, common_steps, map-append named a.sheet (lost es), lost_named es);
  }

  handed_lists : (q es : List PollEvent) (l : Loop S) (qs : List Exchange) (o : Dispatched S) → Takes kind (hands_out kind q es l) qs o → Lists (q ++ es) o.sheet × (o.waiting ≡ [])
  handed_lists q es l qs o c =
      let all = q ++ es in
      let k = handed_out kind (λ es a. Lacks all es a.sheet) (λ b. Lists all b.sheet) (turns_list all) q es l qs o (λ ys xs d. refl {a = map name_of all}) c in
      rw k.is (k.brought, refl)

  handed_brought : (q es : List PollEvent) (l : Loop S) (qs : List Exchange) (o : Dispatched S) → Takes kind (hands_out kind q es l) qs o → o.events ≡ es
  handed_brought q es l qs o c =
      let k = handed_out kind (λ es a. Unit {0}) (λ b. Unit {0}) (record { step = λ e es a qs t i c. tt; over = λ a i. tt; stop = λ n d es a is i. tt }) q es l qs o (λ ys xs d. tt) c in
      ap (λ (d : Dispatched S). d.events) k.is

-- WHAT IS LOST
module _ {S : Type 0} (kind : EventSourceOf S) where
  acted_delivered : (l : Loop S) (t : Token) (r : Outcome PostAction) (s : S) (w : World) (es : List Errand) (qs : List Exchange) (o : Turn S) → Takes kind (acted_on kind l t r s w es) qs o → o.verdict ≡ Delivered
  acted_delivered l t r s w es qs o c =
      let a = taken_then kind (settling l t r es) o (acts kind (action_of r l.pending) t (placed l.slots t.id Handled) l.lifecycle w s) qs c in
      let i = a.outcome in
      let m = taken_made kind (turned l (fate_of r i.answer) es) o (settles (fitting i.slots t) (fate_of r i.answer) t i.slots i.lifecycle i.world i.source) a.second a.rest in
      ap (λ (x : Turn S). x.verdict) m.2

  never_lost : (l : Loop S) (e : PollEvent) (t : Token) (p : Place S) (qs : List Exchange) (o : Turn S) → Takes kind (turn_by kind l e t p) qs o → o.verdict ≢ Lost
  never_lost l e t Empty qs o c is = grind (arith, common_steps)
  never_lost l e t Handled qs o c is = grind (arith, common_steps)
  never_lost l e t (Occupied s) qs o c is = grind (arith, common_steps, acted_delivered l t c.0.answer c.0.source c.0.world c.0.errands c.2 o c.4)

  none_more : (ls : List Line) (e : PollEvent) (v : Verdict) → v ≢ Lost → NoneLost ls → NoneLost (ls ++ line_of v e ∷ [])
  none_more ls e v kept none x m = elim (in_append x ls (line_of v e ∷ []) m) [ inl old ↦ none x old | inr now ↦ grind (arith, common_steps) ]

  turns_lose : Steps kind (λ es (a : Turns S). NoneLost a.sheet) (λ (b : Turns S). b.answer ≡ done tt → NoneLost b.sheet)
  turns_lose = record {
    step = λ e es a qs t none c. none_more a.sheet e t.verdict (never_lost a.loop e (own_source e.token) (standing_at a.loop.slots (fitting a.loop.slots (own_source e.token))) qs t c) none;
    over = λ a none ok. none;
    stop = λ n d es a is none ok. grind (arith, common_steps);
  }

  handed_loses : (q es : List PollEvent) (l : Loop S) (qs : List Exchange) (o : Dispatched S) → Takes kind (hands_out kind q es l) qs o → o.answer ≡ done tt → NoneLost o.sheet
  handed_loses q es l qs o c =
      let k = handed_out kind (λ es a. NoneLost a.sheet) (λ b. b.answer ≡ done tt → NoneLost b.sheet) turns_lose q es l qs o (λ ys xs d x m. absurd m) c in
      rw k.is k.brought

  woken_loses : (a : Option Answer) (q es : List PollEvent) (l : Loop S) (qs : List Exchange) (o : Dispatched S) → Takes kind (woken kind a q es l) qs o → o.answer ≡ done tt → NoneLost o.sheet
  woken_loses None q es l qs o c ok = rw c.1 (λ x m. absurd m)
  woken_loses (Some (done u)) q es l qs o c ok = handed_loses q es l qs o c ok
  woken_loses (Some (refused n d)) q es l qs o c ok = grind (arith, common_steps)

  waited_loses : (a : Answer) (t : Option ℕ) (start : ℕ) (l : Loop S) (q : List PollEvent) (qs : List Exchange) (o : Dispatched S) → Takes kind (waits_by kind a t start l q) qs o → o.answer ≡ done tt → NoneLost o.sheet
  waited_loses (done u) t start l q qs o c ok = woken_loses c.0.answer q c.0.events (record l { world = c.0.world }) c.2 o c.4 ok
  waited_loses (refused n d) t start l q qs o c ok = grind (arith, common_steps)

  -- A LINE IS LOST only in a dispatch that answers a fault.
  pub dispatch_loses : (t : Option ℕ) (l : Loop S) (q : List PollEvent) (xs : List Exchange) (o : Dispatched S) → Takes kind (dispatch_of kind t l q) xs o → o.answer ≡ done tt → NoneLost o.sheet
  dispatch_loses t l q xs o c ok =
      let asked = taken_then kind _ o (asks_hooks l.lifecycle l.slots q) c.1 c.3 in
      waited_loses asked.outcome.answer t c.0 (record l { slots = asked.outcome.slots }) asked.outcome.waiting asked.second o asked.rest ok

-- WHAT JOINS THE HOOKS' EVENTS

none_joined : (q : List PollEvent) → Joined q q
none_joined q = record { new = []; behind = sym (append-nil q); hooks = λ e m. absurd m }

one_joined : (q : List PollEvent) (a : Readiness × Token) (q' : List PollEvent) → Joined (q ++ synthetic a ∷ []) q' → Joined q q'
one_joined q a q' j = record {
  new = synthetic a ∷ j.new;
  behind = grind (arith, common_steps, j.behind);
  hooks = λ e m. elim m [ inl is ↦ ap (λ (x : PollEvent). x.class) is | inr more ↦ j.hooks e more ];
}

module _ {S : Type 0} (kind : EventSourceOf S) (ys : List Exchange) (o : Hooked S) where
  -- nothing was asked of poller and clock, and these joined
  abbrev Gathers : List PollEvent → Type 0
  Gathers q = (ys ≡ []) × Joined q o.waiting

  module _ (on : List (Slot S) → List PollEvent → Course S (Hooked S)) (rest : (xs : List (Slot S)) (q : List PollEvent) → Takes kind (on xs q) ys o → Gathers q) where
    queued_joins : (a : Outcome (Option (Readiness × Token))) (xs : List (Slot S)) (q : List PollEvent) → Takes kind (queued a xs q on) ys o → Gathers q
    queued_joins (done None) xs q k = rest xs q k
    queued_joins (done (Some a)) xs q k = let j = rest xs (q ++ synthetic a ∷ []) k in (j.0, one_joined q a o.waiting j.1)
    queued_joins (refused n c) xs q k = (k.0, rw k.1 (none_joined q))

    asked_joins : (i : ℕ) (p : Place S) (xs : List (Slot S)) (q : List PollEvent) → Takes kind (asked_at i p xs q on) ys o → Gathers q
    asked_joins i Empty xs q k = rest xs q k
    asked_joins i Handled xs q k = rest xs q k
    asked_joins i (Occupied s) xs q k = queued_joins k.0.answer (placed xs i (Occupied k.0.source)) q k.2

  hooks_join : (us : List Token) (xs : List (Slot S)) (q : List PollEvent) → Takes kind (asks_hooks us xs q) ys o → Gathers q
  hooks_join [] xs q k = (k.0, rw k.1 (none_joined q))
  hooks_join (t ∷ us) xs q k = by_room (nat_le 128 (length q)) (λ xs q. hooks_join us xs q) k
    where
      by_room : (b : Bool) → ((xs : List (Slot S)) (q : List PollEvent) → Takes kind (asks_hooks us xs q) ys o → Gathers q)
          → Takes kind (if b then ends (hooked_by (refusal 19) xs q) else asked_at t.id (standing_at xs (fitting xs t)) xs q (asks_hooks us)) ys o → Gathers q
      by_room true rest k = (k.0, rw k.1 (none_joined q))
      by_room false rest k = asked_joins (asks_hooks us) rest t.id (standing_at xs (fitting xs t)) xs q k

-- THE SHEET OF A DISPATCH
module _ {S : Type 0} (kind : EventSourceOf S) where
  woken_lists : (a : Option Answer) (q es : List PollEvent) (l : Loop S) (qs : List Exchange) (o : Dispatched S) → Takes kind (woken kind a q es l) qs o → a ≡ Some (done tt) → Lists (q ++ es) o.sheet × (o.waiting ≡ [])
  woken_lists None q es l qs o c ok = grind (arith, common_steps)
  woken_lists (Some (done u)) q es l qs o c ok = handed_lists kind q es l qs o c
  woken_lists (Some (refused n d)) q es l qs o c ok = grind (arith, common_steps)

  woken_brought : (a : Option Answer) (q es : List PollEvent) (l : Loop S) (qs : List Exchange) (o : Dispatched S) → Takes kind (woken kind a q es l) qs o → o.events ≡ es
  woken_brought None q es l qs o c = ap (λ (d : Dispatched S). d.events) c.1
  woken_brought (Some (done u)) q es l qs o c = handed_brought kind q es l qs o c
  woken_brought (Some (refused n d)) q es l qs o c = ap (λ (d : Dispatched S). d.events) c.1

  woken_fails : (a : Option Answer) (q es : List PollEvent) (l : Loop S) (qs : List Exchange) (o : Dispatched S) → Takes kind (woken kind a q es l) qs o
      → (n : ℕ) (d : Option ℕ) → a ≡ Some (refused n d) → (o.answer ≡ refused n d) × (o.sheet ≡ lost es)
  woken_fails None q es l qs o c n d is = grind (arith, common_steps)
  woken_fails (Some (done u)) q es l qs o c n d is = grind (arith, common_steps)
  woken_fails (Some (refused m b)) q es l qs o c n d is = grind (arith, common_steps)

  woken_turned : Lawful kind → (a : Option Answer) (q es : List PollEvent) (l : Loop S) (qs : List Exchange) (o : Dispatched S) → Takes kind (woken kind a q es l) qs o → a ≡ Some (done tt) → RefusedBy by_turn o.answer
  woken_turned laws None q es l qs o c ok = grind (arith, common_steps)
  woken_turned laws (Some (done u)) q es l qs o c ok = woken_refused kind laws q es l qs o c
  woken_turned laws (Some (refused n d)) q es l qs o c ok = grind (arith, common_steps)

  woken_stays : (a : Option Answer) (q es : List PollEvent) (l : Loop S) (qs : List Exchange) (o : Dispatched S) → Takes kind (woken kind a q es l) qs o → a ≢ Some (done tt) → o.waiting ≡ q
  woken_stays None q es l qs o c not = ap (λ (d : Dispatched S). d.waiting) c.1
  woken_stays (Some (done u)) q es l qs o c not = absurd (not refl)
  woken_stays (Some (refused n d)) q es l qs o c not = ap (λ (d : Dispatched S). d.waiting) c.1

  -- A DISPATCH stopped at a hook, or made its wait; where that succeeded, each event has its line.
  pub dispatch_lists : Lawful kind → (t : Option ℕ) (l : Loop S) (q : List PollEvent) → Rising l.world.wheel.timers → (xs : List Exchange) (o : Dispatched S) → Takes kind (dispatch_of kind t l q) xs o → Stopped q xs o ⊎ Woke t l.world q xs o
  dispatch_lists laws t l q rises xs o c =
      let asked = taken_then kind _ o (asks_hooks l.lifecycle l.slots q) c.1 c.3 in
      let joins = hooks_join kind asked.first asked.outcome l.lifecycle l.slots q asked.came in
      by_answer asked.outcome.answer asked.outcome.waiting asked.outcome.slots asked.second joins.1 (hooks_refused kind laws asked.first asked.outcome l.lifecycle l.slots q asked.came) (rw joins.0 at asked.asked) asked.rest
    where
      by_answer : (a : Answer) (queue : List PollEvent) (slots : List (Slot S)) (ys : List Exchange) → Joined q queue → RefusedBy by_asking a → c.1 ≡ ys → Takes kind (waits_by kind a t c.0 (record l { slots = slots }) queue) ys o → Stopped q xs o ⊎ Woke t l.world q xs o
      by_answer (refused n d) queue slots ys j by is k = inl (record {
        start = c.0;
        asked = grind (arith, common_steps);
        number = n;
        code = d;
        fault = ap (λ (d : Dispatched S). d.answer) k.1;
        by = rw k.1 by;
        joined = rw k.1 j;
        events = ap (λ (d : Dispatched S). d.events) k.1;
        sheet = ap (λ (d : Dispatched S). d.sheet) k.1;
      })
      by_answer (done u) queue slots ys j by is k = inr (record {
        start = c.0;
        queue = queue;
        joined = j;
        woken = k.0;
        retries = k.1;
        rest = k.2;
        asked = grind (arith, common_steps);
        events = woken_brought k.0.answer queue k.0.events (record l { slots = slots; world = k.0.world }) k.2 o k.4;
        lists = λ ok.
            let w = woken_lists k.0.answer queue k.0.events (record l { slots = slots; world = k.0.world }) k.2 o k.4 ok in
            (retries_bring _ brings (timeout_by queue t) c.0 63 (timeout_by queue t) l.world k.0.exchanges k.0.answer k.0.events k.0.world k.1 rises ok, w.0, w.1);
        fails = woken_fails k.0.answer queue k.0.events (record l { slots = slots; world = k.0.world }) k.2 o k.4;
        waited = retries_bring _ refuses (timeout_by queue t) c.0 63 (timeout_by queue t) l.world k.0.exchanges k.0.answer k.0.events k.0.world k.1;
        turned = woken_turned laws k.0.answer queue k.0.events (record l { slots = slots; world = k.0.world }) k.2 o k.4;
        stays = λ not. woken_stays k.0.answer queue k.0.events (record l { slots = slots; world = k.0.world }) k.2 o k.4 not;
      })
