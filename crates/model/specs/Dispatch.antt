-- A DISPATCH, as what it asks of the sources, the poller and the clock, and what it comes to.
use Rattle.std.specs.Prelude.{ℕ, Bool, true, false, if◌then◌else◌, List, [], ◌∷◌, ◌++◌, map, length, Some, None, Option, nat_le}
use Rattle.token.specs.declared.token.Token.{Token}
use Rattle.token.specs.Key.{own_source}
use Rattle.token.specs.Refusal.{Outcome, done, refused, refusal}
use Rattle.poller.specs.declared.entry.Readiness.{Readiness}
use Rattle.poller.specs.Meaning.{Answer}
use Rattle.post_action.specs.declared.PostAction.{PostAction}
use Rattle.post_action.specs.declared.PostAction.TheVariants.{Continue, Reregister, Disable, Remove}
use Rattle.list.specs.Entries.{left}
use Rattle.list.specs.Slots.{fitting, marked, placed}
use Rattle.list.specs.declared.slots.Place.{Place}
use Rattle.list.specs.declared.slots.Place.TheVariants.{Empty, Occupied, Handled}
use Rattle.list.specs.declared.slots.Slot.{Slot}
use Rattle.sys.specs.declared.event.Class.TheVariants.{Synthetic}
use Rattle.sys.specs.declared.event.PollEvent.{PollEvent}
use Rattle.sys.specs.World.{World}
use Rattle.kinds.specs.Events.{of_source}
use Rattle.kinds.specs.declared.errand.Errand.{Errand}
use Rattle.kinds.specs.declared.source.EventSource.{Ghosts as EventSourceOf}
use Rattle.sheet.specs.declared.Line.{Line}
use Rattle.sheet.specs.declared.Verdict.{Verdict}
use Rattle.sheet.specs.declared.Verdict.TheVariants.{Delivered, Lost, Stale}
use Rattle.sheet.specs.Printed.{line_of}
use Rattle.model.specs.Calls.{Acted, renews, standing_at, withdraws}
use Rattle.model.specs.Course.{Course, and_then, ends, finishes, leaves, processes, reads, sees, sleeps, unregisters, waits}
use Rattle.model.specs.Decide.{decided}
use Rattle.model.specs.State.{Loop}

-- THE HOOKS

-- what is left once the sources were asked before the wait
pub record Hooked (S : Type 0) : Type 0 where
  pub answer : Answer
  pub slots : List (Slot S)
  -- the hooks' events that wait for a wait that succeeds
  pub waiting : List PollEvent

abbrev pub hooked_by : {S : Type 0} → Answer → List (Slot S) → List PollEvent → Hooked S
hooked_by r xs q = record { answer = r; slots = xs; waiting = q }

abbrev pub synthetic : Readiness × Token → PollEvent
synthetic a = record { class = Synthetic; readiness = a.0; token = a.1 }

module _ {S : Type 0} where
  -- its event joins the queue; a fault stops
  abbrev pub queued : Outcome (Option (Readiness × Token)) → List (Slot S) → List PollEvent → (List (Slot S) → List PollEvent → Course S (Hooked S)) → Course S (Hooked S)
  queued (done None) xs q on = on xs q
  queued (done (Some a)) xs q on = on xs (q ++ synthetic a ∷ [])
  queued (refused n c) xs q on = ends (hooked_by (refused n c) xs q)

  abbrev pub asked_at : ℕ → Place S → List (Slot S) → List PollEvent → (List (Slot S) → List PollEvent → Course S (Hooked S)) → Course S (Hooked S)
  asked_at i (Occupied s) xs q on = sleeps s (λ c. queued c.answer (placed xs i (Occupied c.source)) q on)
  asked_at i p xs q on = on xs q

  -- the source of each lifecycle entry is asked for an event, for which there must be room
  abbrev pub asks_hooks : List Token → List (Slot S) → List PollEvent → Course S (Hooked S)
  asks_hooks [] xs q = ends (hooked_by (done tt) xs q)
  asks_hooks (t ∷ ts) xs q = if nat_le 128 (length q) then ends (hooked_by (refusal 19) xs q) else asked_at t.id (standing_at xs (fitting xs t)) xs q (asks_hooks ts)

  abbrev pub shown_at : ℕ → Place S → List PollEvent → List (Slot S) → (List (Slot S) → Course S (List (Slot S))) → Course S (List (Slot S))
  shown_at i (Occupied s) es xs on = sees s es (λ s'. on (placed xs i (Occupied s')))
  shown_at i p es xs on = on xs

  -- the source of each lifecycle entry is shown its own events
  abbrev pub shows_hooks : List PollEvent → List Token → List (Slot S) → Course S (List (Slot S))
  shows_hooks es [] xs = ends xs
  shows_hooks es (t ∷ ts) xs = shown_at t.id (standing_at xs (fitting xs t)) (of_source t es) xs (shows_hooks es ts)

-- A TURN

-- what an act on the source in hand leaves
pub record InHand (S : Type 0) : Type 0 where
  pub answer : Answer
  pub source : S
  pub slots : List (Slot S)
  pub lifecycle : List Token
  pub world : World

-- the slot that the token fits says that its source is enabled, or that it is not
abbrev pub noted_at : {S : Type 0} → Option ℕ → List (Slot S) → Bool → List (Slot S)
noted_at None xs b = xs
noted_at (Some i) xs b = marked xs i b

abbrev pub noted : {S : Type 0} → Answer → List (Slot S) → Token → Bool → List (Slot S)
noted (done u) xs t b = noted_at (fitting xs t) xs b
noted (refused n c) xs t b = xs

abbrev pub held : {S : Type 0} → List (Slot S) → Token → Bool → Acted S → InHand S
held xs t b a = record { answer = a.answer; source = a.source; slots = noted a.answer xs t b; lifecycle = a.lifecycle; world = a.world }

abbrev pub emptied_at : {S : Type 0} → Option ℕ → List (Slot S) → List (Slot S)
emptied_at None xs = xs
emptied_at (Some i) xs = placed xs i Empty

-- which action is done: the pending one in place of a Continue, and at a fault of the source
abbrev pub action_of : Outcome PostAction → PostAction → PostAction
action_of (done a) pending = decided a pending
action_of (refused n c) pending = pending

-- the source's own fault goes before that of the action
abbrev pub fate_of : Outcome PostAction → Answer → Answer
fate_of (done a) r = r
fate_of (refused n c) r = refused n c

-- what a turn leaves
pub record Turn (S : Type 0) : Type 0 where
  pub answer : Answer
  pub verdict : Verdict
  pub loop : Loop S
  -- what its source asked for
  pub errands : List Errand

module _ {S : Type 0} (kind : EventSourceOf S) where
  abbrev pub acts : PostAction → Token → List (Slot S) → List Token → World → S → Course S (InHand S)
  acts Continue t xs ts w s = ends (record { answer = done tt; source = s; slots = xs; lifecycle = ts; world = w })
  acts Reregister t xs ts w s = and_then (renews kind ts w s t) (λ a. ends (held xs t true a))
  acts Disable t xs ts w s = and_then (withdraws kind ts w s t) (λ a. ends (held xs t false a))
  acts Remove t xs ts w s = ends (record { answer = done tt; source = s; slots = emptied_at (fitting xs t) xs; lifecycle = ts; world = w })

-- the slots, the lifecycle entries and the world once a source in hand went back or left
pub record Settled (S : Type 0) : Type 0 where
  pub slots : List (Slot S)
  pub lifecycle : List Token
  pub world : World

module _ {S : Type 0} where
  -- it is unregistered unless the turn failed, whatever is answered, and let go, and ends
  abbrev pub dismisses : Answer → Token → List (Slot S) → List Token → World → S → Course S (Settled S)
  dismisses (done u) t xs ts w s = unregisters s w (λ c. leaves c.source c.world (λ g. finishes g.source (ends (record { slots = xs; lifecycle = left t ts; world = g.world }))))
  dismisses (refused n c) t xs ts w s = leaves s w (λ g. finishes g.source (ends (record { slots = xs; lifecycle = left t ts; world = g.world })))

  -- it goes back into the slot that its token fits; where none does it leaves
  abbrev pub settles : Option ℕ → Answer → Token → List (Slot S) → List Token → World → S → Course S (Settled S)
  settles (Some i) fate t xs ts w s = ends (record { slots = placed xs i (Occupied s); lifecycle = ts; world = w })
  settles None fate t xs ts w s = dismisses fate t xs ts w s

  -- nothing is pending after a turn
  abbrev pub turned : Loop S → Answer → List Errand → Settled S → Turn S
  turned l fate asked e = record { answer = fate; verdict = Delivered; loop = record l { slots = e.slots; lifecycle = e.lifecycle; world = e.world; pending = Continue }; errands = asked }

  -- no source is called, so nothing is asked for
  abbrev pub stale : Loop S → Turn S
  stale l = record { answer = done tt; verdict = Stale; loop = l; errands = [] }

module _ {S : Type 0} (kind : EventSourceOf S) where
  abbrev pub acted_on : Loop S → Token → Outcome PostAction → S → World → List Errand → Course S (Turn S)
  acted_on l t r s w asked =
      and_then (acts kind (action_of r l.pending) t (placed l.slots t.id Handled) l.lifecycle w s)
      (λ a. and_then (settles (fitting a.slots t) (fate_of r a.answer) t a.slots a.lifecycle a.world a.source) (λ e. ends (turned l (fate_of r a.answer) asked e)))

  abbrev pub turn_by : Loop S → PollEvent → Token → Place S → Course S (Turn S)
  turn_by l e t (Occupied s) = processes s l.world e.readiness e.token (λ c. acted_on l t c.answer c.source c.world c.errands)
  turn_by l e t p = ends (stale l)

  -- THE TURN of an event: its source is called, if its token fits a slot
  abbrev pub turn_of : Loop S → PollEvent → Course S (Turn S)
  turn_of l e = turn_by l e (own_source e.token) (standing_at l.slots (fitting l.slots (own_source e.token)))

-- ALL TURNS

abbrev pub lost : List PollEvent → List Line
lost es = map (line_of Lost) es

-- what turns leave, with the errands of the last
pub record Turns (S : Type 0) : Type 0 where
  pub answer : Answer
  pub loop : Loop S
  pub errands : List Errand
  pub sheet : List Line

-- before the first
abbrev pub no_turns : {S : Type 0} → Loop S → Turns S
no_turns l = record { answer = done tt; loop = l; errands = []; sheet = [] }

-- a turn more, and its line behind the lines so far
abbrev pub with_turn : {S : Type 0} → Turns S → PollEvent → Turn S → Turns S
with_turn a e t = record { answer = t.answer; loop = t.loop; errands = t.errands; sheet = a.sheet ++ line_of t.verdict e ∷ [] }

abbrev pub with_lost : {S : Type 0} → Turns S → List PollEvent → Turns S
with_lost a es = record a { sheet = a.sheet ++ lost es }

module _ {S : Type 0} (kind : EventSourceOf S) where
  -- at a fault the later events are lost
  abbrev pub goes_on : Answer → (Turns S → Course S (Turns S)) → List PollEvent → Turns S → Course S (Turns S)
  goes_on (done u) on es a = on a
  goes_on (refused n c) on es a = ends (with_lost a es)

  -- each event has its turn
  abbrev pub turns_of : List PollEvent → Turns S → Course S (Turns S)
  turns_of [] a = ends a
  turns_of (e ∷ es) a = and_then (turn_of kind a.loop e) (λ t. goes_on t.answer (turns_of es) es (with_turn a e t))

-- A DISPATCH

-- all that it leaves
pub record Dispatched (S : Type 0) : Type 0 where
  pub answer : Answer
  pub loop : Loop S
  -- what was asked for in its last turn
  pub errands : List Errand
  -- the hooks' events that still wait
  pub waiting : List PollEvent
  -- what its wait brought
  pub events : List PollEvent
  pub sheet : List Line

-- before any turn
abbrev pub unhandled : {S : Type 0} → Answer → Loop S → List PollEvent → List PollEvent → List Line → Dispatched S
unhandled r l q es ls = record { answer = r; loop = l; errands = []; waiting = q; events = es; sheet = ls }

-- no event of the hooks waits after the turns
abbrev pub handled : {S : Type 0} → List PollEvent → Turns S → Dispatched S
handled es a = record { answer = a.answer; loop = a.loop; errands = a.errands; waiting = []; events = es; sheet = a.sheet }

-- while events of the hooks wait the timeout is 0
abbrev pub timeout_by : List PollEvent → Option ℕ → Option ℕ
timeout_by [] t = t
timeout_by (e ∷ es) t = Some 0

module _ {S : Type 0} (kind : EventSourceOf S) where
  -- the hooks' events first, and then the poller's and the timers'
  abbrev pub hands_out : List PollEvent → List PollEvent → Loop S → Course S (Dispatched S)
  hands_out q es l =
      and_then (shows_hooks es l.lifecycle l.slots) (λ xs. and_then (turns_of kind q (no_turns (record l { slots = xs })))
      (λ a. and_then (goes_on kind a.answer (turns_of kind es) es a) (λ b. ends (handled es b))))

  -- after the wait; where it failed what was reported is lost
  abbrev pub woken : Option Answer → List PollEvent → List PollEvent → Loop S → Course S (Dispatched S)
  woken None q es l = ends (unhandled (done tt) l q es [])
  woken (Some (done u)) q es l = hands_out q es l
  woken (Some (refused n c)) q es l = ends (unhandled (refused n c) l q es (lost es))

  abbrev pub waits_by : Answer → Option ℕ → ℕ → Loop S → List PollEvent → Course S (Dispatched S)
  waits_by (done u) t start l q = waits (timeout_by q t) start l.world (λ c. woken c.answer q c.events (record l { world = c.world }))
  waits_by (refused n c) t start l q = ends (unhandled (refused n c) l q [] [])

  -- A DISPATCH over the loop, with the hooks' events that wait already
  abbrev pub dispatch_of : Option ℕ → Loop S → List PollEvent → Course S (Dispatched S)
  dispatch_of t l q = reads (λ start. and_then (asks_hooks l.lifecycle l.slots q) (λ h. waits_by h.answer t start (record l { slots = h.slots }) h.waiting))
