-- WHAT A DISPATCH LEAVES ON ITS SHEET, in place of its text.
use Rattle.std.specs.Prelude.{◌≡◌, ◌≢◌, ℕ, List, [], ◌∷◌, ◌++◌, map, Some, Option}
use Rattle.token.specs.Key.{key_of}
use Rattle.token.specs.Refusal.{done, refused}
use Rattle.poller.specs.Meaning.{Answer}
use Rattle.poller.specs.declared.entry.Event.{Event}
use Rattle.poller.specs.declared.entry.Request.{Request}
use Rattle.timer_wheel.specs.Entries.{Rising}
use Rattle.timer_wheel.specs.Laws.{due_by}
use Rattle.timer_wheel.specs.Wheel.{Wheel}
use Rattle.sys.specs.Event.{polled, rung}
use Rattle.sys.specs.Laws.{In}
use Rattle.sys.specs.World.{Exchange, World, modified, read, waited}
use Rattle.sys.specs.declared.event.Class.{Class}
use Rattle.sys.specs.declared.event.Class.TheVariants.{Synthetic}
use Rattle.sys.specs.declared.event.PollEvent.{PollEvent}
use Rattle.rules.specs.Refusals.{RefusedBy}
use Rattle.sheet.specs.declared.Line.{Line}
use Rattle.sheet.specs.declared.Verdict.TheVariants.{Lost}
use Rattle.model.specs.Course.{Woken}
use Rattle.model.specs.Dispatch.{Dispatched, lost, timeout_by}
use Rattle.model.specs.Refusals.{by_asking, by_turn, by_wait}
use Rattle.model.specs.Retries.{Retries}

-- no line says that its event was lost
abbrev pub NoneLost : List Line → Type 0
NoneLost ls = (x : Line) → In x ls → x.verdict ≢ Lost

-- class and key, of an event and of a line
abbrev pub name_of : PollEvent → Class × ℕ
name_of e = (e.class, key_of e.token)

abbrev pub named : Line → Class × ℕ
named x = (x.class, x.key)

-- one line for each event, in their order, with its class and key
abbrev pub Lists : List PollEvent → List Line → Type 0
Lists es ls = map named ls ≡ map name_of es

-- an entry was armed again each time
abbrev pub Accepted : List Exchange → Type 0
Accepted xs = (x : Exchange) → In x xs → (q : Request) × (x ≡ modified q (done tt))

-- What a wait that succeeds brings: the events that the poller reported to the last wait, and then all timers that stood in the
-- wheel and were due by the clock that was read behind it, by rising deadline.
pub record Brought (wheel : Wheel) (xs : List Exchange) (es : List PollEvent) : Type 0 where
  -- readings of the clock, and waits that were interrupted
  pub before : List Exchange
  pub timeout : Option ℕ
  pub told : List Event
  pub arming : List Exchange
  pub accepted : Accepted arming
  pub now : ℕ
  pub asked : xs ≡ before ++ waited timeout (done tt) told ∷ (arming ++ read now ∷ [])
  pub is : es ≡ map polled told ++ map rung (due_by now wheel.timers)
  pub rising : Rising (due_by now wheel.timers)

-- events of the hooks joined behind those that waited
pub record Joined (q q' : List PollEvent) : Type 0 where
  pub new : List PollEvent
  pub behind : q' ≡ q ++ new
  pub hooks : (e : PollEvent) → In e new → e.class ≡ Synthetic

-- a dispatch that stopped at a hook: the clock was read, and no wait was made
pub record Stopped {S : Type 0} (q : List PollEvent) (xs : List Exchange) (o : Dispatched S) : Type 0 where
  pub start : ℕ
  pub asked : xs ≡ read start ∷ []
  pub number : ℕ
  pub code : Option ℕ
  pub fault : o.answer ≡ refused number code
  pub by : RefusedBy by_asking o.answer
  pub joined : Joined q o.waiting
  pub events : o.events ≡ []
  pub sheet : o.sheet ≡ []

-- a dispatch that made its wait, with its retries, over the world `w`
pub record Woke {S : Type 0} (t : Option ℕ) (w : World) (q : List PollEvent) (xs : List Exchange) (o : Dispatched S) : Type 0 where
  pub start : ℕ
  -- the hooks' events that waited as the wait began
  pub queue : List PollEvent
  pub joined : Joined q queue
  pub woken : Woken
  pub retries : Retries 63 (timeout_by queue t) start (timeout_by queue t) w woken.exchanges woken.answer woken.events woken.world
  pub rest : List Exchange
  pub asked : xs ≡ read start ∷ (woken.exchanges ++ rest)
  pub events : o.events ≡ woken.events
  -- Where it succeeded each event has its line: the hooks', the poller's, the timers'. No hooks' event waits any more.
  pub lists : woken.answer ≡ Some (done tt) → Brought w.wheel woken.exchanges woken.events × Lists (queue ++ woken.events) o.sheet × (o.waiting ≡ [])
  -- Where it failed, what was reported is lost.
  pub fails : (n : ℕ) (c : Option ℕ) → woken.answer ≡ Some (refused n c) → (o.answer ≡ refused n c) × (o.sheet ≡ lost woken.events)
  pub waited : (a : Answer) → woken.answer ≡ Some a → RefusedBy by_wait a
  -- Where it succeeded, a fault is that of a turn.
  pub turned : woken.answer ≡ Some (done tt) → RefusedBy by_turn o.answer
  -- Where it did not succeed the hooks' events go on waiting.
  pub stays : woken.answer ≢ Some (done tt) → o.waiting ≡ queue
