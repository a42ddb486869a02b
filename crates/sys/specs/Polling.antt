-- The polling system as plain values, and what each of its calls comes to.
-- What the poller and the clock answer is free; each answer comes with the word of the one who gave it.
use Rattle.std.specs.Prelude.{◌≡◌, ℕ, Bool, true, false, if◌then◌else◌, List, [], ◌∷◌, ◌++◌, map, Some, None, Option, Result}
use Rattle.std.specs.Borrow.{MutBor}
use Rattle.std.specs.Fn.{Once}
use Rattle.std.specs.Option.{option_map}
use Rattle.token.specs.declared.token.Token.{Token}
use Rattle.token.specs.Key.{key_of}
use Rattle.token.specs.Refusal.{Outcome, done, outcome, refused, refusal}
use Rattle.token.specs.declared.error.Error.{Error}
use Rattle.poller.specs.declared.entry.Event.{Event}
use Rattle.poller.specs.declared.entry.Interest.{Interest}
use Rattle.poller.specs.declared.entry.Mode.{Mode}
use Rattle.poller.specs.declared.entry.Mode.TheVariants.{OneShot, Level, Edge}
use Rattle.poller.specs.declared.poller.Poller.{Ghosts as PollerOf}
use Rattle.poller.specs.Meaning.{Answer}
use Rattle.poller.specs.declared.entry.Request.{Request}
use Rattle.timer_wheel.specs.Wheel.{Wheel, wheel_of, first_deadline}
use Rattle.timer_wheel.specs.Laws.{due_by, rest}
use Rattle.levels.specs.declared.table.Line.{Line}
use Rattle.levels.specs.Table.{dropped, entered, full_for, line_of}
use Rattle.sys.specs.declared.clock.Clock.{Ghosts as ClockOf}
use Rattle.sys.specs.declared.event.PollEvent.{PollEvent}
use Rattle.sys.specs.declared.poll.Poll.{Poll}
use Rattle.sys.specs.Event.{polled, rung}
use Rattle.sys.specs.Timeout.{TimedBy}

pub record State (P C : Type 0) : Type 0 where
  pub poller : P
  pub clock : C
  pub wheel : Wheel
  -- the level table, where one stands
  pub lines : Option (List Line)
  -- what the poller reported last
  pub reported : List Event

-- a function and no model: a wait reads that the timers rise, and that few events were reported
abbrev pub state_of : {P C : Type 0} → Poll P C → State P C
state_of s = record { poller = s.poller; clock = s.clock; wheel = wheel_of s.timers; lines = s.level_triggered; reported = s.events.items.items }

-- a state with another poller, clock, wheel or table, by name, as clauses and laws say it
abbrev pub with_poller : {P C : Type 0} → State P C → P → State P C
with_poller s p = record s { poller = p }

abbrev pub with_clock : {P C : Type 0} → State P C → C → State P C
with_clock s c = record s { clock = c }

abbrev pub with_wheel : {P C : Type 0} → State P C → Wheel → State P C
with_wheel s w = record s { wheel = w }

abbrev pub with_lines : {P C : Type 0} → State P C → Option (List Line) → State P C
with_lines s ls = record s { lines = ls }

-- a wait leaves another poller, and what it reported
abbrev pub with_report : {P C : Type 0} → State P C → P → List Event → State P C
with_report s p vs = record s { poller = p; reported = vs }

-- With a table the poller does not know level mode: Edge is refused, and all else goes down as OneShot.
abbrev pub mode_below_of : Option (List Line) → ℕ → Mode → Outcome Mode
mode_below_of None k m = done m
mode_below_of (Some ls) k Edge = refusal 21
mode_below_of (Some ls) k Level = if full_for k ls then refusal 20 else done OneShot
mode_below_of (Some ls) k OneShot = done OneShot

-- the line of a registration
abbrev pub line_for : ℕ → Interest → Token → Line
line_for f i t = record { key = key_of t; file = f; interest = i }

-- what the poller is asked for the line's file
abbrev pub request : Line → Mode → Request
request l m = record { file = l.file; key = l.key; interest = l.interest; mode = m }

-- the table after the poller's answer
abbrev pub lines_after : Answer → (List Line → List Line) → Option (List Line) → Option (List Line)
lines_after (done u) f ls = option_map f ls
lines_after (refused n c) f ls = ls

-- what a call of the poller that is passed on comes to: the request goes in, and the answer comes out
pub record AsksBy {F P : Type 0} (g : Once F (MutBor P × (Request × Unit {0})) (Result (Unit {0}) Error × (MutBor P × Unit {0}))) (f : F) (p : P) (q : Request) (r : Answer) (p' : P) : Type 0 where
  pub shown : MutBor P
  pub shows : shown.now ≡ p
  pub left : MutBor P
  pub leaves : left.now ≡ p'
  pub result : Result (Unit {0}) Error
  pub answers : outcome result ≡ r
  pub met : g.post f (shown, (q, tt)) (result, (left, tt))

module _ {P C : Type 0} (asks : P → Request → Answer → P → Type 0) where
  -- refused before the poller is asked, or asked in the mode below
  abbrev pub Sent : Outcome Mode → Line → Mode → State P C → Answer → State P C → Type 0
  Sent (refused n c) l m s r s' = (r ≡ refused n c) × (s' ≡ s)
  Sent (done below) l m s r s' =
      asks s.poller (request l below) r s'.poller
      × (s' ≡ with_lines (with_poller s s'.poller) (lines_after r (entered l m) s.lines))

  -- register, by the poller's add, and reregister, by its modify
  abbrev pub Registers : Line → Mode → State P C → Answer → State P C → Type 0
  Registers l m s r s' = Sent (mode_below_of s.lines l.key m) l m s r s'

module _ {P C : Type 0} (poller : PollerOf P) where
  abbrev pub Unregisters : ℕ → State P C → Answer → State P C → Type 0
  Unregisters f s r s' =
      poller.deletes s.poller f r s'.poller
      × (s' ≡ with_lines (with_poller s s'.poller) (lines_after r (dropped f None) s.lines))

  -- letting go of a file: one more delete, whatever it answers
  abbrev pub LetsGo : ℕ → State P C → State P C → Type 0
  LetsGo f s s' =
      (r : Answer) × poller.deletes s.poller f r s'.poller
      × (s' ≡ with_lines (with_poller s s'.poller) (option_map (dropped f None) s.lines))

module _ {P : Type 0} (poller : PollerOf P) where
  abbrev pub Goes : Answer → (P → Answer → P → Type 0) → P → Answer → P → Type 0
  Goes (done u) on p r p' = on p r p'
  Goes (refused n c) on p r p' = (r ≡ refused n c) × (p' ≡ p)

  abbrev pub Arms : Option Line → (P → Answer → P → Type 0) → P → Answer → P → Type 0
  Arms None on p r p' = on p r p'
  Arms (Some l) on p r p' = (a : Answer) × (q : P) × poller.modifies p (request l OneShot) a q × Goes a on q r p'

  -- each reported key that has a line is armed again, in the order of the events, up to the first that fails
  abbrev pub Rearms : List Line → List Event → P → Answer → P → Type 0
  Rearms ls [] p r p' = (r ≡ done tt) × (p' ≡ p)
  Rearms ls (v ∷ vs) p r p' = Arms (line_of v.key ls) (Rearms ls vs) p r p'

  -- without a table there is nothing to arm
  abbrev pub RearmsIn : Option (List Line) → List Event → P → Answer → P → Type 0
  RearmsIn None vs p r p' = (r ≡ done tt) × (p' ≡ p)
  RearmsIn (Some ls) vs p r p' = Rearms ls vs p r p'

module _ {P C : Type 0} (poller : PollerOf P) (clock : ClockOf C) where
  -- after re-arming: lost events where it failed, else the timers that are due by a fresh reading
  abbrev pub Takes : Answer → List Event → State P C → P → C → Answer → List PollEvent → State P C → Type 0
  Takes (refused n c) vs s p k r es s' =
      (r ≡ refused n c) × (es ≡ map polled vs) × (s' ≡ with_clock (with_report s p vs) k)
  Takes (done u) vs s p k r es s' =
      (now : ℕ) × clock.reads k now s'.clock
      × (r ≡ done tt)
      × (es ≡ map polled vs ++ map rung (due_by now s.wheel.timers))
      × (s' ≡ with_wheel (with_clock (with_report s p vs) s'.clock) (rest now s.wheel))

  -- after the wait
  abbrev pub Wakes : Answer → List Event → State P C → P → C → Answer → List PollEvent → State P C → Type 0
  Wakes (refused n c) vs s p k r es s' =
      (r ≡ refused n c) × (es ≡ []) × (s' ≡ with_clock (with_report s p vs) k)
  Wakes (done u) vs s p k r es s' =
      (a : Answer) × (q : P) × RearmsIn poller s.lines vs p a q × Takes a vs s q k r es s'

  -- A WAIT: its timeout, the poller's answer to it, the re-arming, and the timers
  pub record Polls (given : Option ℕ) (s : State P C) (r : Answer) (es : List PollEvent) (s' : State P C) : Type 0 where
    pub timeout : Option ℕ
    pub read : C
    pub timed : TimedBy clock given (first_deadline s.wheel) s.clock read timeout
    pub answer : Answer
    pub told : List Event
    pub left : P
    pub waited : poller.waits s.poller timeout answer told left
    pub wakes : Wakes answer told s left read r es s'

-- the table of a new polling system: none over a poller with level mode
abbrev pub new_table : Bool → Option (List Line)
new_table true = None
new_table false = Some []
