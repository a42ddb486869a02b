-- A wait by its meaning alone: what the poller and the clock were asked for it, and what it comes to.
use Rattle.std.specs.Prelude.{◌≡◌, ℕ, List, [], ◌∷◌, ◌++◌, map, Some, None, Option}
use Rattle.token.specs.Refusal.{done, refused}
use Rattle.poller.specs.declared.entry.Entry.{Entry}
use Rattle.poller.specs.declared.entry.Event.{Event}
use Rattle.poller.specs.declared.entry.Mode.TheVariants.{OneShot}
use Rattle.poller.specs.Meaning.{Answer, By, Waited, modify_of}
use Rattle.timer_wheel.specs.Wheel.{first_deadline}
use Rattle.timer_wheel.specs.Laws.{due_by, rest}
use Rattle.levels.specs.declared.table.Line.{Line}
use Rattle.levels.specs.Table.{line_of}
use Rattle.sys.specs.declared.event.PollEvent.{PollEvent}
use Rattle.sys.specs.Event.{polled, rung}
use Rattle.sys.specs.Polling.{request}
use Rattle.sys.specs.Timeout.{timeout_of}
use Rattle.sys.specs.World.{Exchange, World, modified, read, waited, with_entries, with_timers}

-- the timeout by the earliest deadline, with a reading where there is one
abbrev pub Timed : Option ℕ → Option ℕ → List Exchange → Option ℕ → Type 0
Timed given None xs t = (xs ≡ []) × (t ≡ given)
Timed given (Some d) xs t = (now : ℕ) × (xs ≡ read now ∷ []) × (t ≡ timeout_of given (Some d) now)

-- what follows a modify: the rest, or nothing where it was refused
abbrev pub Goes : Answer → (List Entry → List Exchange → Answer → List Entry → Type 0) → List Entry → List Exchange → Answer → List Entry → Type 0
Goes (done u) on es xs r es' = on es xs r es'
Goes (refused n c) on es xs r es' = (xs ≡ []) × (r ≡ refused n c) × (es' ≡ es)

abbrev pub Arms : Option Line → (List Entry → List Exchange → Answer → List Entry → Type 0) → List Entry → List Exchange → Answer → List Entry → Type 0
Arms None on es xs r es' = on es xs r es'
Arms (Some l) on es xs r es' = (a : Answer) × (fs : List Entry) × By (modify_of es (request l OneShot)) a fs × (ys : List Exchange) × (xs ≡ modified (request l OneShot) a ∷ ys) × Goes a on fs ys r es'

-- each reported key that has a line is armed again, in the order of the events, up to the first that fails
abbrev pub Rearms : List Line → List Event → List Entry → List Exchange → Answer → List Entry → Type 0
Rearms ls [] es xs r es' = (xs ≡ []) × (r ≡ done tt) × (es' ≡ es)
Rearms ls (v ∷ vs) es xs r es' = Arms (line_of v.key ls) (Rearms ls vs) es xs r es'

-- without a table there is nothing to arm
abbrev pub RearmsIn : Option (List Line) → List Event → List Entry → List Exchange → Answer → List Entry → Type 0
RearmsIn None vs es xs r es' = (xs ≡ []) × (r ≡ done tt) × (es' ≡ es)
RearmsIn (Some ls) vs es xs r es' = Rearms ls vs es xs r es'

-- after re-arming: lost events where it failed, else the timers that are due by a fresh reading
abbrev pub Takes : Answer → List Event → World → List Exchange → Answer → List PollEvent → World → Type 0
Takes (refused n c) vs w xs r es w' = (xs ≡ []) × (r ≡ refused n c) × (es ≡ map polled vs) × (w' ≡ w)
Takes (done u) vs w xs r es w' =
    (now : ℕ) × (xs ≡ read now ∷ [])
    × (r ≡ done tt)
    × (es ≡ map polled vs ++ map rung (due_by now w.wheel.timers))
    × (w' ≡ with_timers w (rest now w.wheel))

-- after the poller's answer
abbrev pub Wakes : Answer → List Event → World → List Exchange → Answer → List PollEvent → World → Type 0
Wakes (refused n c) vs w xs r es w' = (xs ≡ []) × (r ≡ refused n c) × (es ≡ []) × (w' ≡ w)
Wakes (done u) vs w xs r es w' =
    (a : Answer) × (fs : List Entry) × (arming : List Exchange) × RearmsIn w.lines vs w.entries arming a fs
    × (ys : List Exchange) × (xs ≡ arming ++ ys) × Takes a vs (with_entries w fs) ys r es w'

-- A WAIT with the timeout `given`: what was asked, its answer and events, and the world after it
pub record Waits (given : Option ℕ) (w : World) (xs : List Exchange) (r : Answer) (es : List PollEvent) (w' : World) : Type 0 where
  pub reading : List Exchange
  pub timeout : Option ℕ
  pub timed : Timed given (first_deadline w.wheel) reading timeout
  pub answer : Answer
  pub told : List Event
  pub entries : List Entry
  pub meant : Waited w.entries answer told entries
  pub rest : List Exchange
  pub asked : xs ≡ reading ++ waited timeout answer told ∷ rest
  pub wakes : Wakes answer told (with_entries w entries) rest r es w'
