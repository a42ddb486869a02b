-- The polling system by its meaning alone, and what its calls come to there.
-- Over which poller and which clock is left out; what they were asked and answered stays by name.
use Rattle.std.specs.Prelude.{◌≡◌, ℕ, List, [], ◌∷◌, None, Option}
use Rattle.std.specs.Option.{option_map}
use Rattle.token.specs.Refusal.{Outcome, done, refused}
use Rattle.poller.specs.declared.entry.Entry.{Entry}
use Rattle.poller.specs.declared.entry.Event.{Event}
use Rattle.poller.specs.declared.entry.Mode.{Mode}
use Rattle.poller.specs.declared.poller.Poller.{Ghosts as PollerOf}
use Rattle.poller.specs.Meaning.{Answer, Fate, add_of, modify_of, delete_of}
use Rattle.poller.specs.declared.entry.Request.{Request}
use Rattle.timer_wheel.specs.Wheel.{Wheel, wheel_of}
use Rattle.levels.specs.declared.table.Line.{Line}
use Rattle.levels.specs.Table.{dropped, entered}
use Rattle.sys.specs.declared.clock.Clock.{Ghosts as ClockOf}
use Rattle.sys.specs.declared.poll.Poll.{Poll}
use Rattle.sys.specs.Polling.{lines_after, mode_below_of, request}

-- the poller's entries and their most, the level table and the timers
pub record World : Type 0 where
  pub entries : List Entry
  pub most : ℕ
  pub lines : Option (List Line)
  pub wheel : Wheel

-- a function and no model: it names the members of the poller's bound, which a model's value cannot
abbrev pub world_of : {P C : Type 0} → PollerOf P → Poll P C → World
world_of poller s = record { entries = poller.entries s.poller; most = poller.most s.poller; lines = s.level_triggered; wheel = wheel_of s.timers }

-- the same world with other entries, with other entries and lines, or with another wheel, by name, as clauses and laws say it
abbrev pub with_entries : World → List Entry → World
with_entries w es = record w { entries = es }

abbrev pub with_table : World → List Entry → Option (List Line) → World
with_table w es ls = record w { entries = es; lines = ls }

abbrev pub with_timers : World → Wheel → World
with_timers w t = record w { wheel = t }

-- WHAT WAS ASKED OF THE POLLER AND THE CLOCK

-- one question with its answer
pub data Exchange : Type 0 where
  added : Request → Answer → Exchange
  modified : Request → Answer → Exchange
  deleted : ℕ → Answer → Exchange
  read : ℕ → Exchange
  waited : Option ℕ → Answer → List Event → Exchange

module _ {P C : Type 0} (poller : PollerOf P) (clock : ClockOf C) where
  abbrev pub Asked : List Exchange → P → C → P → C → Type 0
  Asked [] p c p' c' = (p' ≡ p) × (c' ≡ c)
  Asked (added q r ∷ xs) p c p' c' = (m : P) × poller.adds p q r m × Asked xs m c p' c'
  Asked (modified q r ∷ xs) p c p' c' = (m : P) × poller.modifies p q r m × Asked xs m c p' c'
  Asked (deleted f r ∷ xs) p c p' c' = (m : P) × poller.deletes p f r m × Asked xs m c p' c'
  Asked (read n ∷ xs) p c p' c' = (m : C) × clock.reads c n m × Asked xs p m p' c'
  Asked (waited t r vs ∷ xs) p c p' c' = (m : P) × poller.waits p t r vs m × Asked xs m c p' c'

  -- these questions were put in this order and answered so, each by the word of poller or clock
  pub record Exchanged (xs : List Exchange) (s s' : Poll P C) : Type 0 where
    pub asked : Asked xs s.poller s.clock s'.poller s'.clock

  -- a call that may have asked: its questions, and what it came to from the world before to the world after
  abbrev pub Between : Poll P C → Poll P C → (World → List Exchange → World → Type 0) → Type 0
  Between s s' came = (xs : List Exchange) × Exchanged xs s s' × came (world_of poller s) xs (world_of poller s')

-- CALLS

-- The answer of a call, the world after it, and what was asked for it.
-- Not `Went` of `rules`, which has a source besides: none is known here.
pub record Come : Type 0 where
  pub answer : Answer
  pub world : World
  pub exchanges : List Exchange

-- the call came to this for one fate, and what it asked was asked
pub record Comes (of : Fate → Come) (r : Answer) (w : World) (Exchanges : List Exchange → Type 0) : Type 0 where
  pub fate : Fate
  pub answer : r ≡ (of fate).answer
  pub world : w ≡ (of fate).world
  pub exchanged : Exchanges (of fate).exchanges

-- the poller answered a registration
abbrev pub noted : Line → Mode → World → (Answer → Exchange) → Answer × List Entry → Come
noted l m w asked a = record { answer = a.0; world = with_table w a.1 (lines_after a.0 (entered l m) w.lines); exchanges = asked a.0 ∷ [] }

-- refused before the poller is asked, or as the poller answers
abbrev pub sent : (Request → Answer → Exchange) → (Request → Answer × List Entry) → Outcome Mode → Line → Mode → World → Come
sent asked of (refused n c) l m w = record { answer = refused n c; world = w; exchanges = [] }
sent asked of (done b) l m w = noted l m w (asked (request l b)) (of (request l b))

abbrev pub register_of : Line → Mode → World → Fate → Come
register_of l m w fate = sent added (λ q. add_of w.most w.entries q fate) (mode_below_of w.lines l.key m) l m w

abbrev pub reregister_of : Line → Mode → World → Fate → Come
reregister_of l m w fate = sent modified (λ q. modify_of w.entries q fate) (mode_below_of w.lines l.key m) l m w

abbrev pub forgotten : ℕ → World → Answer × List Entry → Come
forgotten f w a = record { answer = a.0; world = with_table w a.1 (lines_after a.0 (dropped f None) w.lines); exchanges = deleted f a.0 ∷ [] }

abbrev pub unregister_of : ℕ → World → Fate → Come
unregister_of f w fate = forgotten f w (delete_of w.entries f fate)

-- letting go of a file: one more delete, whatever it answers
abbrev pub given_up : ℕ → World → Answer × List Entry → Come
given_up f w a = record { answer = done tt; world = with_table w a.1 (option_map (dropped f None) w.lines); exchanges = deleted f a.0 ∷ [] }

abbrev pub let_go_of : ℕ → World → Fate → Come
let_go_of f w fate = given_up f w (delete_of w.entries f fate)

-- a call came to this from one polling system to the next
abbrev pub CameTo : {P C : Type 0} → PollerOf P → ClockOf C → (World → Fate → Come) → Poll P C → Answer → Poll P C → Type 0
CameTo poller clock of s r s' = Comes (of (world_of poller s)) r (world_of poller s') (λ xs. Exchanged poller clock xs s s')
