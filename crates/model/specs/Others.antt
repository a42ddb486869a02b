-- WHAT A CALL ON ONE SOURCE LEAVES OF ALL OTHERS: their entries, their level lines and their timers.
use Rattle.std.specs.Prelude.{◌≡◌, ◌≢◌, ◌↔◌, ℕ, not, List, [], ◌++◌, length, filter, Some, None, Option}
use Rattle.std.specs.Option.{option_map_or}
use Rattle.token.specs.declared.token.Token.{Token}
use Rattle.poller.specs.Meaning.{among}
use Rattle.poller.specs.Register.{entry_of}
use Rattle.timer_wheel.specs.declared.timeout.TimeoutData.{TimeoutData}
use Rattle.list.specs.Slots.{vacant_of}
use Rattle.list.specs.declared.slots.Slot.{Slot}
use Rattle.levels.specs.declared.table.Line.{Line}
use Rattle.sys.specs.Laws.{In, Noted}
use Rattle.sys.specs.World.{World}
use Rattle.model.specs.Register.{Owner, Owners}

-- the timers under one of the counters
abbrev pub under : List ℕ → List TimeoutData → List TimeoutData
under cs = filter (λ (x : TimeoutData). among x.counter cs)

-- the timers under none of them
abbrev pub beside : List ℕ → List TimeoutData → List TimeoutData
beside cs = filter (λ (x : TimeoutData). not (among x.counter cs))

abbrev pub counters_of : Option Owner → List ℕ
counters_of None = []
counters_of (Some o) = o.means.counters

-- the slot that an insert gives out; where there is none, the first one past those in use
abbrev pub slot_given : {S : Type 0} → List (Slot S) → ℕ
slot_given xs = option_map_or (λ (t : Token). t.id) (vacant_of xs).0 (length xs)

-- another source, from one world to the next: its timers, in their order, and the entries and level lines of its files
pub record Untouched (o : Owner) (w w' : World) : Type 0 where
  pub timers : under o.means.counters w'.wheel.timers ≡ under o.means.counters w.wheel.timers
  pub entries : (f : ℕ) → In f o.means.entered → entry_of f w'.entries ≡ entry_of f w.entries
  pub lines : (l : Line) → In l.file o.means.entered → Noted l w.lines ↔ Noted l w'.lines

-- A call on the source of slot i, from the sources `who` to `who'`.
pub record LeavesOthers (i : ℕ) (who who' : Owners) (w w' : World) : Type 0 where
  pub others : (j : ℕ) (o : Owner) → (j ≢ i) → who j ≡ Some o → Untouched o w w'
  -- Whatever slot and version a timer is under, and whether or not its source is still there: it stays, in its order, unless
  -- its counter is one that the source of the slot has, or had as the call began; and no other joins.
  pub timers : beside (counters_of (who i) ++ counters_of (who' i)) w'.wheel.timers ≡ beside (counters_of (who i) ++ counters_of (who' i)) w.wheel.timers
