-- The loop as plain values.
use Rattle.std.specs.Prelude.{ℕ, Bool, List, []}
use Rattle.token.specs.declared.token.Token.{Token}
use Rattle.list.specs.Idles.{Waiting, none_waiting}
use Rattle.list.specs.declared.slots.Slot.{Slot}
use Rattle.post_action.specs.declared.PostAction.{PostAction}
use Rattle.poller.specs.declared.entry.Entry.{Entry}
use Rattle.post_action.specs.declared.PostAction.TheVariants.{Continue}
use Rattle.sys.specs.Polling.{new_table}
use Rattle.sys.specs.World.{World}
use Rattle.timer_wheel.specs.Wheel.{empty}

pub record Loop (S : Type 0) : Type 0 where
  pub slots : List (Slot S)
  -- the tokens of the sources that want hooks
  pub lifecycle : List Token
  -- the poller's entries, the level table and the timers
  pub world : World
  pub idles : Waiting
  -- what was asked for the source whose event is being handled
  pub pending : PostAction

-- a loop that begins: no slot is in use, no source wants hooks, no timer and no idle waits, and the level table is empty
abbrev pub new_loop : {S : Type 0} → List Entry → ℕ → Bool → Loop S
new_loop es most level = record { slots = []; lifecycle = []; world = record { entries = es; most = most; lines = new_table level; wheel = empty }; idles = none_waiting; pending = Continue }
