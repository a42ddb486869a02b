-- What a source that was given up may leave in the poller.
use Rattle.std.specs.Prelude.{◌≡◌, ℕ, true, ◌⊎◌, List, map, Some}
use Rattle.poller.specs.declared.entry.Entry.{Entry}
use Rattle.poller.specs.Register.{disarmed, entry_of}
use Rattle.sys.specs.Laws.{Consistent}
use Rattle.sys.specs.World.{World}

-- no entry left, and only stuck ones joined
pub record OnlyStuckJoin (es es' : List Entry) : Type 0 where
  -- what stood stands as it did
  pub stay : (f : ℕ) (e : Entry) → entry_of f es ≡ Some e → entry_of f es' ≡ Some e
  -- what stands stood so, or is stuck
  pub join : (f : ℕ) (e : Entry) → entry_of f es' ≡ Some e → (entry_of f es ≡ Some e) ⊎ (e.stuck ≡ true)

-- the level table agrees with the poller
abbrev pub Agreeing : World → Type 0
Agreeing w = Consistent w.entries w.lines

-- the poller's entries, but for which are armed: a wait arms and disarms
abbrev pub unarmed : World → List Entry
unarmed w = map disarmed w.entries
