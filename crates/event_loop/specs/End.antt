-- THE END of a loop: each source that stands in a slot is let go, and ends.
use Rattle.std.specs.Prelude.{List, [], ◌∷◌}
use Rattle.list.specs.declared.slots.Place.{Place}
use Rattle.list.specs.declared.slots.Place.TheVariants.{Occupied}
use Rattle.list.specs.declared.slots.Slot.{Slot}
use Rattle.sys.specs.World.{World}
use Rattle.model.specs.Course.{Course, and_then, ends, finishes, leaves}

module _ {S : Type 0} where
  abbrev pub vacates : Place S → World → Course S World
  vacates (Occupied s) w = leaves s w (λ g. finishes g.source (ends g.world))
  vacates p w = ends w

  -- one slot after another
  abbrev pub vacates_all : List (Slot S) → World → Course S World
  vacates_all [] w = ends w
  vacates_all (x ∷ xs) w = and_then (vacates x.place w) (vacates_all xs)
