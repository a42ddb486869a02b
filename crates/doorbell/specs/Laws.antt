-- The two tokens of a Doorbell are drawn as tickets are: the law of their impl, by a name that is not generated.
use Rattle.std.proofs.Common.{rules}
use Rattle.rules.specs.Meaning.{Drawer}
use Rattle.one_file.specs.Tickets.{DrawnFrom}
use Rattle.doorbell.specs.Two.{both_keys, draw_two, first_token}

-- each of the two was drawn
pub two_drawn : (d : Drawer) → DrawnFrom first_token both_keys d (draw_two d).0 (draw_two d).1
two_drawn d = search rules
