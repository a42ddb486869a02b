-- One token alone is drawn as tickets are: the law of its impl, by a name that is not generated.
use Rattle.std.proofs.Common.{rules}
use Rattle.token.specs.Drawing.{draw_of}
use Rattle.rules.specs.Meaning.{Drawer}
use Rattle.one_file.specs.Tickets.{DrawnFrom, itself, key_alone}

pub one_drawn : (d : Drawer) → DrawnFrom itself key_alone d (draw_of d).0 (draw_of d).1
one_drawn d = search rules
