-- One token alone, as tickets. What its impl says is said again, where a reader of a contract looks for it: in no generated module.
use Rattle.token.specs.declared.token.Token.{Token}
use Rattle.token.specs.Drawing.{draw_of}
use Rattle.one_file.specs.declared.tickets.Tickets.{Ghosts as TicketsOf}
use Rattle.one_file.specs.Tickets.{itself, key_alone}

abbrev pub one_token : TicketsOf Token
one_token = record { draws = draw_of; main = itself; keys = key_alone }
