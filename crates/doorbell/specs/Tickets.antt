-- The two tokens of a Doorbell, as tickets. What their impl says is said again, where a reader of a contract looks for it: in no generated module.
use Rattle.one_file.specs.declared.tickets.Tickets.{Ghosts as TicketsOf}
use Rattle.doorbell.specs.declared.doorbell.Tokens.{Tokens}
use Rattle.doorbell.specs.Two.{both_keys, draw_two, first_token}

abbrev pub two_tokens : TicketsOf Tokens
two_tokens = record { draws = draw_two; main = first_token; keys = both_keys }
