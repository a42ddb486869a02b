-- The events of one source.
use Rattle.std.specs.Prelude.{List, filter}
use Rattle.token.specs.declared.token.Token.{Token}
use Rattle.token.specs.Key.{same_source}
use Rattle.sys.specs.declared.event.PollEvent.{PollEvent}

abbrev pub of_source : Token → List PollEvent → List PollEvent
of_source t = filter (λ (v : PollEvent). same_source v.token t)
