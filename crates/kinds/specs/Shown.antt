-- What is left of the events that a source is shown.
use Rattle.std.specs.Prelude.{List}
use Rattle.sys.specs.declared.event.PollEvent.{PollEvent}
use Rattle.kinds.specs.Events.{of_source}
use Rattle.kinds.specs.declared.events.EventIterator.{EventIterator}

abbrev pub left : EventIterator → List PollEvent
left s = of_source s.registration s.events.now
