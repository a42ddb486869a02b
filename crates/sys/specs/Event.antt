-- The events of the loop: where each comes from, and how a class is printed.
use Rattle.std.specs.Prelude.{ℕ, false, List, codes}
use Rattle.token.specs.Key.{token_of}
use Rattle.poller.specs.declared.entry.Event.{Event}
use Rattle.poller.specs.declared.entry.TheConstants.Readiness.{READ}
use Rattle.timer_wheel.specs.declared.timeout.TimeoutData.{TimeoutData}
use Rattle.sys.specs.declared.event.Class.{Class}
use Rattle.sys.specs.declared.event.Class.TheVariants.{Synthetic, Polled, Timer}
use Rattle.sys.specs.declared.event.PollEvent.{PollEvent}

-- what the poller reported, as an event of the loop
abbrev pub polled : Event → PollEvent
polled v = record { class = Polled; readiness = record { readable = v.readable; writable = v.writable; error = false }; token = token_of v.key }

-- a timer that is due, as an event of the loop
abbrev pub rung : TimeoutData → PollEvent
rung x = record { class = Timer; readiness = READ; token = x.token }

-- the letter of a class in the sheets
abbrev pub letter_of : Class → List ℕ
letter_of Synthetic = codes "S"
letter_of Polled = codes "P"
letter_of Timer = codes "T"
