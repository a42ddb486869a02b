-- What each call of the wheel answers, and the wheel after it.
use Rattle.std.specs.Prelude.{ℕ, ◌+◌, if◌then◌else◌, List, [], length, vec_items, slice_get, Option, ◌==◌, nat_le}
use Rattle.std.specs.Option.{option_map}
use Rattle.token.specs.declared.token.Token.{Token}
use Rattle.token.specs.Refusal.{Outcome, done, refusal}
use Rattle.timer_wheel.specs.declared.timeout.TimeoutData.{TimeoutData}
use Rattle.timer_wheel.specs.declared.wheel.TimerWheel.{TimerWheel}
use Rattle.timer_wheel.specs.Entries.{enter, cancelled, expired}

-- the entries, the earliest first, and the next counter
pub record Wheel : Type 0 where
  pub timers : List TimeoutData
  pub next : ℕ

-- a function and no model: callers read how few entries stand, and that they rise
abbrev pub wheel_of : TimerWheel → Wheel
wheel_of w = record { timers = vec_items w.entries.items; next = w.counter }

abbrev pub empty : Wheel
empty = record { timers = []; next = 0 }

-- 256 entries are the most, and the counter 4,294,967,295 is never given out
abbrev pub insert_of : ℕ → Token → Wheel → Outcome ℕ × Wheel
insert_of deadline token w =
    if nat_le 256 (length w.timers) then (refusal 16, w)
    else if w.next == 4294967295 then (refusal 17, w)
    else (done w.next, record { timers = enter (record { deadline = deadline; token = token; counter = w.next }) w.timers; next = w.next + 1 })

abbrev pub reuse_of : ℕ → ℕ → Token → Wheel → Outcome (Unit {0}) × Wheel
reuse_of counter deadline token w =
    if nat_le 256 (length w.timers) then (refusal 16, w)
    else (done tt, record w { timers = enter (record { deadline = deadline; token = token; counter = counter }) w.timers })

abbrev pub cancel_of : ℕ → Wheel → Wheel
cancel_of counter w = record w { timers = cancelled counter w.timers }

-- what is told of an entry that leaves
abbrev pub told : TimeoutData → ℕ × Token
told x = (x.counter, x.token)

abbrev pub expired_of : ℕ → Wheel → Option (ℕ × Token) × Wheel
expired_of n w = (option_map told (expired n w.timers).0, record w { timers = (expired n w.timers).1 })

abbrev pub first_deadline : Wheel → Option ℕ
first_deadline w = option_map (λ (x : TimeoutData). x.deadline) (slice_get w.timers 0)
