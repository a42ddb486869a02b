-- What each call of an alarm comes to.
use Rattle.std.specs.Prelude.{◌≡◌, ℕ, ◌+◌, ◌^◌, false, if◌then◌else◌, List, [], ◌∷◌, Some, None, Option, nat_lt, MatchOption}
use Rattle.std.specs.Option.{option_map, option_map_or, option_to_list}
use Rattle.token.specs.declared.token.Token.{Token}
use Rattle.token.specs.Drawing.{draw_of}
use Rattle.token.specs.Key.{key_of}
use Rattle.token.specs.Refusal.{Outcome, done, refused}
use Rattle.post_action.specs.declared.PostAction.{PostAction}
use Rattle.post_action.specs.declared.PostAction.TheVariants.{Continue, Remove}
use Rattle.timer_wheel.specs.Wheel.{Wheel, cancel_of, insert_of, reuse_of}
use Rattle.sys.specs.World.{Exchange, World, read, with_timers}
use Rattle.rules.specs.Calls.{Came, Went, came, went}
use Rattle.rules.specs.Meaning.{Drawer, Meaning}
use Rattle.alarm.specs.declared.alarm.Alarm.{Alarm}
use Rattle.alarm.specs.declared.alarm.Registration.{Registration}
use Rattle.alarm.specs.declared.alarm.TimeoutAction.{TimeoutAction}
use Rattle.alarm.specs.declared.alarm.TimeoutAction.TheVariants.{Drop, ToInstant, ToDuration}

-- the key and the counter of a registration
abbrev pub keys_of : Option Registration → List ℕ
keys_of r = option_to_list (option_map (λ (x : Registration). key_of x.token) r)

abbrev pub counters_of : Option Registration → List ℕ
counters_of r = option_to_list (option_map (λ (x : Registration). x.counter) r)

-- the wheel once a registration's counter is cancelled
abbrev pub wheel_after : Option Registration → Wheel → Wheel
wheel_after r t = option_map_or (λ (x : Registration). cancel_of x.counter t) r t

-- an alarm holds no file, and has the counter of its registration
abbrev pub meaning : Alarm → Meaning
meaning s = record { held = []; entered = []; drew = keys_of s.registration; counters = counters_of s.registration; hooks = false }

-- an alarm with another registration or deadline, by name, as clauses and laws say it
abbrev pub with_registration : Alarm → Option Registration → Alarm
with_registration s r = record s { registration = r }

abbrev pub with_deadline : Alarm → Option ℕ → Alarm
with_deadline s d = record s { deadline = d }

-- REGISTERING

-- the alarm's entry was accepted under a counter, or refused
abbrev pub inserted : Alarm → Token → World → Drawer → Outcome ℕ → Wheel → Came Alarm
inserted s t w d (done k) t' = came [] (done tt) (with_registration s (Some (record { token = t; counter = k }))) (with_timers w t') d
inserted s t w d (refused n c) t' = came [] (refused n c) (with_registration s None) (with_timers w t') d

abbrev pub drawn : Alarm → ℕ → Outcome Token → World → Drawer → Came Alarm
drawn s deadline (refused n c) w d = came [] (refused n c) (with_registration s None) w d
drawn s deadline (done t) w d = inserted s t w d (insert_of deadline t w.wheel).0 (insert_of deadline t w.wheel).1

-- register: without a deadline nothing is entered
abbrev pub register_by : Alarm → Option ℕ → World → Drawer → Came Alarm
register_by s None w d = came [] (done tt) (with_registration s None) w d
register_by s (Some deadline) w d = drawn s deadline (draw_of d).0 w (draw_of d).1

-- unregister and letting go
abbrev pub cancel_by : Alarm → World → Went (Unit {0}) Alarm
cancel_by s w = went [] (done tt) (with_registration s None) (with_timers w (wheel_after s.registration w.wheel))

-- reregister: unregister, then register
abbrev pub reregister_by : Alarm → World → Drawer → Came Alarm
reregister_by s w d = register_by (cancel_by s w).source s.deadline (cancel_by s w).world d

-- EVENTS

-- the next deadline is entered under the counter that the alarm has; where that is refused it keeps its deadline
abbrev pub set_to : Alarm → ℕ → World → List Exchange → Outcome (Unit {0}) → Wheel → Went PostAction Alarm
set_to s next w xs (done u) t' = went xs (done Continue) (with_deadline s (Some next)) (with_timers w t')
set_to s next w xs (refused n c) t' = went xs (refused n c) s (with_timers w t')

abbrev pub set_at : Alarm → Registration → ℕ → World → List Exchange → Went PostAction Alarm
set_at s r next w xs = set_to s next w xs (reuse_of r.counter next r.token w.wheel).0 (reuse_of r.counter next r.token w.wheel).1

-- Drop removes it, and so does a duration past the last time, 2^64 − 1; `now` is a fresh reading of the clock
abbrev pub rung_by : Alarm → Registration → TimeoutAction → ℕ → World → Went PostAction Alarm
rung_by s r Drop now w = went [] (done Remove) s w
rung_by s r (ToInstant next) now w = set_at s r next w []
rung_by s r (ToDuration period) now w =
    if nat_lt (now + period) (2 ^ 64) then set_at s r (now + period) w (read now ∷ []) else went (read now ∷ []) (done Remove) (with_deadline s None) w

-- an event under the token is the alarm's own: it is registered under it, and has a deadline
pub record Awaits (s : Alarm) (t : Token) (x : Registration) (d : ℕ) : Type 0 where
  pub registered : s.registration ≡ Some x
  pub due : s.deadline ≡ Some d
  pub token : x.token ≡ t

abbrev pub Due : Alarm → Token → Option (Registration × ℕ) → Type 0
Due s t o = MatchOption o ((x : Registration) (d : ℕ) → Awaits s t x d → ⊥) (λ a. Awaits s t a.0 a.1)
