-- What a WakeOnce is to the loop, and what its calls come to.
use Rattle.std.specs.Prelude.{true, false, Bool, ◌&&◌, ◌==◌, if◌then◌else◌, [], Some, None, Option}
use Rattle.std.specs.Option.{option_map, option_to_list}
use Rattle.token.specs.declared.token.Token.{Token}
use Rattle.token.specs.Drawing.{draw_of}
use Rattle.token.specs.Key.{key_of, same_source}
use Rattle.token.specs.Refusal.{Outcome, done, refused}
use Rattle.post_action.specs.declared.PostAction.{PostAction}
use Rattle.post_action.specs.declared.PostAction.TheVariants.{Continue}
use Rattle.poller.specs.declared.entry.Readiness.{Readiness}
use Rattle.poller.specs.declared.entry.TheConstants.Readiness.{READ}
use Rattle.sys.specs.World.{World}
use Rattle.rules.specs.Calls.{Came, Went, came, went}
use Rattle.rules.specs.Meaning.{Drawer, Meaning}
use Rattle.wake_once.specs.declared.wake_once.Registration.{Registration}
use Rattle.wake_once.specs.declared.wake_once.WakeOnce.{WakeOnce}

-- it holds no file, drew the token of its registration, has no timer, and wants hooks
abbrev pub meaning : WakeOnce → Meaning
meaning s = record { held = []; entered = []; drew = option_to_list (option_map (λ (x : Registration). key_of x.token) s.registration); counters = []; hooks = true }

abbrev pub unregistered : WakeOnce
unregistered = record { registration = None }

-- its event is still to come
abbrev pub registered_under : Token → WakeOnce
registered_under t = record { registration = Some (record { token = t; due = true }) }

-- as the factory answered: a refusal leaves it without a registration
abbrev pub drawn : Outcome Token → World → Drawer → Came WakeOnce
drawn (done t) w d = came [] (done tt) (registered_under t) w d
drawn (refused n c) w d = came [] (refused n c) unregistered w d

-- register and reregister: one token is drawn, whatever it was before
abbrev pub register_by : World → Drawer → Came WakeOnce
register_by w d = drawn (draw_of d).0 w (draw_of d).1

-- unregister and letting go: accepted without a registration too
abbrev pub unregister_by : World → Went (Unit {0}) WakeOnce
unregister_by w = went [] (done tt) unregistered w

abbrev pub same_token : Token → Token → Bool
same_token a b = same_source a b && a.sub_id == b.sub_id

-- once an event under the token of the registration was processed, none is to come
abbrev pub after_event : Token → Registration → Registration
after_event t x = if same_token x.token t then record x { due = false } else x

abbrev pub process_by : WakeOnce → Token → World → Went PostAction WakeOnce
process_by s t w = went [] (done Continue) (record { registration = option_map (after_event t) s.registration }) w

-- a synthetic event under its token, as long as one is to come
abbrev pub wanted : Option Registration → Option (Readiness × Token)
wanted None = None
wanted (Some x) = if x.due then Some (READ, x.token) else None
