-- The stages of a wait, step by step.
use Rattle.std.proofs.Common.{◌≡◌, ℕ, ◌+◌, List, [], ◌∷◌, ◌++◌, map, length, drop, Some, None, Option, sym, append_assoc, arith}
use Rattle.std.proofs.lemmas.Grind.{common_steps}
use Rattle.std.proofs.lemmas.List.{map-append}
use Rattle.std.proofs.lemmas.Simd.{map-map}
use Rattle.token.specs.declared.token.Token.{Token}
use Rattle.poller.specs.declared.entry.Event.{Event}
use Rattle.poller.specs.declared.entry.TheConstants.Readiness.{READ}
use Rattle.poller.specs.declared.poller.Poller.{Ghosts as PollerOf}
use Rattle.poller.specs.Meaning.{Answer}
use Rattle.timer_wheel.specs.Entries.{Rising}
use Rattle.timer_wheel.specs.Laws.{Drains, due_by, rest}
use Rattle.timer_wheel.specs.Wheel.{Wheel, told, expired_of}
use Rattle.timer_wheel.proofs.Expiry.{exact}
use Rattle.levels.specs.declared.table.Line.{Line}
use Rattle.sys.specs.declared.event.Class.TheVariants.{Timer}
use Rattle.sys.specs.declared.event.PollEvent.{PollEvent}
use Rattle.sys.specs.Polling.{Rearms}
use Rattle.sys.specs.Event.{rung}

-- the event of a timer that the wheel told of
abbrev pub ringing : ℕ × Token → PollEvent
ringing a = record { class = Timer; readiness = READ; token = a.1 }

-- Timers taken so far: what the wheel told, and how the wheel that is left ends the whole run.
pub record Taking (n : ℕ) (w : Wheel) (es : List PollEvent) (v : Wheel) (fs : List PollEvent) : Type 0 where
  pub answers : List (ℕ × Token)
  pub events : fs ≡ es ++ map ringing answers
  pub whole : (more : List (ℕ × Token)) (u : Wheel) → Drains n v more u → Drains n w (answers ++ more) u

pub taking_more : (n : ℕ) (w : Wheel) (es : List PollEvent) (v u : Wheel) (fs gs : List PollEvent) (a : ℕ × Token)
    → Taking n w es v fs → (Some a, u) ≡ expired_of n v → gs ≡ fs ++ ringing a ∷ [] → Taking n w es u gs
taking_more n w es v u fs gs a t e g = record {
  answers = t.answers ++ a ∷ [];
  events = grind (arith, common_steps, t.events, map-append ringing t.answers (a ∷ []));
  whole = λ more z d. rw append_assoc (t.whole (a ∷ more) z (u, sym e, d));
}

-- an entry that is told of leaves the wheel
pub taken_one : (n : ℕ) (v u : Wheel) (a : ℕ × Token) → ◌≡◌ {A = Option (ℕ × Token) × Wheel} (Some a, u) (expired_of n v) → length u.timers + 1 ≡ length v.timers
taken_one n v u a e = grind (arith, common_steps)

-- nothing is due any more: exactly what was due has been taken
pub taking_all : (n : ℕ) (w : Wheel) (es : List PollEvent) (v u : Wheel) (fs : List PollEvent) → Rising w.timers
    → Taking n w es v fs → (None, u) ≡ expired_of n v → (fs ≡ es ++ map rung (due_by n w.timers)) × (u ≡ rest n w)
taking_all n w es v u fs rising t e =
    let only = (exact n w rising).only (t.answers ++ []) u (t.whole [] u (sym e)) in
    (grind (arith, common_steps, only.0, map-map ringing told (due_by n w.timers)), only.1)

-- Re-arming so far: whatever the rest comes to, the whole comes to.
module _ {P : Type 0} (poller : PollerOf P) (ls : List Line) (vs : List Event) (p : P) where
  abbrev pub Arming : ℕ → P → Type 0
  Arming i q = (r : Answer) (q' : P) → Rearms poller ls (drop i vs) q r q' → Rearms poller ls vs p r q'
