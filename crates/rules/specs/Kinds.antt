-- THE RULES OF SOURCE KINDS: what each call of a source owes.
use Rattle.std.specs.Prelude.{◌≡◌, ℕ, ◌⊎◌, List, [], ◌++◌, Some, None, Option}
use Rattle.std.specs.List.{All}
use Rattle.token.specs.declared.token.Token.{Token}
use Rattle.token.specs.Key.{key_of}
use Rattle.token.specs.Refusal.{Outcome, done, refused}
use Rattle.poller.specs.declared.entry.Readiness.{Readiness}
use Rattle.poller.specs.Meaning.{Answer}
use Rattle.sys.specs.Laws.{Consistent, In}
use Rattle.sys.specs.World.{World, Exchange, added, modified, read, waited, with_timers}
use Rattle.rules.specs.Files.{Keeps, Sound}
use Rattle.rules.specs.Lines.{LinesStay}
use Rattle.rules.specs.Meaning.{Drawer, Drawn, Forward, Meaning, Nothing}
use Rattle.rules.specs.Refusals.{HandedOn, OneOf, RefusedBy, by_event, by_hook, by_registration, by_unregister}
use Rattle.rules.specs.Timers.{Timers}

-- the poller was asked to enter or modify only under keys that were drawn, and no wait was made
abbrev pub Enters : (ℕ → Type 0) → Exchange → Type 0
Enters Drew (added q r) = Drew q.key
Enters Drew (modified q r) = Drew q.key
Enters Drew (waited t r vs) = ⊥
Enters Drew x = Unit {0}

-- what a call that reaches the polling system does there
pub record Reaches (Drew : ℕ → Type 0) (m : Meaning) (w : World) (xs : List Exchange) (m' : Meaning) (w' : World) : Type 0 where
  pub files : Keeps Drew m.held m.entered w.entries m'.held m'.entered w'.entries
  pub timers : Timers Drew m.counters w.wheel m'.counters w'.wheel
  pub enters : All (Enters Drew) xs
  -- the level table goes on agreeing with the poller
  pub level : Consistent w.entries w.lines → Consistent w'.entries w'.lines
  -- and, where it agrees, other sources' lines stay
  pub lines : Sound m.held m.entered w.entries → Consistent w.entries w.lines → LinesStay Drew m.entered w.lines w'.lines
  pub most : w'.most ≡ w.most
  -- whether it wants hooks never changes
  pub hooks : m'.hooks ≡ m.hooks

-- nothing is held, nothing is its own, and no timer
pub record Free (m : Meaning) : Type 0 where
  pub held : m.held ≡ []
  pub entered : m.entered ≡ []
  pub counters : m.counters ≡ []

pub record Registering (m : Meaning) (w : World) (d : Drawer) (xs : List Exchange) (r : Answer) (m' : Meaning) (w' : World) (d' : Drawer) : Type 0 where
  pub reaches : Reaches (Drawn d d') m w xs m' w'
  pub draws : Forward d d'
  -- what it drew in its latest registration was drawn in this one
  pub drew : (k : ℕ) → In k m'.drew → Drawn d d' k
  pub refusing : (n : ℕ) (c : Option ℕ) → r ≡ refused n c → Free m'
  pub refusals : RefusedBy by_registration r
  pub handed : HandedOn xs r

pub record Reregistering (m : Meaning) (w : World) (d : Drawer) (xs : List Exchange) (r : Answer) (m' : Meaning) (w' : World) (d' : Drawer) : Type 0 where
  pub reaches : Reaches (Drawn d d') m w xs m' w'
  pub draws : Forward d d'
  pub drew : (k : ℕ) → In k m'.drew → In k m.drew ⊎ Drawn d d' k
  -- an accepted one is its latest registration
  pub accepting : r ≡ done tt → (k : ℕ) → In k m'.drew → Drawn d d' k
  pub refusals : RefusedBy by_registration r
  pub handed : HandedOn xs r

pub record Unregistering (m : Meaning) (w : World) (xs : List Exchange) (r : Answer) (m' : Meaning) (w' : World) : Type 0 where
  pub reaches : Reaches Nothing m w xs m' w'
  pub drew : (k : ℕ) → In k m'.drew → In k m.drew
  pub accepting : r ≡ done tt → m'.held ≡ []
  pub refusals : RefusedBy by_unregister r
  pub handed : HandedOn xs r

pub record LettingGo (m : Meaning) (w : World) (xs : List Exchange) (m' : Meaning) (w' : World) : Type 0 where
  pub reaches : Reaches Nothing m w xs m' w'
  pub drew : (k : ℕ) → In k m'.drew → In k m.drew
  pub free : Free m'

-- a source with other counters, by name, as clauses and laws say it
abbrev pub with_counters : Meaning → List ℕ → Meaning
with_counters m cs = record m { counters = cs }

-- only the clock was asked
abbrev pub Reads : Exchange → Type 0
Reads (read n) = Unit {0}
Reads x = ⊥

-- what was asked for stands behind what was asked for before
abbrev pub Grown : {X : Type 0} → List X → List X → Type 0
Grown {X} es es' = (new : List X) × (es' ≡ es ++ new)

-- an event under the token `t`; `es` and `es'` are the errands before and after
pub record Processing {E T : Type 0} (m : Meaning) (w : World) (t : Token) (es : List E) (xs : List Exchange) (r : Outcome T) (m' : Meaning) (w' : World) (es' : List E) : Type 0 where
  -- no entry of the poller is touched
  pub world : w' ≡ with_timers w w'.wheel
  pub asks : All Reads xs
  pub same : m' ≡ with_counters m m'.counters
  -- timers are entered under the event's token alone
  pub timers : Timers (λ k. k ≡ key_of t) m.counters w.wheel m'.counters w'.wheel
  pub errands : Grown es es'
  pub refusals : RefusedBy by_event r

-- the answer of before_sleep: an event under a token of the latest registration, nothing, or its own fault
abbrev pub Wakes : Meaning → Outcome (Option (Readiness × Token)) → Type 0
Wakes m (done None) = Unit {0}
Wakes m (done (Some a)) = In (key_of a.1) m.drew
Wakes m (refused n c) = OneOf by_hook n c
