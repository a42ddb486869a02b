-- What a call asks of a source, and what it does with each answer.
use Rattle.std.specs.Prelude.{◌≡◌, ℕ, List, [], ◌∷◌, ◌++◌, Option}
use Rattle.token.specs.declared.token.Token.{Token}
use Rattle.token.specs.Refusal.{Outcome}
use Rattle.poller.specs.declared.entry.Readiness.{Readiness}
use Rattle.poller.specs.Meaning.{Answer}
use Rattle.post_action.specs.declared.PostAction.{PostAction}
use Rattle.sys.specs.declared.event.PollEvent.{PollEvent}
use Rattle.sys.specs.World.{World, Exchange, read}
use Rattle.rules.specs.Meaning.{Drawer}
use Rattle.rules.specs.Calls.{Came, Went}
use Rattle.kinds.specs.declared.errand.Errand.{Errand}
use Rattle.kinds.specs.declared.source.EventSource.{Ghosts as EventSourceOf}
use Rattle.model.specs.Retries.{Retries}

-- what an event comes to in its source, which asks for errands besides
pub record Processed (S : Type 0) : Type 0 where
  pub answer : Outcome PostAction
  pub source : S
  pub world : World
  pub errands : List Errand
  pub exchanges : List Exchange

-- what a source answers before a wait: an event of its own, or nothing
pub record Slept (S : Type 0) : Type 0 where
  pub answer : Outcome (Option (Readiness × Token))
  pub source : S

-- what a wait with its retries comes to; no answer where an interruption left no time
pub record Woken : Type 0 where
  pub answer : Option Answer
  pub events : List PollEvent
  pub world : World
  pub exchanges : List Exchange

pub data Course (S A : Type 0) : Type 0 where
  -- nothing more is asked
  ends : A → Course S A
  registers : S → World → Drawer → (Came S → Course S A) → Course S A
  reregisters : S → World → Drawer → (Came S → Course S A) → Course S A
  unregisters : S → World → (Went (Unit {0}) S → Course S A) → Course S A
  leaves : S → World → (Went (Unit {0}) S → Course S A) → Course S A
  -- the source is handed an event with its readiness and token
  processes : S → World → Readiness → Token → (Processed S → Course S A) → Course S A
  -- the two hooks
  sleeps : S → (Slept S → Course S A) → Course S A
  sees : S → List PollEvent → (S → Course S A) → Course S A
  -- the source ends, and answers nothing
  finishes : S → Course S A → Course S A
  -- the clock is read
  reads : (ℕ → Course S A) → Course S A
  -- a wait with its retries, by the timeout and the time at which the dispatch began
  waits : Option ℕ → ℕ → World → (Woken → Course S A) → Course S A

-- the course, and then the one that its outcome gives
abbrev pub and_then : {S A B : Type 0} → Course S A → (A → Course S B) → Course S B
and_then (ends a) f = f a
and_then (registers s w d k) f = registers s w d (λ c. and_then (k c) f)
and_then (reregisters s w d k) f = reregisters s w d (λ c. and_then (k c) f)
and_then (unregisters s w k) f = unregisters s w (λ c. and_then (k c) f)
and_then (leaves s w k) f = leaves s w (λ c. and_then (k c) f)
and_then (processes s w x t k) f = processes s w x t (λ c. and_then (k c) f)
and_then (sleeps s k) f = sleeps s (λ c. and_then (k c) f)
and_then (sees s es k) f = sees s es (λ s'. and_then (k s') f)
and_then (finishes s k) f = finishes s (and_then k f)
and_then (reads k) f = reads (λ n. and_then (k n) f)
and_then (waits t n w k) f = waits t n w (λ c. and_then (k c) f)

module _ {S : Type 0} (kind : EventSourceOf S) where
  -- The course was taken, with these questions to poller and clock, and came to this. Each answer is the source's own.
  abbrev pub Takes : {A : Type 0} → Course S A → List Exchange → A → Type 0
  Takes (ends a) xs b = (xs ≡ []) × (b ≡ a)
  Takes (registers s w d k) xs b = (c : Came S) × kind.registers s w d c.exchanges c.answer c.source c.world c.drawer × (ys : List Exchange) × (xs ≡ c.exchanges ++ ys) × Takes (k c) ys b
  Takes (reregisters s w d k) xs b = (c : Came S) × kind.reregisters s w d c.exchanges c.answer c.source c.world c.drawer × (ys : List Exchange) × (xs ≡ c.exchanges ++ ys) × Takes (k c) ys b
  Takes (unregisters s w k) xs b = (c : Went (Unit {0}) S) × kind.unregisters s w c.exchanges c.answer c.source c.world × (ys : List Exchange) × (xs ≡ c.exchanges ++ ys) × Takes (k c) ys b
  Takes (leaves s w k) xs b = (c : Went (Unit {0}) S) × kind.leaves s w c.exchanges c.source c.world × (ys : List Exchange) × (xs ≡ c.exchanges ++ ys) × Takes (k c) ys b
  Takes (processes s w x t k) xs b = (c : Processed S) × kind.processes s w x t [] c.exchanges c.answer c.source c.world c.errands × (ys : List Exchange) × (xs ≡ c.exchanges ++ ys) × Takes (k c) ys b
  Takes (sleeps s k) xs b = (c : Slept S) × kind.sleeps s c.answer c.source × Takes (k c) xs b
  Takes (sees s es k) xs b = (s' : S) × kind.sees s es s' × Takes (k s') xs b
  Takes (finishes s k) xs b = kind.ends s × Takes k xs b
  Takes (reads k) xs b = (n : ℕ) × (ys : List Exchange) × (xs ≡ read n ∷ ys) × Takes (k n) ys b
  Takes (waits t n w k) xs b = (c : Woken) × Retries 63 t n t w c.exchanges c.answer c.events c.world × (ys : List Exchange) × (xs ≡ c.exchanges ++ ys) × Takes (k c) ys b
