-- A wait as the world sees it.
use Rattle.std.proofs.Common.{◌≡◌, ℕ, List, [], ◌∷◌, ◌++◌, Some, None, Option, ap, refl, subst, ◌∙◌}
use Rattle.token.specs.Refusal.{done, refused}
use Rattle.poller.specs.declared.entry.Entry.{Entry}
use Rattle.poller.specs.declared.entry.Event.{Event}
use Rattle.poller.specs.declared.entry.Mode.TheVariants.{OneShot}
use Rattle.poller.specs.declared.poller.Poller.{Ghosts as PollerOf}
use Rattle.poller.specs.Meaning.{Answer}
use Rattle.timer_wheel.specs.Wheel.{first_deadline}
use Rattle.levels.specs.declared.table.Line.{Line}
use Rattle.levels.specs.Table.{line_of}
use Rattle.sys.specs.declared.clock.Clock.{Ghosts as ClockOf}
use Rattle.sys.specs.declared.event.PollEvent.{PollEvent}
use Rattle.sys.specs.declared.poll.Poll.{Poll}
use Rattle.sys.specs.Polling.{Arms, Goes, Polls, Rearms, RearmsIn, State, Takes, Wakes, request, state_of, with_poller}
use Rattle.sys.specs.Timeout.{TimedBy}
use Rattle.sys.specs.Wait as plain
use Rattle.sys.specs.Wait.{Timed, Waits}
use Rattle.sys.specs.World.{Asked, Between, Exchange, World, modified, read, waited, with_entries}
use Rattle.sys.proofs.Lawful.{Modifying, Waiting}
use Rattle.sys.proofs.Plain.{asked_then}

module _ {P C : Type 0} (poller : PollerOf P) (clock : ClockOf C) where
  -- as `world_of` of a polling system with this state
  abbrev world_at : State P C → World
  world_at s = record { entries = poller.entries s.poller; most = poller.most s.poller; lines = s.lines; wheel = s.wheel }

  -- only the entries are others
  world_with : (s : State P C) (p : P) → poller.most p ≡ poller.most s.poller → world_at (with_poller s p) ≡ with_entries (world_at s) (poller.entries p)
  world_with s p m = cc

  -- RE-ARMING

  -- the poller was asked these questions and came from `p` to `p'`, and its entries came to what `on` says
  abbrev Plainly : (List Entry → List Exchange → Answer → List Entry → Type 0) → P → Answer → P → Type 0
  Plainly on p r p' =
      (xs : List Exchange) × on (poller.entries p) xs r (poller.entries p') × ((c : C) → Asked poller clock xs p c p' c) × (poller.most p' ≡ poller.most p)

  goes_plain : (a : Answer) (on : P → Answer → P → Type 0) (on' : List Entry → List Exchange → Answer → List Entry → Type 0) (r : Answer) (p' : P)
      → ((q : P) → on q r p' → Plainly on' q r p') → (q : P) → Goes poller a on q r p' → Plainly (plain.Goes a on') q r p'
  goes_plain (done u) on on' r p' more q h = more q h
  goes_plain (refused n c) on on' r p' more q h = ([], (refl, h.0, ap poller.entries h.1), λ c. (h.1, refl), ap poller.most h.1)

  module _ (law : Modifying poller) where
    arms_plain : (o : Option Line) (on : P → Answer → P → Type 0) (on' : List Entry → List Exchange → Answer → List Entry → Type 0) (r : Answer) (p' : P)
        → ((q : P) → on q r p' → Plainly on' q r p') → (p : P) → Arms poller o on p r p' → Plainly (plain.Arms o on') p r p'
    arms_plain None on on' r p' more p h = more p h
    arms_plain (Some l) on on' r p' more p h =
        let w = law p (request l OneShot) h.0 h.1 h.2 in
        let g = goes_plain h.0 on on' r p' more h.1 h.3 in
        (modified (request l OneShot) h.0 ∷ g.0, (h.0, poller.entries h.1, w.0, g.0, refl, g.1), λ c. (h.1, h.2, g.2 c), g.3 ∙ w.1)

    rearms_plain : (ls : List Line) (vs : List Event) (p : P) (r : Answer) (p' : P) → Rearms poller ls vs p r p' → Plainly (plain.Rearms ls vs) p r p'
    rearms_plain ls [] p r p' h = ([], (refl, h.0, ap poller.entries h.1), λ c. (h.1, refl), ap poller.most h.1)
    rearms_plain ls (v ∷ vs) p r p' h =
        arms_plain (line_of v.key ls) (Rearms poller ls vs) (plain.Rearms ls vs) r p' (λ q. rearms_plain ls vs q r p') p h

    rearms_in_plain : (t : Option (List Line)) (vs : List Event) (p : P) (r : Answer) (p' : P) → RearmsIn poller t vs p r p' → Plainly (plain.RearmsIn t vs) p r p'
    rearms_in_plain None vs p r p' h = ([], (refl, h.0, ap poller.entries h.1), λ c. (h.1, refl), ap poller.most h.1)
    rearms_in_plain (Some ls) vs p r p' h = rearms_plain ls vs p r p' h

  -- THE STAGES

  timed_plain : (given o : Option ℕ) (p : P) (c c' : C) (t : Option ℕ) → TimedBy clock given o c c' t → (xs : List Exchange) × Timed given o xs t × Asked poller clock xs p c p c'
  timed_plain given None p c c' t h = ([], (refl, h.0), (refl, h.1))
  timed_plain given (Some d) p c c' t h = (read h.0 ∷ [], (h.0, refl, h.2), (c', h.1, (refl, refl)))

  -- the poller stands at `p`, of which the world is `w`
  takes_plain : (a : Answer) (vs : List Event) (s : State P C) (p : P) (k : C) (r : Answer) (es : List PollEvent) (s' : State P C) (w : World) → world_at (with_poller s p) ≡ w
      → Takes poller clock a vs s p k r es s' → (xs : List Exchange) × plain.Takes a vs w xs r es (world_at s') × Asked poller clock xs p k s'.poller s'.clock
  takes_plain a vs s p k r es s' w e h =
      subst (λ (x : World). (xs : List Exchange) × plain.Takes a vs x xs r es (world_at s') × Asked poller clock xs p k s'.poller s'.clock) e (at a h)
    where
      at : (o : Answer) → Takes poller clock o vs s p k r es s'
          → (xs : List Exchange) × plain.Takes o vs (world_at (with_poller s p)) xs r es (world_at s') × Asked poller clock xs p k s'.poller s'.clock
      at (refused n c) h = ([], (refl, h.0, h.1, ap world_at h.2), (ap (λ x. x.poller) h.2, ap (λ x. x.clock) h.2))
      at (done u) h = (read h.0 ∷ [], (h.0, refl, h.2, h.3, ap world_at h.4), (s'.clock, h.1, (ap (λ x. x.poller) h.4, refl)))

  module _ (modifying : Modifying poller) where
    wakes_plain : (a : Answer) (vs : List Event) (s : State P C) (p : P) (k : C) (r : Answer) (es : List PollEvent) (s' : State P C) → poller.most p ≡ poller.most s.poller
        → Wakes poller clock a vs s p k r es s'
        → (xs : List Exchange) × plain.Wakes a vs (with_entries (world_at s) (poller.entries p)) xs r es (world_at s') × Asked poller clock xs p k s'.poller s'.clock
    wakes_plain (refused n c) vs s p k r es s' m h =
        ([], (refl, h.0, h.1, ap world_at h.2 ∙ world_with s p m), (ap (λ x. x.poller) h.2, ap (λ x. x.clock) h.2))
    wakes_plain (done u) vs s p k r es s' m h =
        let a = rearms_in_plain modifying s.lines vs p h.0 h.1 h.2 in
        let t = takes_plain h.0 vs s h.1 k r es s' (with_entries (world_at s) (poller.entries h.1)) (world_with s h.1 (a.3 ∙ m)) h.3 in
        (a.0 ++ t.0, (h.0, poller.entries h.1, a.0, a.1, t.0, refl, t.1), asked_then poller clock a.0 t.0 p h.1 s'.poller k k s'.clock (a.2 k) t.2)

    -- A WAIT was made, and came to what `Waits` says
    pub polls_plain : Waiting poller → (given : Option ℕ) (s : Poll P C) (r : Answer) (es : List PollEvent) (s' : Poll P C) → Polls poller clock given (state_of s) r es (state_of s')
        → Between poller clock s s' (λ w xs w'. Waits given w xs r es w')
    polls_plain waiting given s r es s' h =
        let t = timed_plain given (first_deadline (state_of s).wheel) s.poller s.clock h.read h.timeout h.timed in
        let w = waiting s.poller h.timeout h.answer h.told h.left h.waited in
        let k = wakes_plain h.answer h.told (state_of s) h.left h.read r es (state_of s') w.1 h.wakes in
        let xs = waited h.timeout h.answer h.told ∷ k.0 in (
          t.0 ++ xs,
          record { asked = asked_then poller clock t.0 xs s.poller s.poller s'.poller s.clock h.read s'.clock t.2 (h.left, h.waited, k.2) },
          record { reading = t.0; timeout = h.timeout; timed = t.1; answer = h.answer; told = h.told; entries = poller.entries h.left; meant = w.0; rest = k.0; asked = refl; wakes = k.1 },
        )
