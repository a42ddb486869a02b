-- The handing out of a dispatch's events, from its parts.
use Rattle.std.proofs.Common.{◌≡◌, ℕ, List, [], ◌++◌, Option, refl, subst, sym}
use Rattle.std.proofs.lemmas.List.{append-nil}
use Rattle.token.specs.Refusal.{done, refused}
use Rattle.poller.specs.declared.poller.Poller.{Ghosts as PollerOf}
use Rattle.list.specs.declared.slots.Slot.{Slot}
use Rattle.sys.specs.declared.clock.Clock.{Ghosts as ClockOf}
use Rattle.sys.specs.declared.event.PollEvent.{PollEvent}
use Rattle.sys.specs.declared.poll.Poll.{Poll}
use Rattle.sys.specs.World.{Between, World, world_of}
use Rattle.sys.proofs.Plain.{exchanged_then}
use Rattle.kinds.specs.declared.source.EventSource.{Ghosts as EventSourceOf}
use Rattle.model.specs.Course.{Takes}
use Rattle.model.specs.Dispatch.{Turns, goes_on, handled, hands_out, no_turns, shows_hooks, turns_of, with_lost}
use Rattle.model.proofs.Parts.{handed}
use Rattle.loop_handle.specs.State.{loop_of, with_sources}
use Rattle.loop_handle.specs.declared.handle.LoopHandle.{LoopHandle}

module _ {P C S : Type 0} (poller : PollerOf P) (clock : ClockOf C) (kind : EventSourceOf S) (l : LoopHandle P C S) (p : Poll P C) (ys : List (Slot S)) (q es : List PollEvent) (a : World → Turns S)
    (shown : Takes kind (shows_hooks es l.registry.lifecycle l.sources) [] ys)
    (first : Between poller clock l.registry.poll p (λ w xs w'. Takes kind (turns_of kind q (no_turns (loop_of (with_sources l ys) w))) xs (a w'))) where
  abbrev before : World
  before = world_of poller l.registry.poll

  -- a turn of the hooks' events failed
  pub stopped : (n : ℕ) (c : Option ℕ) → ((w : World) → (a w).answer ≡ refused n c) → Between poller clock l.registry.poll p (λ w xs w'. Takes kind (hands_out kind q es (loop_of l w)) xs (handled es (with_lost (a w') es)))
  stopped n c fault =
      let b = a (world_of poller p) in
      let o = handled es (with_lost b es) in
      let ends : Takes kind (goes_on kind b.answer (turns_of kind es) es b) [] (with_lost b es) = subst (λ r. Takes kind (goes_on kind r (turns_of kind es) es b) [] (with_lost b es)) (sym (fault (world_of poller p))) (refl, refl) in
      let run = handed kind q es (loop_of l before) ys first.0 [] b (with_lost b es) o shown first.2 ends refl in
      (first.0, first.1, subst (λ zs. Takes kind (hands_out kind q es (loop_of l before)) zs o) (append-nil first.0) run)

  -- none did, and the poller's and the timers' events had their turns
  pub whole : (p' : Poll P C) (o : World → Turns S) → ((w : World) → (a w).answer ≡ done tt) → Between poller clock p p' (λ w xs w'. Takes kind (turns_of kind es (a w)) xs (o w'))
      → Between poller clock l.registry.poll p' (λ w xs w'. Takes kind (hands_out kind q es (loop_of l w)) xs (handled es (o w')))
  whole p' o fine next =
      let b = a (world_of poller p) in
      let end = o (world_of poller p') in
      let goes : Takes kind (goes_on kind b.answer (turns_of kind es) es b) next.0 end = subst (λ r. Takes kind (goes_on kind r (turns_of kind es) es b) next.0 end) (sym (fine (world_of poller p))) next.2 in (
        first.0 ++ next.0,
        exchanged_then poller clock first.1 next.1,
        handed kind q es (loop_of l before) ys first.0 next.0 b end (handled es end) shown first.2 goes refl,
      )
