-- A dispatch, from its parts.
use Rattle.std.proofs.Common.{◌≡◌, ℕ, List, [], ◌∷◌, ◌++◌, Option, refl, subst, sym}
use Rattle.token.specs.Refusal.{done}
use Rattle.poller.specs.declared.poller.Poller.{Ghosts as PollerOf}
use Rattle.poller.specs.Meaning.{Answer}
use Rattle.sys.specs.declared.clock.Clock.{Ghosts as ClockOf}
use Rattle.sys.specs.declared.event.PollEvent.{PollEvent}
use Rattle.sys.specs.declared.poll.Poll.{Poll}
use Rattle.sys.specs.World.{Between, World, read, world_of}
use Rattle.sys.proofs.Plain.{exchanged_then}
use Rattle.kinds.specs.declared.source.EventSource.{Ghosts as EventSourceOf}
use Rattle.model.specs.Course.{Takes}
use Rattle.model.specs.Dispatch.{Dispatched, Hooked, asks_hooks, dispatch_of, timeout_by, waits_by, woken}
use Rattle.model.specs.Retries.{Retries}
use Rattle.model.specs.State.{Loop}
use Rattle.model.proofs.Parts.{asked_first, waited_then}
use Rattle.loop_handle.specs.State.{loop_of}
use Rattle.loop_handle.specs.declared.handle.LoopHandle.{LoopHandle}

module _ {P C S : Type 0} (poller : PollerOf P) (clock : ClockOf C) (kind : EventSourceOf S) (t : Option ℕ) (l : LoopHandle P C S) (q : List PollEvent) (start : ℕ) (p : Poll P C) (h : Hooked S)
    (began : Between poller clock l.registry.poll p (λ w xs w'. (xs ≡ read start ∷ []) × (w' ≡ w)))
    (asked : Takes kind (asks_hooks l.registry.lifecycle l.sources q) [] h) where
  -- the loop once the hooks were asked, over a world
  abbrev hooked : World → Loop S
  hooked w = record (loop_of l w) { slots = h.slots }

  -- what comes behind the hooks
  pub hooks_then : (p' : Poll P C) (o : World → Dispatched S) → Between poller clock p p' (λ w xs w'. Takes kind (waits_by kind h.answer t start (hooked w) h.waiting) xs (o w'))
      → Between poller clock l.registry.poll p' (λ w xs w'. Takes kind (dispatch_of kind t (loop_of l w) q) xs (o w'))
  hooks_then p' o on =
      let w = world_of poller l.registry.poll in
      let out = o (world_of poller p') in
      let goes = subst (λ v. Takes kind (waits_by kind h.answer t start (hooked v) h.waiting) on.0 out) began.2.1 on.2 in
      let run = asked_first kind t (loop_of l w) q start on.0 h out asked goes in
      (began.0 ++ on.0, exchanged_then poller clock began.1 on.1, subst (λ zs. Takes kind (dispatch_of kind t (loop_of l w) q) (zs ++ on.0) out) (sym began.2.0) run)

module _ {P C S : Type 0} (poller : PollerOf P) (clock : ClockOf C) (kind : EventSourceOf S) (t : Option ℕ) (l : LoopHandle P C S) (q : List PollEvent) (start : ℕ) (p : Poll P C) (r : Option Answer) (es : List PollEvent)
    (waited : Between poller clock l.registry.poll p (λ w xs w'. Retries 63 (timeout_by q t) start (timeout_by q t) w xs r es w')) where
  -- what comes behind the wait
  pub wait_then : (p' : Poll P C) (o : World → Dispatched S) → Between poller clock p p' (λ w xs w'. Takes kind (woken kind r q es (loop_of l w)) xs (o w'))
      → Between poller clock l.registry.poll p' (λ w xs w'. Takes kind (waits_by kind (done tt) t start (loop_of l w) q) xs (o w'))
  wait_then p' o on = (
    waited.0 ++ on.0,
    exchanged_then poller clock waited.1 on.1,
    waited_then kind t (loop_of l (world_of poller l.registry.poll)) q start waited.0 on.0 r es (world_of poller p) (o (world_of poller p')) waited.2 on.2,
  )

  -- nothing, where no event is handed out
  pub wait_last : (o : World → Dispatched S) → ((w : World) → Takes kind (woken kind r q es (loop_of l w)) [] (o w))
      → Between poller clock l.registry.poll p (λ w xs w'. Takes kind (waits_by kind (done tt) t start (loop_of l w) q) xs (o w'))
  wait_last o ends = wait_then p o ([], record { asked = (refl, refl) }, ends (world_of poller p))
