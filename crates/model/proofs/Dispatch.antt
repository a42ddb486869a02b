-- A dispatch keeps the loop in order.
use Rattle.std.proofs.Common.{ℕ, List, Some, None, Option, map, refl}
use Rattle.token.specs.declared.token.Token.{Token}
use Rattle.token.specs.Refusal.{done, refused}
use Rattle.poller.specs.Meaning.{Answer}
use Rattle.poller.specs.Register.{Distinct, disarmed}
use Rattle.poller.proofs.Standing.{distinct_map}
use Rattle.list.specs.Slots.{Calm}
use Rattle.sys.specs.declared.event.PollEvent.{PollEvent}
use Rattle.sys.specs.Wait.{Waits}
use Rattle.sys.specs.World.{World, Exchange}
use Rattle.sys.proofs.Entries.{distinct_mapped}
use Rattle.sys.proofs.Locality.{waits_wakeful, waits_wakens}
use Rattle.kinds.specs.declared.source.EventSource.{Ghosts as EventSourceOf}
use Rattle.model.specs.Course.{Takes}
use Rattle.model.specs.Dispatch.{Dispatched, Turns, asks_hooks, dispatch_of, hands_out, timeout_by, waits_by, woken}
use Rattle.model.specs.Order.{InOrder}
use Rattle.model.specs.Register.{OneRegister, Owners, holders}
use Rattle.model.specs.State.{Loop}
use Rattle.model.proofs.Course.{taken_then}
use Rattle.model.proofs.Hooks.{hooks_asked, hooks_shown}
use Rattle.model.proofs.Kept.{Lawful}
use Rattle.model.proofs.Register.{one_waited}
use Rattle.model.proofs.Rest.{AtRest, at_rest, in_order}
use Rattle.model.proofs.Retries.{retries_keep}
use Rattle.model.proofs.Turn.{turn_rests}
use Rattle.model.proofs.Turns.{Steps, handed_out}

-- THE WAIT

-- the one register, and the poller's files are distinct
pub record OneDistinct (who : Owners) (w : World) : Type 0 where
  pub register : OneRegister who w
  pub apart : Distinct w.entries

one_distinct : (who : Owners) (given : Option ℕ) (w : World) (xs : List Exchange) (r : Answer) (es : List PollEvent) (w' : World) → Waits given w xs r es w' → OneDistinct who w → OneDistinct who w'
one_distinct who given w xs r es w' k o =
    let wakeful = waits_wakeful given w xs r es w' o.apart k in
    let later = (waits_wakens given w xs r es w' o.apart k).wheel in
    let mapped : Distinct (map disarmed w'.entries) = rw (wakeful.same o.register.level) (distinct_mapped disarmed (λ e. refl) w.entries o.apart) in
    record { register = one_waited who w w' wakeful later o.register; apart = distinct_map disarmed (λ e. refl) w'.entries mapped }

module _ {S : Type 0} (kind : EventSourceOf S) (laws : Lawful kind) (h : List ℕ) (v : List Token) where
  abbrev Rests : Loop S → Type 0
  Rests l = AtRest kind h v l.slots l.lifecycle l.world

  -- AFTER THE WAIT
  turns_rest : Steps kind (λ es (a : Turns S). Rests a.loop) (λ (b : Turns S). Rests b.loop)
  turns_rest = record { step = λ e es a qs t r c. turn_rests kind laws h v a.loop r e qs t c; over = λ a r. r; stop = λ n d es a is r. r }

  handed_rests : (q es : List PollEvent) (l : Loop S) (qs : List Exchange) (o : Dispatched S) → Rests l → Takes kind (hands_out kind q es l) qs o → Rests o.loop
  handed_rests q es l qs o r c =
      let k = handed_out kind (λ es a. Rests a.loop) (λ b. Rests b.loop) turns_rest q es l qs o (λ ys xs d. hooks_shown kind laws h v l.lifecycle l.world es l.lifecycle l.slots ys xs r d) c in
      rw k.is k.brought

  woken_rests : (a : Option Answer) (q es : List PollEvent) (l : Loop S) (qs : List Exchange) (o : Dispatched S) → Rests l → Takes kind (woken kind a q es l) qs o → Rests o.loop
  woken_rests None q es l qs o r c = rw c.1 r
  woken_rests (Some (done u)) q es l qs o r c = handed_rests q es l qs o r c
  woken_rests (Some (refused n d)) q es l qs o r c = rw c.1 r

  waited_rests : (a : Answer) (t : Option ℕ) (start : ℕ) (l : Loop S) (q : List PollEvent) (qs : List Exchange) (o : Dispatched S) → Distinct l.world.entries → Rests l → Takes kind (waits_by kind a t start l q) qs o → Rests o.loop
  waited_rests (refused n d) t start l q qs o apart r c = rw c.1 r
  waited_rests (done u) t start l q qs o apart r c =
      let who = holders kind l.slots None in
      let kept = retries_keep (OneDistinct who) (one_distinct who) (timeout_by q t) start 63 (timeout_by q t) l.world c.0.exchanges c.0.answer c.0.events c.0.world c.1 (record { register = r.register; apart = apart }) in
      woken_rests c.0.answer q c.0.events (record l { world = c.0.world }) c.2 o (record { few = r.few; counted = r.counted; listed = r.listed; hooked = r.hooked; refused = r.refused; calm = r.calm; register = kept.register }) c.4

-- A DISPATCH KEEPS THE LOOP IN ORDER, and no source is being handled after it.
pub dispatch_keeps : {S : Type 0} (kind : EventSourceOf S) → Lawful kind → (h : List ℕ) (v : List Token) (t : Option ℕ) (l : Loop S) (q : List PollEvent) → Distinct l.world.entries → InOrder kind None h v l → Calm l.slots
    → (xs : List Exchange) (o : Dispatched S) → Takes kind (dispatch_of kind t l q) xs o → InOrder kind None h v o.loop × Calm o.loop.slots
dispatch_keeps kind laws h v t l q apart order calm xs o c =
    let rest = at_rest kind h v l order calm in
    let asked = taken_then kind _ o (asks_hooks l.lifecycle l.slots q) c.1 c.3 in
    let hooked = hooks_asked kind laws h v l.lifecycle l.world l.lifecycle l.slots q asked.first asked.outcome rest asked.came in
    in_order kind h v o.loop (waited_rests kind laws h v asked.outcome.answer t c.0 (record l { slots = asked.outcome.slots }) asked.outcome.waiting asked.second o apart hooked asked.rest)
