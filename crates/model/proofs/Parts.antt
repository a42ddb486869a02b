-- The parts of a turn and of a dispatch, from what was asked and answered.
use Rattle.std.proofs.Common.{◌≡◌, ℕ, List, [], ◌∷◌, ◌++◌, Bool, Some, Option, nat_le, length, suc, zero, true, false, refl, subst, sym, arith}
use Rattle.std.proofs.lemmas.List.{append-nil}
use Rattle.token.specs.declared.token.Token.{Token}
use Rattle.token.specs.Key.{own_source}
use Rattle.token.specs.Refusal.{Outcome, done, refused}
use Rattle.poller.specs.declared.entry.Readiness.{Readiness}
use Rattle.poller.specs.Meaning.{Answer}
use Rattle.post_action.specs.declared.PostAction.{PostAction}
use Rattle.post_action.specs.declared.PostAction.TheVariants.{Disable, Reregister}
use Rattle.list.specs.Entries.{left}
use Rattle.list.specs.Slots.{fitting, placed}
use Rattle.list.specs.declared.slots.Place.TheVariants.{Handled, Occupied}
use Rattle.list.specs.declared.slots.Slot.{Slot}
use Rattle.sys.specs.declared.event.PollEvent.{PollEvent}
use Rattle.sys.specs.Wait.{Waits}
use Rattle.sys.specs.World.{Exchange, World, read}
use Rattle.rules.specs.Calls.{went}
use Rattle.kinds.specs.Events.{of_source}
use Rattle.kinds.specs.declared.errand.Errand.{Errand}
use Rattle.kinds.specs.declared.source.EventSource.{Ghosts as EventSourceOf}
use Rattle.model.specs.Calls.{Acted, renews, standing_at, withdraws}
use Rattle.model.specs.Course.{Course, Takes, and_then, ends}
use Rattle.model.specs.Dispatch.{Dispatched, Hooked, InHand, Settled, Turn, Turns, action_of, acts, asks_hooks, dismisses, dispatch_of, fate_of, goes_on, handled, hands_out, held, no_turns, queued, settles, shows_hooks, timeout_by, turn_by, turn_of, turned, turns_of, waits_by, with_lost, with_turn, woken}
use Rattle.model.specs.Retries.{Again, Retries, interrupted}
use Rattle.model.specs.State.{Loop}
use Rattle.model.proofs.Course.{takes_made, takes_then}

module _ {S : Type 0} (kind : EventSourceOf S) where
  -- WHAT WAS DONE ON THE SOURCE IN HAND
  module _ (t : Token) (xs : List (Slot S)) (ts : List Token) (w : World) (s : S) (es : List Exchange) (a : Acted S) (o : InHand S) where
    pub reregistered : Takes kind (renews kind ts w s t) es a → held xs t true a ≡ o → Takes kind (acts kind Reregister t xs ts w s) es o
    reregistered h q = takes_made kind (held xs t true) (renews kind ts w s t) es a o h q

    pub disabled : Takes kind (withdraws kind ts w s t) es a → held xs t false a ≡ o → Takes kind (acts kind Disable t xs ts w s) es o
    disabled h q = takes_made kind (held xs t false) (withdraws kind ts w s t) es a o h q

  -- it left
  module _ (t : Token) (xs : List (Slot S)) (ts : List Token) (w w' : World) (s s' : S) (es : List Exchange) (o : Settled S) where
    pub dismissed : (w'' : World) (s'' : S) (fs : List Exchange) (r : Answer) → kind.unregisters s w es r s' w' → kind.leaves s' w' fs s'' w'' → kind.ends s'' → record { slots = xs; lifecycle = left t ts; world = w'' } ≡ o
        → Takes kind (dismisses (done tt) t xs ts w s) (es ++ fs) o
    dismissed w'' s'' fs r h k over q = (went es r s' w', h, fs, refl, (went fs (done tt) s'' w'', k, [], sym (append-nil fs), (over, (refl, sym q))))

    pub let_go : (n : ℕ) (c : Option ℕ) → kind.leaves s w es s' w' → kind.ends s' → record { slots = xs; lifecycle = left t ts; world = w' } ≡ o
        → Takes kind (dismisses (refused n c) t xs ts w s) es o
    let_go n c k over q = (went es (done tt) s' w', k, [], sym (append-nil es), (over, (refl, sym q)))

  -- ITS TURN
  module _ (l : Loop S) (e : PollEvent) (t : Token) (s s' : S) (w' : World) (r : Outcome PostAction) (asked errands : List Errand) (action : PostAction) (slots : List (Slot S)) (fate : Answer)
      (xs ys zs : List Exchange) (a : InHand S) (b : Settled S) (o : Turn S) where
    pub turn_made : t ≡ own_source e.token → standing_at l.slots (fitting l.slots t) ≡ Occupied s
        → asked ≡ [] → kind.processes s l.world e.readiness e.token asked xs r s' w' errands
        → action ≡ action_of r l.pending → slots ≡ placed l.slots t.id Handled → Takes kind (acts kind action t slots l.lifecycle w' s') ys a
        → fate ≡ fate_of r a.answer → Takes kind (settles (fitting a.slots t) fate t a.slots a.lifecycle a.world a.source) zs b
        → turned l fate errands b ≡ o → Takes kind (turn_of kind l e) (xs ++ (ys ++ zs)) o
    turn_made own there none h does out k goes m q =
        let h' : kind.processes s l.world e.readiness e.token [] xs r s' w' errands = subst (λ es. kind.processes s l.world e.readiness e.token es xs r s' w' errands) none h in
        let act = λ (x : PostAction) (ss : List (Slot S)). acts kind x t ss l.lifecycle w' s' in
        let k' = subst (λ x. Takes kind (act x (placed l.slots t.id Handled)) ys a) does (subst (λ ss. Takes kind (act action ss) ys a) out k) in
        let settle = λ (u : InHand S) (f : Answer). settles (fitting u.slots t) f t u.slots u.lifecycle u.world u.source in
        let m' = subst (λ f. Takes kind (settle a f) zs b) goes m in
        let q' = subst (λ f. turned l f errands b ≡ o) goes q in
        let run = takes_then kind (λ (u : InHand S). and_then (settle u (fate_of r u.answer)) (λ v. ends (turned l (fate_of r u.answer) errands v))) zs o (act (action_of r l.pending) (placed l.slots t.id Handled)) ys a k'
        (takes_made kind (turned l (fate_of r a.answer) errands) (settle a (fate_of r a.answer)) zs b o m' q') in
        let taken : Takes kind (turn_by kind l e t (standing_at l.slots (fitting l.slots t))) (xs ++ (ys ++ zs)) o =
        rw there (record { answer = r; source = s'; world = w'; errands = errands; exchanges = xs }, h', ys ++ zs, refl, run) in
        subst (λ u. Takes kind (turn_by kind l e u (standing_at l.slots (fitting l.slots u))) (xs ++ (ys ++ zs)) o) own taken

  -- THE HOOKS
  -- a source that was asked before the wait
  pub one_asked : (t : Token) (ts : List Token) (xs : List (Slot S)) (q : List PollEvent) (s s' : S) (r : Outcome (Option (Readiness × Token))) (es : List Exchange) (o : Hooked S)
      → nat_le 128 (length q) ≡ false → standing_at xs (fitting xs t) ≡ Occupied s → kind.sleeps s r s'
      → Takes kind (queued r (placed xs t.id (Occupied s')) q (asks_hooks ts)) es o → Takes kind (asks_hooks (t ∷ ts) xs q) es o
  one_asked t ts xs q s s' r es o room there h k = rw room (rw there (record { answer = r; source = s' }, h, k))

  -- a source that was shown its events
  pub one_shown : (vs : List PollEvent) (t : Token) (ts : List Token) (xs : List (Slot S)) (s s' : S) (es : List Exchange) (o : List (Slot S))
      → standing_at xs (fitting xs t) ≡ Occupied s → kind.sees s (of_source t vs) s'
      → Takes kind (shows_hooks vs ts (placed xs t.id (Occupied s'))) es o → Takes kind (shows_hooks vs (t ∷ ts) xs) es o
  one_shown vs t ts xs s s' es o there h k = rw there (s', h, k)

  -- ALL TURNS
  module _ (a : Turns S) (e : PollEvent) (es : List PollEvent) (xs : List Exchange) (u : Turn S) (o : Turns S) (h : Takes kind (turn_of kind a.loop e) xs u) where
    abbrev goes : Answer → Turn S → Course S (Turns S)
    goes r v = goes_on kind r (turns_of kind es) es (with_turn a e v)

    -- one, and the turns behind it
    pub turned_one : (ys : List Exchange) → u.answer ≡ done tt → Takes kind (turns_of kind es (with_turn a e u)) ys o → Takes kind (turns_of kind (e ∷ es) a) (xs ++ ys) o
    turned_one ys fine k = takes_then kind (λ v. goes v.answer v) ys o (turn_of kind a.loop e) xs u h (subst (λ r. Takes kind (goes r u) ys o) (sym fine) k)

    -- one that stops the dispatch
    pub turned_last : (n : ℕ) (c : Option ℕ) → u.answer ≡ refused n c → with_lost (with_turn a e u) es ≡ o → Takes kind (turns_of kind (e ∷ es) a) xs o
    turned_last n c stops is =
        subst (λ ys. Takes kind (turns_of kind (e ∷ es) a) ys o) (append-nil xs) (takes_then kind (λ v. goes v.answer v) [] o (turn_of kind a.loop e) xs u h (subst (λ r. Takes kind (goes r u) [] o) (sym stops) (refl, sym is)))

  -- A DISPATCH
  -- its hooks were shown the events, and each event had its turn or was lost
  pub handed : (q es : List PollEvent) (l : Loop S) (ys : List (Slot S)) (xs zs : List Exchange) (a b : Turns S) (o : Dispatched S) → Takes kind (shows_hooks es l.lifecycle l.slots) [] ys
      → Takes kind (turns_of kind q (no_turns (record l { slots = ys }))) xs a → Takes kind (goes_on kind a.answer (turns_of kind es) es a) zs b → handled es b ≡ o
      → Takes kind (hands_out kind q es l) (xs ++ zs) o
  handed q es l ys xs zs a b o shown first k is =
      let rest = λ (u : Turns S). and_then (goes_on kind u.answer (turns_of kind es) es u) (λ v. ends (handled es v)) in
      takes_then kind (λ (us : List (Slot S)). and_then (turns_of kind q (no_turns (record l { slots = us }))) rest) (xs ++ zs) o (shows_hooks es l.lifecycle l.slots) [] ys shown
      (takes_then kind rest zs o (turns_of kind q (no_turns (record l { slots = ys }))) xs a first
      (takes_made kind (handled es) (goes_on kind a.answer (turns_of kind es) es a) zs b o k is))

  -- its hooks were asked, and then it went on
  pub asked_first : (t : Option ℕ) (l : Loop S) (q : List PollEvent) (start : ℕ) (xs : List Exchange) (h : Hooked S) (o : Dispatched S) → Takes kind (asks_hooks l.lifecycle l.slots q) [] h
      → Takes kind (waits_by kind h.answer t start (record l { slots = h.slots }) h.waiting) xs o → Takes kind (dispatch_of kind t l q) (read start ∷ xs) o
  asked_first t l q start xs h o asked k =
      (start, xs, refl, takes_then kind (λ (u : Hooked S). waits_by kind u.answer t start (record l { slots = u.slots }) u.waiting) xs o (asks_hooks l.lifecycle l.slots q) [] h asked k)

  -- it waited
  pub waited_then : (t : Option ℕ) (l : Loop S) (q : List PollEvent) (start : ℕ) (xs ys : List Exchange) (r : Option Answer) (es : List PollEvent) (w : World) (o : Dispatched S)
      → Retries 63 (timeout_by q t) start (timeout_by q t) l.world xs r es w → Takes kind (woken kind r q es (record l { world = w })) ys o → Takes kind (waits_by kind (done tt) t start l q) (xs ++ ys) o
  waited_then t l q start xs ys r es w o h k = (record { answer = r; events = es; world = w; exchanges = xs }, h, ys, refl, k)

-- THE WAIT
module _ (given : Option ℕ) (start : ℕ) (left : Option ℕ) (w v : World) (xs : List Exchange) (a : Answer) (vs : List PollEvent) (h : Waits left w xs a vs v) where
  -- one that was not interrupted, or has no retry left
  waited_last : Retries zero given start left w xs (Some a) vs v
  waited_last = (a, h, refl)

  waited_whole : (n : ℕ) → interrupted a ≡ false → Retries (suc n) given start left w xs (Some a) vs v
  waited_whole n not = (a, vs, v, xs, h, [], sym (append-nil xs), rw not (refl, refl, refl, refl))

  pub waited_out : (n : ℕ) (b : Bool) → interrupted a ≡ b → (b ≡ true → n ≡ 0) → Retries n given start left w xs (Some a) vs v
  waited_out zero b is none = waited_last
  waited_out (suc n) false is none = waited_whole n is
  waited_out (suc n) true is none = absurd (omega (arith, none refl))

  -- one that is made again
  pub waited_again : (n : ℕ) (zs : List Exchange) (r : Option Answer) (es : List PollEvent) (w' : World) → interrupted a ≡ true → Again given start (Retries n given start) v zs r es w'
      → Retries (suc n) given start left w (xs ++ zs) r es w'
  waited_again n zs r es w' is k = (a, vs, v, xs, h, zs, refl, rw is k)
