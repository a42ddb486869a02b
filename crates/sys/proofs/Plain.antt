-- Each call of the polling system as the world sees it.
use Rattle.std.proofs.Common.{◌≡◌, ℕ, List, [], ◌∷◌, ◌++◌, Option, Ok, sym, refl, subst, arith}
use Rattle.token.specs.Refusal.{Outcome, done, refused}
use Rattle.poller.specs.declared.entry.Entry.{Entry}
use Rattle.poller.specs.declared.entry.Mode.{Mode}
use Rattle.poller.specs.declared.poller.Poller.{Ghosts as PollerOf}
use Rattle.poller.specs.Meaning.{Answer, Fate, add_of, modify_of, delete_of}
use Rattle.poller.specs.declared.entry.Request.{Request}
use Rattle.levels.specs.declared.table.Line.{Line}
use Rattle.sys.specs.declared.clock.Clock.{Ghosts as ClockOf}
use Rattle.sys.specs.declared.poll.Poll.{Poll}
use Rattle.sys.specs.Laws.{Touches, TouchesFile}
use Rattle.sys.specs.Polling.{Registers, Sent, Unregisters, LetsGo, mode_below_of, request, state_of, with_lines, with_poller}
use Rattle.sys.specs.World.{World, CameTo, Come, Exchange, Exchanged, Asked, Comes, added, deleted, forgotten, given_up, modified, noted, read, let_go_of, register_of, reregister_of, sent, unregister_of, waited, with_table, world_of}
use Rattle.sys.proofs.Lawful.{Adding, Came, Deleting, Modifying}

module _ {P C : Type 0} (poller : PollerOf P) (clock : ClockOf C) where
  module _ (s s' : Poll P C) where
    -- the poller and the lines changed, and nothing else
    new_table : (ls : Option (List Line)) → state_of s' ≡ with_lines (with_poller (state_of s) s'.poller) ls → poller.most s'.poller ≡ poller.most s.poller
        → world_of poller s' ≡ with_table (world_of poller s) (poller.entries s'.poller) ls
    new_table ls e k = grind (arith, e)

    -- the poller answered one question with `a`, and the call comes to what its answer and its entries come to
    abbrev CameBy : (Answer × List Entry → Come) → Answer → Answer × List Entry → Type 0
    CameBy come r a = (r ≡ (come a).answer) × (world_of poller s' ≡ (come a).world) × Exchanged poller clock (come a).exchanges s s'

    one_question : (of : Fate → Answer × List Entry) (come : Answer × List Entry → Come) (r a : Answer) → Came poller of s.poller a s'.poller → CameBy come r (a, poller.entries s'.poller)
        → Comes (λ fate. come (of fate)) r (world_of poller s') (λ xs. Exchanged poller clock xs s s')
    one_question of come r a h b = let w = subst (CameBy come r) h.0.1 b in record { fate = h.0.0; answer = w.0; world = w.1; exchanged = w.2 }

    -- add and modify alike
    sent_plain : (asks : P → Request → Answer → P → Type 0) (asked : Request → Answer → Exchange) (of : Request → Fate → Answer × List Entry) (l : Line) (m : Mode) (r : Answer)
        → ((q : Request) → asks s.poller q r s'.poller → Came poller (of q) s.poller r s'.poller)
        → ((q : Request) → asks s.poller q r s'.poller → s'.clock ≡ s.clock → Exchanged poller clock (asked q r ∷ []) s s')
        → (o : Outcome Mode) → Sent asks o l m (state_of s) r (state_of s')
        → Comes (λ fate. sent asked (λ q. of q fate) o l m (world_of poller s)) r (world_of poller s') (λ xs. Exchanged poller clock xs s s')
    sent_plain asks asked of l m r law said (refused n c) w = record { fate = Ok tt; answer = w.0; world = grind (arith, w.1); exchanged = record { asked = grind (arith, w.1) } }
    sent_plain asks asked of l m r law said (done b) w =
        let f = law (request l b) w.0 in
        one_question (of (request l b)) (noted l m (world_of poller s) (asked (request l b))) r r f (refl, new_table _ w.1 f.1, said (request l b) w.0 (grind (arith, w.1)))

  module _ (l : Line) (m : Mode) (s : Poll P C) (r : Answer) (s' : Poll P C) where
    pub registers_plain : Adding poller → Registers poller.adds l m (state_of s) r (state_of s') → CameTo poller clock (register_of l m) s r s'
    registers_plain law h =
        sent_plain s s' poller.adds added (λ q fate. add_of (poller.most s.poller) (poller.entries s.poller) q fate) l m r (λ q. law s.poller q r s'.poller)
        (λ q w k. record { asked = (s'.poller, w, (refl, k)) }) (mode_below_of s.level_triggered l.key m) h

    pub reregisters_plain : Modifying poller → Registers poller.modifies l m (state_of s) r (state_of s') → CameTo poller clock (reregister_of l m) s r s'
    reregisters_plain law h =
        sent_plain s s' poller.modifies modified (λ q fate. modify_of (poller.entries s.poller) q fate) l m r (λ q. law s.poller q r s'.poller)
        (λ q w k. record { asked = (s'.poller, w, (refl, k)) }) (mode_below_of s.level_triggered l.key m) h

  module _ (law : Deleting poller) (f : ℕ) (s : Poll P C) where
    pub unregisters_plain : (r : Answer) (s' : Poll P C) → Unregisters poller f (state_of s) r (state_of s') → CameTo poller clock (unregister_of f) s r s'
    unregisters_plain r s' h =
        let w = law s.poller f r s'.poller h.0 in
        one_question s s' (delete_of (poller.entries s.poller) f) (forgotten f (world_of poller s)) r r w
        (refl, new_table s s' _ h.1 w.1, record { asked = (s'.poller, h.0, (refl, grind (arith, h.1))) })

    pub lets_go_plain : (s' : Poll P C) → LetsGo poller f (state_of s) (state_of s') → CameTo poller clock (let_go_of f) s (done tt) s'
    lets_go_plain s' h =
        let w = law s.poller f h.0 s'.poller h.1 in
        one_question s s' (delete_of (poller.entries s.poller) f) (given_up f (world_of poller s)) (done tt) h.0 w
        (refl, new_table s s' _ h.2 w.1, record { asked = (s'.poller, h.1, (refl, grind (arith, h.2))) })

  -- what a call touches by every fate, it touched
  pub came_touches : (of : World → Fate → Come) (f : ℕ) (k : Option ℕ) (s : Poll P C) (r : Answer) (s' : Poll P C)
      → ((w : World) (fate : Fate) → Touches f k w.entries w.lines (of w fate).world.entries (of w fate).world.lines) → CameTo poller clock of s r s' → TouchesFile poller f k s s'
  came_touches of f k s r s' touches h =
      let w = world_of poller s in subst (λ (x : World). Touches f k w.entries w.lines x.entries x.lines) (sym h.world) (touches w h.fate)

-- WHAT WAS ASKED

module _ {P C : Type 0} (poller : PollerOf P) (clock : ClockOf C) where
  pub asked_then : (xs ys : List Exchange) (p q r : P) (c d e : C) → Asked poller clock xs p c q d → Asked poller clock ys q d r e
      → Asked poller clock (xs ++ ys) p c r e
  asked_then [] ys p q r c d e h k = subst (λ (x : P). Asked poller clock ys x c r e) h.0 (subst (λ (x : C). Asked poller clock ys q x r e) h.1 k)
  asked_then (added x a ∷ xs) ys p q r c d e h k = (h.0, h.1, asked_then xs ys h.0 q r c d e h.2 k)
  asked_then (modified x a ∷ xs) ys p q r c d e h k = (h.0, h.1, asked_then xs ys h.0 q r c d e h.2 k)
  asked_then (deleted f a ∷ xs) ys p q r c d e h k = (h.0, h.1, asked_then xs ys h.0 q r c d e h.2 k)
  asked_then (read n ∷ xs) ys p q r c d e h k = (h.0, h.1, asked_then xs ys p q r h.0 d e h.2 k)
  asked_then (waited t a vs ∷ xs) ys p q r c d e h k = (h.0, h.1, asked_then xs ys h.0 q r c d e h.2 k)

  pub exchanged_then : {xs ys : List Exchange} {s t u : Poll P C} → Exchanged poller clock xs s t → Exchanged poller clock ys t u
      → Exchanged poller clock (xs ++ ys) s u
  exchanged_then {xs} {ys} {s} {t} {u} h k =
      record { asked = asked_then xs ys s.poller t.poller u.poller s.clock t.clock u.clock h.asked k.asked }
