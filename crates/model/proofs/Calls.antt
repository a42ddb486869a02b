-- What the code's calls come to, as courses.
use Rattle.std.proofs.Common.{◌≡◌, ℕ, Bool, true, false, ◌&&◌, List, [], ◌++◌, ◌<◌, length, nat_le, Some, refl, ap, sym}
use Rattle.std.proofs.lemmas.List.{append-nil}
use Rattle.token.specs.declared.token.Token.{Token}
use Rattle.token.specs.Key.{own_source}
use Rattle.token.specs.Refusal.{done, refused}
use Rattle.poller.specs.Meaning.{Answer}
use Rattle.sys.specs.World.{World, Exchange}
use Rattle.rules.specs.Meaning.{Drawer}
use Rattle.rules.specs.Calls.{came, went}
use Rattle.list.specs.Entries.{left}
use Rattle.kinds.specs.declared.source.EventSource.{Ghosts as EventSourceOf}
use Rattle.list.specs.Slots.{fitting, placed, slot_at, standing, vacant_of}
use Rattle.list.specs.declared.slots.Place.TheVariants.{Empty, Handled, Occupied}
use Rattle.list.specs.declared.slots.Slot.{Slot}
use Rattle.model.specs.Calls.{Acted, Inserted, Released, acted, admits, admits_by, after, disable_of, emptied, enable_of, hooked, insert_of, inserted, listed, released_by, releases, remove_of, renews, settled, standing_at, update_of, withdraws}
use Rattle.model.specs.Course.{Takes}
use Rattle.model.specs.State.{Loop}
use Rattle.model.proofs.Course.{takes_made}
use Rattle.model.proofs.Slots.{placed_twice, standing_back}

-- a source that was out of its slot for an act
pub acted_is : {S : Type 0} (l : Loop S) (i : ℕ) (b e : Bool) (a : Acted S) (xs : List (Slot S)) → i < length l.slots → xs ≡ standing (placed l.slots i Handled) i a.source e
    → e ≡ settled a.answer (slot_at l.slots i).enabled b → acted l i b a ≡ (a.answer, record l { slots = xs; lifecycle = a.lifecycle; world = a.world })
acted_is l i b e a xs within put flag = rw put (rw flag (rw (standing_back l.slots i a.source (settled a.answer (slot_at l.slots i).enabled b) within) refl))

pub emptied_is : {S : Type 0} (l : Loop S) (t : Token) (ts : List Token) (w : World) (xs : List (Slot S)) → t.id < length l.slots → xs ≡ placed (placed l.slots t.id Handled) t.id Empty
    → ◌≡◌ {A = Loop S} (record (emptied l t) { lifecycle = ts; world = w }) (record l { slots = xs; lifecycle = ts; world = w })
emptied_is l t ts w xs within put = rw put (rw (placed_twice l.slots t.id Handled Empty within) refl)

module _ {S : Type 0} (kind : EventSourceOf S) where
  pub admitted : (ts ts' : List Token) (w w' : World) (s s' : S) (t : Token) (d d' : Drawer) (xs : List Exchange) (r : Answer)
      → listed (hooked kind s) t ts ≡ (done tt, ts') → d ≡ own_source t → kind.registers s w d xs r s' w' d'
      → Takes kind (admits kind ts w s t) xs (record { answer = r; source = s'; lifecycle = ts'; world = w' })
  admitted ts ts' w w' s s' t d d' xs r e o h =
      let own : kind.registers s w (own_source t) xs r s' w' d' = rw (sym o) h in
      let run : Takes kind (admits_by kind s w t (done tt, ts')) xs (record { answer = r; source = s'; lifecycle = ts'; world = w' }) = (came xs r s' w' d', own, [], sym (append-nil xs), (refl, refl)) in
      rw e run

  -- a new registration that was made
  pub renewed : (ts : List Token) (w w' : World) (s s' : S) (t : Token) (d d' : Drawer) (xs : List Exchange) (r : Answer) (a : Acted S)
      → (hooked kind s && nat_le 128 (length ts)) ≡ false → d ≡ own_source t → kind.reregisters s w d xs r s' w' d'
      → record { answer = r; source = s'; lifecycle = after r ts (listed (hooked kind s) t ts).1; world = w' } ≡ a → Takes kind (renews kind ts w s t) xs a
  renewed ts w w' s s' t d d' xs r a room o h is =
      let own : kind.reregisters s w (own_source t) xs r s' w' d' = rw (sym o) h in
      rw room (came xs r s' w' d', own, [], sym (append-nil xs), (refl, sym is))

  pub withdrawn : (ts : List Token) (w w' : World) (s s' : S) (t : Token) (xs : List Exchange) (r : Answer) (a : Acted S) → kind.unregisters s w xs r s' w'
      → record { answer = r; source = s'; lifecycle = after r ts (left t ts); world = w' } ≡ a → Takes kind (withdraws kind ts w s t) xs a
  withdrawn ts w w' s s' t xs r a h is = (went xs r s' w', h, [], sym (append-nil xs), (refl, sym is))

  -- a source that was unregistered, or let go where that was refused
  pub released : (ts : List Token) (w w' : World) (s s' : S) (t : Token) (xs : List Exchange) (r : Answer) (o : Released) → kind.unregisters s w xs r s' w' → r ≡ done tt
      → kind.ends s' → record { lifecycle = left t ts; world = w' } ≡ o → Takes kind (releases kind ts w s t) xs o
  released ts w w' s s' t xs r o h is over q =
      let run : Takes kind (released_by kind (left t ts) r s' w') [] o = rw is (over, (refl, sym q)) in
      (went xs r s' w', h, [], sym (append-nil xs), run)

  pub let_go : (ts : List Token) (w w' w'' : World) (s s' s'' : S) (t : Token) (xs ys : List Exchange) (r : Answer) (o : Released) → kind.unregisters s w xs r s' w' → (r ≡ done tt → ⊥)
      → kind.leaves s' w' ys s'' w'' → kind.ends s'' → record { lifecycle = left t ts; world = w'' } ≡ o → Takes kind (releases kind ts w s t) (xs ++ ys) o
  let_go ts w w' w'' s s' s'' t xs ys (done u) o h not k over q = absurd (not refl)
  let_go ts w w' w'' s s' s'' t xs ys (refused n c) o h not k over q =
      (went xs (refused n c) s' w', h, ys, refl, (went ys (done tt) s'' w'', k, [], sym (append-nil ys), (over, (refl, sym q))))

  pub inserts : (l : Loop S) (s : S) (slots : List (Slot S)) (t : Token) (xs : List Exchange) (a : Acted S) (o : Inserted S × Loop S) → vacant_of l.slots ≡ (Some t, slots)
      → Takes kind (admits kind l.lifecycle l.world s t) xs a → inserted l slots t a ≡ o → Takes kind (insert_of kind l s) xs o
  inserts l s slots t xs a o is h q = rw is (takes_made kind (inserted l slots t) (admits kind l.lifecycle l.world s t) xs a o h q)

  -- THE CALLS ON A SOURCE THAT STANDS IN ITS SLOT
  module _ (l : Loop S) (t : Token) (s : S) (there : standing_at l.slots (fitting l.slots t) ≡ Occupied s) (xs : List Exchange) where
    pub enables : (a : Acted S) (o : Answer × Loop S) → (slot_at l.slots t.id).enabled ≡ false → Takes kind (admits kind l.lifecycle l.world s t) xs a → acted l t.id true a ≡ o
        → Takes kind (enable_of kind l t) xs o
    enables a o off h q = rw there (rw off (takes_made kind (acted l t.id true) (admits kind l.lifecycle l.world s t) xs a o h q))

    pub updates : (a : Acted S) (o : Answer × Loop S) → Takes kind (renews kind l.lifecycle l.world s t) xs a → acted l t.id true a ≡ o → Takes kind (update_of kind l t) xs o
    updates a o h q = rw there (takes_made kind (acted l t.id true) (renews kind l.lifecycle l.world s t) xs a o h q)

    pub disables : (a : Acted S) (o : Answer × Loop S) → Takes kind (withdraws kind l.lifecycle l.world s t) xs a → acted l t.id false a ≡ o → Takes kind (disable_of kind l t) xs o
    disables a o h q = rw there (takes_made kind (acted l t.id false) (withdraws kind l.lifecycle l.world s t) xs a o h q)

    pub removes : (r : Released) (o : Loop S) → Takes kind (releases kind l.lifecycle l.world s t) xs r → ◌≡◌ {A = Loop S} (record (emptied l t) { lifecycle = r.lifecycle; world = r.world }) o
        → Takes kind (remove_of kind l t) xs (true, o)
    removes r o h q =
        rw there (takes_made kind (λ (u : Released). (true, record (emptied l t) { lifecycle = u.lifecycle; world = u.world })) (releases kind l.lifecycle l.world s t) xs r (true, o) h (ap (λ (m : Loop S). (true, m)) q))
