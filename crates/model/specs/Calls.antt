-- The calls, each as what it asks of a source and what it comes to.
use Rattle.std.specs.Prelude.{ℕ, Bool, true, false, if◌then◌else◌, ◌&&◌, List, length, Some, None, Option, nat_le}
use Rattle.token.specs.declared.token.Token.{Token}
use Rattle.token.specs.Key.{own_source}
use Rattle.token.specs.Refusal.{Outcome, done, refused, refusal}
use Rattle.list.specs.Entries.{enter_of, left}
use Rattle.list.specs.Idles.{idle_of}
use Rattle.list.specs.Slots.{fitting, placed, slot_at, standing, vacant_of}
use Rattle.list.specs.declared.slots.Place.{Place}
use Rattle.post_action.specs.declared.PostAction.{PostAction}
use Rattle.post_action.specs.declared.PostAction.TheVariants.{Reregister, Disable}
use Rattle.list.specs.declared.slots.Slot.{Slot}
use Rattle.list.specs.declared.slots.Place.TheVariants.{Empty, Occupied, Handled}
use Rattle.poller.specs.Meaning.{Answer}
use Rattle.sys.specs.World.{World}
use Rattle.kinds.specs.declared.source.EventSource.{Ghosts as EventSourceOf}
use Rattle.model.specs.State.{Loop}
use Rattle.model.specs.Course.{Course, ends, finishes, registers, reregisters, unregisters, leaves, and_then}

-- A SOURCE AND ITS LIFECYCLE ENTRIES

-- what an act on a source leaves
pub record Acted (S : Type 0) : Type 0 where
  pub answer : Answer
  pub source : S
  pub lifecycle : List Token
  pub world : World

-- a lifecycle entry, for a source that wants hooks
abbrev pub listed : Bool → Token → List Token → Answer × List Token
listed hooks t ts = if hooks then enter_of t ts else (done tt, ts)

-- the entries once this was accepted, or refused
abbrev pub after : Answer → List Token → List Token → List Token
after (done u) ts ts' = ts'
after (refused n c) ts ts' = ts

module _ {S : Type 0} (kind : EventSourceOf S) where
  abbrev pub hooked : S → Bool
  hooked s = (kind.means s).hooks

  abbrev pub admits_by : S → World → Token → Answer × List Token → Course S (Acted S)
  admits_by s w t (done u, ts) = registers s w (own_source t) (λ c. ends (record { answer = c.answer; source = c.source; lifecycle = ts; world = c.world }))
  admits_by s w t (refused n c, ts) = ends (record { answer = refused n c; source = s; lifecycle = ts; world = w })

  -- the lifecycle entry, and then the registration
  abbrev pub admits : List Token → World → S → Token → Course S (Acted S)
  admits ts w s t = admits_by s w t (listed (hooked s) t ts)

  -- a new registration, and then one lifecycle entry more, for which there must be room
  abbrev pub renews : List Token → World → S → Token → Course S (Acted S)
  renews ts w s t =
      if hooked s && nat_le 128 (length ts) then ends (record { answer = refusal 18; source = s; lifecycle = ts; world = w })
      else reregisters s w (own_source t) (λ c. ends (record { answer = c.answer; source = c.source; lifecycle = after c.answer ts (listed (hooked s) t ts).1; world = c.world }))

  -- an unregister; accepted, the lifecycle entries go
  abbrev pub withdraws : List Token → World → S → Token → Course S (Acted S)
  withdraws ts w s t = unregisters s w (λ c. ends (record { answer = c.answer; source = c.source; lifecycle = after c.answer ts (left t ts); world = c.world }))

-- the source was enabled or disabled by an act that was accepted
abbrev pub settled : Answer → Bool → Bool → Bool
settled (done u) before now = now
settled (refused n c) before now = before

-- an act on the source of slot i came to this; accepted, the source is enabled now, or not
abbrev pub acted : {S : Type 0} → Loop S → ℕ → Bool → Acted S → Answer × Loop S
acted l i b a = (a.answer, record l { slots = standing l.slots i a.source (settled a.answer (slot_at l.slots i).enabled b); lifecycle = a.lifecycle; world = a.world })

-- INSERT

-- the answer of an insert: a token, or a refusal with the source handed back
pub data Inserted (S : Type 0) : Type 0 where
  into : Token → Inserted S
  back : Answer → S → Inserted S

-- accepted, the source stands in its slot; refused, it is handed back, and its lifecycle entries go
abbrev pub inserted_by : {S : Type 0} → Loop S → List (Slot S) → Token → Acted S → Answer → Inserted S × Loop S
inserted_by l xs t e (done u) = (into t, record l { slots = standing xs t.id e.source true; lifecycle = e.lifecycle; world = e.world })
inserted_by l xs t e (refused n c) = (back (refused n c) e.source, record l { slots = xs; lifecycle = left t e.lifecycle; world = e.world })

abbrev pub inserted : {S : Type 0} → Loop S → List (Slot S) → Token → Acted S → Inserted S × Loop S
inserted l xs t e = inserted_by l xs t e e.answer

module _ {S : Type 0} (kind : EventSourceOf S) where
  abbrev pub insert_at : Loop S → S → Option Token × List (Slot S) → Course S (Inserted S × Loop S)
  insert_at l s (None, xs) = ends (back (refusal 4) s, l)
  insert_at l s (Some t, xs) = and_then (admits kind l.lifecycle l.world s t) (λ e. ends (inserted l xs t e))

  abbrev pub insert_of : Loop S → S → Course S (Inserted S × Loop S)
  insert_of l s = insert_at l s (vacant_of l.slots)

-- ENABLE, UPDATE AND DISABLE, by what stands in the slot that the token fits

abbrev pub standing_at : {S : Type 0} → List (Slot S) → Option ℕ → Place S
standing_at xs None = Empty
standing_at xs (Some i) = (slot_at xs i).place

abbrev pub with_pending : {S : Type 0} → Loop S → PostAction → Loop S
with_pending l p = record l { pending = p }

module _ {S : Type 0} (kind : EventSourceOf S) where
  abbrev pub enable_by : Loop S → Token → Bool → Place S → Course S (Answer × Loop S)
  enable_by l t enabled Empty = ends (refusal 1, l)
  enable_by l t enabled Handled = ends (refusal 2, l)
  enable_by l t true (Occupied s) = ends (refusal 3, l)
  enable_by l t false (Occupied s) = and_then (admits kind l.lifecycle l.world s t) (λ a. ends (acted l t.id true a))

  abbrev pub enable_of : Loop S → Token → Course S (Answer × Loop S)
  enable_of l t = enable_by l t (slot_at l.slots t.id).enabled (standing_at l.slots (fitting l.slots t))

  abbrev pub update_by : Loop S → Token → Place S → Course S (Answer × Loop S)
  update_by l t Empty = ends (refusal 1, l)
  update_by l t Handled = ends (done tt, with_pending l Reregister)
  update_by l t (Occupied s) = and_then (renews kind l.lifecycle l.world s t) (λ a. ends (acted l t.id true a))

  abbrev pub update_of : Loop S → Token → Course S (Answer × Loop S)
  update_of l t = update_by l t (standing_at l.slots (fitting l.slots t))

  abbrev pub disable_by : Loop S → Token → Place S → Course S (Answer × Loop S)
  disable_by l t Empty = ends (refusal 1, l)
  disable_by l t Handled = ends (done tt, with_pending l Disable)
  disable_by l t (Occupied s) = and_then (withdraws kind l.lifecycle l.world s t) (λ a. ends (acted l t.id false a))

  abbrev pub disable_of : Loop S → Token → Course S (Answer × Loop S)
  disable_of l t = disable_by l t (standing_at l.slots (fitting l.slots t))

-- REMOVE

abbrev pub emptied : {S : Type 0} → Loop S → Token → Loop S
emptied l t = record l { slots = placed l.slots t.id Empty }

-- the lifecycle entries and the world once a source has left
pub record Released : Type 0 where
  pub lifecycle : List Token
  pub world : World

module _ {S : Type 0} (kind : EventSourceOf S) where
  -- where unregister was refused the source is let go; it ends
  abbrev pub released_by : List Token → Answer → S → World → Course S Released
  released_by ts (done u) s w = finishes s (ends (record { lifecycle = ts; world = w }))
  released_by ts (refused n c) s w = leaves s w (λ g. finishes g.source (ends (record { lifecycle = ts; world = g.world })))

  -- the source is unregistered, and its lifecycle entries go
  abbrev pub releases : List Token → World → S → Token → Course S Released
  releases ts w s t = unregisters s w (λ c. released_by (left t ts) c.answer c.source c.world)

  -- whether a source left; one that is being handled leaves after its event
  abbrev pub remove_by : Loop S → Token → Place S → Course S (Bool × Loop S)
  remove_by l t Empty = ends (false, l)
  remove_by l t Handled = ends (true, emptied l t)
  remove_by l t (Occupied s) = and_then (releases l.lifecycle l.world s t) (λ r. ends (true, record (emptied l t) { lifecycle = r.lifecycle; world = r.world }))

  abbrev pub remove_of : Loop S → Token → Course S (Bool × Loop S)
  remove_of l t = remove_by l t (standing_at l.slots (fitting l.slots t))

-- IDLE, which asks nothing of a source

abbrev pub idling_of : {S : Type 0} → Loop S → ℕ → Course S (Outcome ℕ × Loop S)
idling_of l v = ends ((idle_of v l.idles).0, record l { idles = (idle_of v l.idles).1 })
