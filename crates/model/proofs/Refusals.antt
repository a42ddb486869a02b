-- A call is refused by the loop's own numbers exactly where their reason holds, and else as its source answered.
use Rattle.std.specs.Prelude.{◌==◌, ◌||◌}
use Rattle.std.proofs.Common.{◌≡◌, ◌≢◌, ◌⊎◌, ℕ, Bool, true, false, List, ◌∷◌, Some, None, Option, inl, inr, refl, ap, sym, ◌∙◌, arith}
use Rattle.std.proofs.lemmas.Grind.{common_steps}
use Rattle.token.specs.declared.token.Token.{Token}
use Rattle.token.specs.Key.{own_source}
use Rattle.token.specs.Refusal.{done, refusal, refused}
use Rattle.poller.specs.Meaning.{Answer, among}
use Rattle.list.specs.Slots.{fitting, slot_at, vacant_of}
use Rattle.list.specs.declared.slots.Place.{Place}
use Rattle.list.specs.declared.slots.Place.TheVariants.{Empty, Handled, Occupied}
use Rattle.list.specs.declared.slots.Slot.{Slot}
use Rattle.sys.specs.World.{Exchange}
use Rattle.rules.specs.Refusals.{RefusedBy, by_registration, by_unregister}
use Rattle.kinds.specs.declared.source.EventSource.{Ghosts as EventSourceOf}
use Rattle.model.specs.Calls.{Acted, Inserted, acted, admits, disable_by, disable_of, enable_by, enable_of, insert_at, insert_of, inserted, inserted_by, renews, standing_at, update_by, update_of, withdraws}
use Rattle.model.specs.Course.{Takes}
use Rattle.model.specs.Refusals.{DisableRefusals, EnableRefusals, InsertRefusals, UpdateRefusals, answer_of, by_admission}
use Rattle.model.specs.State.{Loop}
use Rattle.model.proofs.Course.{taken_made}
use Rattle.model.proofs.Kept.{Lawful, Registered, Reregistered, Unasked, Unregistered, admitted, renewed, withdrawn}

-- a refusal by one of these numbers is by none other
not_by : (ns : List ℕ) (n : ℕ) (a : Answer) → among n ns ≡ false → RefusedBy ns a → a ≡ refusal n → ⊥
not_by ns n (done u) out by e = grind (arith, common_steps)
not_by ns n (refused m c) out by e = grind (arith, common_steps)

-- more numbers allow what fewer do
pub more : (n : ℕ) (ns : List ℕ) (a : Answer) → RefusedBy ns a → RefusedBy (n ∷ ns) a
more n ns (done u) by = tt
more n ns (refused m c) by = (grind (arith, common_steps, by.0), by.1)

-- a token that fits a slot finds something in it
module _ {S : Type 0} (xs : List (Slot S)) (t : Token) where
  fits_none : (f : Option ℕ) → fitting xs t ≡ f → standing_at xs f ≡ Empty → fitting xs t ≡ None
  fits_none None e is = e
  fits_none (Some i) e is = absurd (grind (arith, common_steps))

  fits_some : (f : Option ℕ) → fitting xs t ≡ f → standing_at xs f ≢ Empty → fitting xs t ≢ None
  fits_some None e not = absurd (not refl)
  fits_some (Some i) e not = λ n. grind (arith, common_steps)

module _ {S : Type 0} (kind : EventSourceOf S) (laws : Lawful kind) (l : Loop S) (xs : List Exchange) where
  -- WHAT AN ACT ON A SOURCE ANSWERS
  module _ (s : S) (t : Token) (a : Acted S) where
    by_admitting : Unasked kind l.lifecycle l.world s t xs a ⊎ Registered kind l.lifecycle l.world s t xs a → RefusedBy by_admission a.answer
    by_admitting (inl u) = rw u.refusal (refl, refl)
    by_admitting (inr u) = more 18 by_registration a.answer (laws.registering s l.world (own_source t) xs a.answer a.source a.world u.drawer u.asked).refusals

    pub by_renewal : Unasked kind l.lifecycle l.world s t xs a ⊎ Reregistered kind l.lifecycle l.world s t xs a → RefusedBy by_admission a.answer
    by_renewal (inl u) = rw u.refusal (refl, refl)
    by_renewal (inr u) = more 18 by_registration a.answer (laws.reregistering s l.world (own_source t) xs a.answer a.source a.world u.drawer u.asked).refusals

    pub by_withdrawal : Unregistered kind l.lifecycle l.world s t xs a → RefusedBy by_unregister a.answer
    by_withdrawal u = (laws.unregistering s l.world xs a.answer a.source a.world u.asked).refusals

  module _ (t : Token) where
    -- refused by the loop itself, or by what the source answered
    refused_at : (r : Answer × Loop S) (ns : List ℕ) (n : ℕ) → r.0 ≡ refusal n → among n ns ≡ true → (n == 10 || n == 14) ≡ false → RefusedBy ns r.0
    refused_at r ns n e m carries = rw e (m, sym carries)

    enable_by_place : (r : Answer × Loop S) (f : Option ℕ) (e : Bool) (p : Place S) → fitting l.slots t ≡ f → standing_at l.slots f ≡ p → (slot_at l.slots t.id).enabled ≡ e → Takes kind (enable_by kind l t e p) xs r → EnableRefusals l.slots t r.0
    enable_by_place r f e Empty q is on k =
        let a : r.0 ≡ refusal 1 = ap (λ (x : Answer × Loop S). x.0) k.1 in
        let none = fits_none l.slots t f q is in
        record {
          invalid = (λ x. none, λ x. a);
          busy = (λ x. absurd (grind (arith, common_steps)), λ x. absurd (grind (arith, common_steps)));
          already = (λ x. absurd (grind (arith, common_steps)), λ x. absurd (grind (arith, common_steps, x.0.1)));
          by = refused_at r (1 ∷ 2 ∷ 3 ∷ by_admission) 1 a refl refl;
        }
    enable_by_place r f e Handled q is on k =
        let a : r.0 ≡ refusal 2 = ap (λ (x : Answer × Loop S). x.0) k.1 in
        let some = fits_some l.slots t f q (λ n. grind (arith, common_steps)) in
        record {
          invalid = (λ x. absurd (grind (arith, common_steps)), λ x. absurd (some x));
          busy = (λ x. ap (standing_at l.slots) q ∙ is, λ x. a);
          already = (λ x. absurd (grind (arith, common_steps)), λ x. absurd (grind (arith, common_steps, x.0.1)));
          by = refused_at r (1 ∷ 2 ∷ 3 ∷ by_admission) 2 a refl refl;
        }
    enable_by_place r f true (Occupied s) q is on k =
        let a : r.0 ≡ refusal 3 = ap (λ (x : Answer × Loop S). x.0) k.1 in
        let some = fits_some l.slots t f q (λ n. grind (arith, common_steps)) in
        record {
          invalid = (λ x. absurd (grind (arith, common_steps)), λ x. absurd (some x));
          busy = (λ x. absurd (grind (arith, common_steps)), λ x. absurd (grind (arith, common_steps)));
          already = (λ x. ((s, ap (standing_at l.slots) q ∙ is), on), λ x. a);
          by = refused_at r (1 ∷ 2 ∷ 3 ∷ by_admission) 3 a refl refl;
        }
    enable_by_place r f false (Occupied s) q is off k =
        let m = taken_made kind (acted l t.id true) r (admits kind l.lifecycle l.world s t) xs k in
        let a : r.0 ≡ m.0.answer = ap (λ (x : Answer × Loop S). x.0) m.2 in
        let by = by_admitting s t m.0 (admitted kind l.lifecycle l.world s t xs m.0 m.1) in
        let some = fits_some l.slots t f q (λ n. grind (arith, common_steps)) in
        record {
          invalid = (λ x. absurd (not_by by_admission 1 m.0.answer refl by (sym a ∙ x)), λ x. absurd (some x));
          busy = (λ x. absurd (not_by by_admission 2 m.0.answer refl by (sym a ∙ x)), λ x. absurd (grind (arith, common_steps)));
          already = (λ x. absurd (not_by by_admission 3 m.0.answer refl by (sym a ∙ x)), λ x. absurd (grind (arith, common_steps, x.1)));
          by = rw a (more 1 (2 ∷ 3 ∷ by_admission) m.0.answer (more 2 (3 ∷ by_admission) m.0.answer (more 3 by_admission m.0.answer by)));
        }

    update_by_place : (r : Answer × Loop S) (f : Option ℕ) (p : Place S) → fitting l.slots t ≡ f → standing_at l.slots f ≡ p → Takes kind (update_by kind l t p) xs r → UpdateRefusals l.slots t r.0
    update_by_place r f Empty q is k =
        let a : r.0 ≡ refusal 1 = ap (λ (x : Answer × Loop S). x.0) k.1 in
        let none = fits_none l.slots t f q is in
        record { invalid = (λ x. none, λ x. a); by = refused_at r (1 ∷ by_admission) 1 a refl refl }
    update_by_place r f Handled q is k =
        let a : r.0 ≡ done tt = ap (λ (x : Answer × Loop S). x.0) k.1 in
        let some = fits_some l.slots t f q (λ n. grind (arith, common_steps)) in
        record { invalid = (λ x. absurd (grind (arith, common_steps)), λ x. absurd (some x)); by = rw a tt }
    update_by_place r f (Occupied s) q is k =
        let m = taken_made kind (acted l t.id true) r (renews kind l.lifecycle l.world s t) xs k in
        let a : r.0 ≡ m.0.answer = ap (λ (x : Answer × Loop S). x.0) m.2 in
        let by = by_renewal s t m.0 (renewed kind l.lifecycle l.world s t xs m.0 m.1) in
        let some = fits_some l.slots t f q (λ n. grind (arith, common_steps)) in
        record { invalid = (λ x. absurd (not_by by_admission 1 m.0.answer refl by (sym a ∙ x)), λ x. absurd (some x)); by = rw a (more 1 by_admission m.0.answer by) }

    disable_by_place : (r : Answer × Loop S) (f : Option ℕ) (p : Place S) → fitting l.slots t ≡ f → standing_at l.slots f ≡ p → Takes kind (disable_by kind l t p) xs r → DisableRefusals l.slots t r.0
    disable_by_place r f Empty q is k =
        let a : r.0 ≡ refusal 1 = ap (λ (x : Answer × Loop S). x.0) k.1 in
        let none = fits_none l.slots t f q is in
        record { invalid = (λ x. none, λ x. a); by = refused_at r (1 ∷ by_unregister) 1 a refl refl }
    disable_by_place r f Handled q is k =
        let a : r.0 ≡ done tt = ap (λ (x : Answer × Loop S). x.0) k.1 in
        let some = fits_some l.slots t f q (λ n. grind (arith, common_steps)) in
        record { invalid = (λ x. absurd (grind (arith, common_steps)), λ x. absurd (some x)); by = rw a tt }
    disable_by_place r f (Occupied s) q is k =
        let m = taken_made kind (acted l t.id false) r (withdraws kind l.lifecycle l.world s t) xs k in
        let a : r.0 ≡ m.0.answer = ap (λ (x : Answer × Loop S). x.0) m.2 in
        let by = by_withdrawal s t m.0 (withdrawn kind l.lifecycle l.world s t xs m.0 m.1) in
        let some = fits_some l.slots t f q (λ n. grind (arith, common_steps)) in
        record { invalid = (λ x. absurd (not_by by_unregister 1 m.0.answer refl by (sym a ∙ x)), λ x. absurd (some x)); by = rw a (more 1 by_unregister m.0.answer by) }

    pub enable_refused : (r : Answer × Loop S) → Takes kind (enable_of kind l t) xs r → EnableRefusals l.slots t r.0
    enable_refused r k = enable_by_place r (fitting l.slots t) (slot_at l.slots t.id).enabled (standing_at l.slots (fitting l.slots t)) refl refl refl k

    pub update_refused : (r : Answer × Loop S) → Takes kind (update_of kind l t) xs r → UpdateRefusals l.slots t r.0
    update_refused r k = update_by_place r (fitting l.slots t) (standing_at l.slots (fitting l.slots t)) refl refl k

    pub disable_refused : (r : Answer × Loop S) → Takes kind (disable_of kind l t) xs r → DisableRefusals l.slots t r.0
    disable_refused r k = disable_by_place r (fitting l.slots t) (standing_at l.slots (fitting l.slots t)) refl refl k

  -- AN INSERT
  module _ (s : S) where
    handed_back : (t : Token) (ys : List (Slot S)) (a : Acted S) (b : Answer) → a.answer ≡ b → answer_of (inserted_by l ys t a b).0 ≡ a.answer
    handed_back t ys a (done u) e = sym e
    handed_back t ys a (refused n c) e = sym e

    insert_by_slot : (x : Option Token × List (Slot S)) (r : Inserted S × Loop S) → vacant_of l.slots ≡ x → Takes kind (insert_at kind l s x) xs r → InsertRefusals l.slots r.0
    insert_by_slot (None, ys) r g k =
        let a : answer_of r.0 ≡ refusal 4 = ap (λ (x : Inserted S × Loop S). answer_of x.0) k.1 in
        record { full = (λ x. ap (λ (v : Option Token × List (Slot S)). v.0) g, λ x. a); by = rw a (refl, refl) }
    insert_by_slot (Some t, ys) r g k =
        let m = taken_made kind (inserted l ys t) r (admits kind l.lifecycle l.world s t) xs k in
        let a : answer_of r.0 ≡ m.0.answer = ap (λ (x : Inserted S × Loop S). answer_of x.0) m.2 ∙ handed_back t ys m.0 m.0.answer refl in
        let by = by_admitting s t m.0 (admitted kind l.lifecycle l.world s t xs m.0 m.1) in
        record { full = (λ x. absurd (not_by by_admission 4 m.0.answer refl by (sym a ∙ x)), λ x. absurd (grind (arith, common_steps))); by = rw a (more 4 by_admission m.0.answer by) }

    pub insert_refused : (r : Inserted S × Loop S) → Takes kind (insert_of kind l s) xs r → InsertRefusals l.slots r.0
    insert_refused r k = insert_by_slot (vacant_of l.slots) r refl k
