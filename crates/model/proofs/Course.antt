-- One course after another.
use Rattle.std.proofs.Common.{◌≡◌, List, [], ◌∷◌, ◌++◌, refl, arith, sym, subst}
use Rattle.std.proofs.lemmas.Grind.{common_steps}
use Rattle.sys.specs.World.{Exchange, read}
use Rattle.kinds.specs.declared.source.EventSource.{Ghosts as EventSourceOf}
use Rattle.model.specs.Course.{Course, ends, registers, reregisters, unregisters, leaves, processes, sleeps, sees, finishes, reads, waits, and_then, Takes}
use Rattle.std.proofs.lemmas.List.{append-nil}

module _ {S A B : Type 0} (kind : EventSourceOf S) (f : A → Course S B) (ys : List Exchange) (o : B) where
  pub takes_then : (c : Course S A) (xs : List Exchange) (a : A) → Takes kind c xs a → Takes kind (f a) ys o → Takes kind (and_then c f) (xs ++ ys) o
  takes_then (ends u) xs a h k = subst (λ (zs : List Exchange). Takes kind (f u) (zs ++ ys) o) (sym h.0) (subst (λ (v : A). Takes kind (f v) ys o) h.1 k)
  takes_then (registers s w d g) xs a h k = (h.0, h.1, h.2 ++ ys, grind (arith, common_steps), takes_then (g h.0) h.2 a h.4 k)
  takes_then (reregisters s w d g) xs a h k = (h.0, h.1, h.2 ++ ys, grind (arith, common_steps), takes_then (g h.0) h.2 a h.4 k)
  takes_then (unregisters s w g) xs a h k = (h.0, h.1, h.2 ++ ys, grind (arith, common_steps), takes_then (g h.0) h.2 a h.4 k)
  takes_then (leaves s w g) xs a h k = (h.0, h.1, h.2 ++ ys, grind (arith, common_steps), takes_then (g h.0) h.2 a h.4 k)
  takes_then (processes s w x t g) xs a h k = (h.0, h.1, h.2 ++ ys, grind (arith, common_steps), takes_then (g h.0) h.2 a h.4 k)
  takes_then (sleeps s g) xs a h k = (h.0, h.1, takes_then (g h.0) xs a h.2 k)
  takes_then (sees s es g) xs a h k = (h.0, h.1, takes_then (g h.0) xs a h.2 k)
  takes_then (finishes s g) xs a h k = (h.0, takes_then g xs a h.1 k)
  takes_then (reads g) xs a h k = (h.0, h.1 ++ ys, grind (arith, common_steps), takes_then (g h.0) h.1 a h.3 k)
  takes_then (waits t n w g) xs a h k = (h.0, h.1, h.2 ++ ys, grind (arith, common_steps), takes_then (g h.0) h.2 a h.4 k)

-- a course, and then this made of its outcome
pub takes_made : {S A B : Type 0} (kind : EventSourceOf S) (f : A → B) (c : Course S A) (xs : List Exchange) (a : A) (o : B) → Takes kind c xs a → f a ≡ o
    → Takes kind (and_then c (λ u. ends (f u))) xs o
takes_made kind f c xs a o h q =
    let run = takes_then kind (λ u. ends (f u)) [] (f a) c xs a h (refl, refl) in
    subst (λ v. Takes kind (and_then c (λ u. ends (f u))) xs v) q (subst (λ zs. Takes kind (and_then c (λ u. ends (f u))) zs (f a)) (append-nil xs) run)

-- an outcome that was made of another
module _ {S A B : Type 0} (kind : EventSourceOf S) (f : A → B) (o : B) where
  pub taken_made : (c : Course S A) (xs : List Exchange) → Takes kind (and_then c (λ u. ends (f u))) xs o → (a : A) × Takes kind c xs a × (o ≡ f a)
  taken_made (ends a) xs h = (a, (h.0, refl), h.1)
  taken_made (registers s w d g) xs h = let r = taken_made (g h.0) h.2 h.4 in (r.0, (h.0, h.1, h.2, h.3, r.1), r.2)
  taken_made (reregisters s w d g) xs h = let r = taken_made (g h.0) h.2 h.4 in (r.0, (h.0, h.1, h.2, h.3, r.1), r.2)
  taken_made (unregisters s w g) xs h = let r = taken_made (g h.0) h.2 h.4 in (r.0, (h.0, h.1, h.2, h.3, r.1), r.2)
  taken_made (leaves s w g) xs h = let r = taken_made (g h.0) h.2 h.4 in (r.0, (h.0, h.1, h.2, h.3, r.1), r.2)
  taken_made (processes s w x t g) xs h = let r = taken_made (g h.0) h.2 h.4 in (r.0, (h.0, h.1, h.2, h.3, r.1), r.2)
  taken_made (sleeps s g) xs h = let r = taken_made (g h.0) xs h.2 in (r.0, (h.0, h.1, r.1), r.2)
  taken_made (sees s es g) xs h = let r = taken_made (g h.0) xs h.2 in (r.0, (h.0, h.1, r.1), r.2)
  taken_made (finishes s g) xs h = let r = taken_made g xs h.1 in (r.0, (h.0, r.1), r.2)
  taken_made (reads g) xs h = let r = taken_made (g h.0) h.1 h.3 in (r.0, (h.0, h.1, h.2, r.1), r.2)
  taken_made (waits t n w g) xs h = let r = taken_made (g h.0) h.2 h.4 in (r.0, (h.0, h.1, h.2, h.3, r.1), r.2)

-- the outcome of the first course, and the course that it gave
module _ {S A B : Type 0} (kind : EventSourceOf S) (f : A → Course S B) (o : B) where
  pub record Split (c : Course S A) (xs : List Exchange) : Type 0 where
    pub outcome : A
    pub first : List Exchange
    pub second : List Exchange
    pub asked : xs ≡ first ++ second
    pub came : Takes kind c first outcome
    pub rest : Takes kind (f outcome) second o

  behind : (c : Course S A) (ys xs zs : List Exchange) → xs ≡ ys ++ zs → (r : Split c zs) → xs ≡ (ys ++ r.first) ++ r.second
  behind c ys xs zs e r = grind (arith, common_steps, r.asked)

  pub taken_then : (c : Course S A) (xs : List Exchange) → Takes kind (and_then c f) xs o → Split c xs
  taken_then (ends a) xs h = record { outcome = a; first = []; second = xs; asked = refl; came = (refl, refl); rest = h }
  taken_then (registers s w d g) xs h =
      let r = taken_then (g h.0) h.2 h.4 in
      record { outcome = r.outcome; first = h.0.exchanges ++ r.first; second = r.second; asked = behind (g h.0) h.0.exchanges xs h.2 h.3 r; came = (h.0, h.1, r.first, refl, r.came); rest = r.rest }
  taken_then (reregisters s w d g) xs h =
      let r = taken_then (g h.0) h.2 h.4 in
      record { outcome = r.outcome; first = h.0.exchanges ++ r.first; second = r.second; asked = behind (g h.0) h.0.exchanges xs h.2 h.3 r; came = (h.0, h.1, r.first, refl, r.came); rest = r.rest }
  taken_then (unregisters s w g) xs h =
      let r = taken_then (g h.0) h.2 h.4 in
      record { outcome = r.outcome; first = h.0.exchanges ++ r.first; second = r.second; asked = behind (g h.0) h.0.exchanges xs h.2 h.3 r; came = (h.0, h.1, r.first, refl, r.came); rest = r.rest }
  taken_then (leaves s w g) xs h =
      let r = taken_then (g h.0) h.2 h.4 in
      record { outcome = r.outcome; first = h.0.exchanges ++ r.first; second = r.second; asked = behind (g h.0) h.0.exchanges xs h.2 h.3 r; came = (h.0, h.1, r.first, refl, r.came); rest = r.rest }
  taken_then (processes s w x t g) xs h =
      let r = taken_then (g h.0) h.2 h.4 in
      record { outcome = r.outcome; first = h.0.exchanges ++ r.first; second = r.second; asked = behind (g h.0) h.0.exchanges xs h.2 h.3 r; came = (h.0, h.1, r.first, refl, r.came); rest = r.rest }
  taken_then (sleeps s g) xs h = let r = taken_then (g h.0) xs h.2 in record { outcome = r.outcome; first = r.first; second = r.second; asked = r.asked; came = (h.0, h.1, r.came); rest = r.rest }
  taken_then (sees s es g) xs h = let r = taken_then (g h.0) xs h.2 in record { outcome = r.outcome; first = r.first; second = r.second; asked = r.asked; came = (h.0, h.1, r.came); rest = r.rest }
  taken_then (finishes s g) xs h = let r = taken_then g xs h.1 in record { outcome = r.outcome; first = r.first; second = r.second; asked = r.asked; came = (h.0, r.came); rest = r.rest }
  taken_then (reads g) xs h =
      let r = taken_then (g h.0) h.1 h.3 in
      record { outcome = r.outcome; first = read h.0 ∷ r.first; second = r.second; asked = behind (g h.0) (read h.0 ∷ []) xs h.1 h.2 r; came = (h.0, r.first, refl, r.came); rest = r.rest }
  taken_then (waits t n w g) xs h =
      let r = taken_then (g h.0) h.2 h.4 in
      record { outcome = r.outcome; first = h.0.exchanges ++ r.first; second = r.second; asked = behind (g h.0) h.0.exchanges xs h.2 h.3 r; came = (h.0, h.1, r.first, refl, r.came); rest = r.rest }
