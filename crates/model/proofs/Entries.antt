-- Lifecycle entries: an enabled source that wants hooks has one, and one that is not enabled only by an enable that was refused.
use Rattle.std.proofs.Common.{◌≡◌, ℕ, Bool, true, false, ◌&&◌, nat_le, List, [], ◌∷◌, ◌++◌, ◌<◌, length, Some, Option, ◌≢◌, ◌⊎◌, inl, inr, refl, ap, sym, ◌∙◌, subst, arith}
use Rattle.std.proofs.lemmas.Grind.{common_steps}
use Rattle.token.specs.declared.token.Token.{Token}
use Rattle.token.specs.Key.{same_source}
use Rattle.token.specs.Refusal.{done, refused}
use Rattle.poller.specs.Meaning.{Answer}
use Rattle.list.specs.Entries.{apart, left}
use Rattle.list.specs.Slots.{fitting, occupied, placed, slot_at}
use Rattle.list.specs.declared.slots.Place.{Place}
use Rattle.list.specs.declared.slots.Place.TheVariants.{Empty}
use Rattle.list.specs.declared.slots.Slot.{Slot}
use Rattle.sys.specs.Laws.{In}
use Rattle.sys.proofs.Entries.{in_append, in_back, in_filter, in_front, passes}
use Rattle.kinds.specs.declared.source.EventSource.{Ghosts as EventSourceOf}
use Rattle.model.specs.Calls.{after, listed, settled}
use Rattle.model.specs.Order.{Enabled, HasEntry, Hooked, Joins, OnlyRefused, refused_by}
use Rattle.model.specs.Register.{Owner, Owners, holders, in_hand}
use Rattle.model.proofs.Slots.{placed_here, placed_other, same_or_not}

pub mine_or_not : (t u : Token) → (same_source u t ≡ true) ⊎ (apart t u ≡ true)
mine_or_not t u = grind (arith, common_steps)

-- entries of the source of `t` alone are others than before; `b` says whether it is enabled now, and `hooks` whether it wants them
pub record Entered (v : List Token) (b hooks : Bool) (t : Token) (ts ts' : List Token) : Type 0 where
  pub joins : Joins t ts ts'
  pub kept : (u : Token) → In u ts → apart t u ≡ true → In u ts'
  pub mine : b ≡ true → hooks ≡ true → HasEntry t ts'
  pub own : b ≡ false → (u : Token) → In u ts' → same_source u t ≡ true → HasEntry u v

pub listed_joins : (b : Bool) (t : Token) (ts : List Token) → Joins t ts (listed b t ts).1
listed_joins b t ts u m = grind (arith, common_steps, in_append u ts (t ∷ []))

pub after_joins : (r : Answer) (t : Token) (ts ts' : List Token) → Joins t ts ts' → Joins t ts (after r ts ts')
after_joins (done u) t ts ts' j = j
after_joins (refused n c) t ts ts' j = λ u m. inl m

pub left_joins : (t : Token) (ts : List Token) → Joins t ts (left t ts)
left_joins t ts u m = inl (in_filter (apart t) ts u m).0

-- another source's entry is kept
pub still_has : (t p : Token) (ts ts' : List Token) → ((u : Token) → In u ts → apart t u ≡ true → In u ts') → same_source p t ≡ false → HasEntry p ts → HasEntry p ts'
still_has t p ts ts' kept not e = (e.0, kept e.0 e.1 (grind (arith, common_steps, e.2)), e.2)

pub has_more : (p : Token) (v w : List Token) → HasEntry p v → HasEntry p (v ++ w)
has_more p v w e = (e.0, in_front e.0 v w e.1, e.2)

module _ {S : Type 0} (xs ys : List (Slot S)) (t : Token) where
  -- the slot of the token says whether its source is enabled, and all else fits and is enabled as before
  pub record Marks (b : Bool) : Type 0 where
    pub here : fitting ys t ≡ Some t.id → (slot_at ys t.id).enabled ≡ b
    pub fits : (u : Token) → fitting ys u ≡ Some u.id → (same_source u t ≡ false) → (fitting xs u ≡ Some u.id) × ((slot_at xs u.id).enabled ≡ (slot_at ys u.id).enabled)

  module _ (b : Bool) (m : Marks b) (v v' ts ts' : List Token) (more : (p : Token) → HasEntry p v → HasEntry p v') (hooks : Bool) (e : Entered v' b hooks t ts ts') where
    -- `who` and `who'` have the same sources but for that of the token, which wants hooks or not
    pub entered_hooked : (who who' : Owners) → ((i : ℕ) (o : Owner) → who' i ≡ Some o → ((same_source o.token t ≡ true) × (o.means.hooks ≡ hooks)) ⊎ ((same_source o.token t ≡ false) × (who i ≡ Some o))) → Hooked who xs ts → Hooked who' ys ts'
    entered_hooked who who' same was i o is wants on = elim (same i o is) [
      | inl a ↦
          let has = e.mine (grind (arith, common_steps, m.here, on.fits, on.says, a.0)) (sym a.1 ∙ wants) in
          (has.0, has.1, grind (arith, common_steps, has.2, a.0))
      | inr a ↦
          let f = m.fits o.token on.fits a.0 in
          still_has t o.token ts ts' e.kept a.0 (was i o a.1 wants (record { fits = f.0; says = f.1 ∙ on.says }))
    ]

    pub entered_refused : OnlyRefused v xs ts → OnlyRefused v' ys ts'
    entered_refused was u in_ts fits off = elim (mine_or_not t u) [
      | inl a ↦ e.own (grind (arith, common_steps, m.here, fits, off, a)) u in_ts a
      | inr a ↦ elim (e.joins u in_ts) [
        | inl old ↦
            let f = m.fits u fits (grind (arith, common_steps)) in
            more u (was u old f.0 (f.1 ∙ off))
        | inr same ↦ absurd (grind (arith, common_steps))
      ]
    ]

-- WHAT EACH ACT LEAVES OF THE ENTRIES
module _ (v : List Token) (hooks : Bool) (t : Token) (ts : List Token) where
  -- all go
  pub entered_left : Entered v false hooks t ts (left t ts)
  entered_left = record {
    joins = left_joins t ts;
    kept = λ u m a. passes (apart t) ts u m a;
    mine = λ e. absurd (grind (arith, common_steps));
    own = λ e u m same. absurd (grind (arith, common_steps, in_filter (apart t) ts u m));
  }

  -- none is touched
  pub entered_same : (b : Bool) → (b ≡ true → hooks ≡ true → HasEntry t ts) → (b ≡ false → (u : Token) → In u ts → same_source u t ≡ true → HasEntry u v) → Entered v b hooks t ts ts
  entered_same b mine own = record { joins = λ u m. inl m; kept = λ u m a. m; mine = mine; own = own }

  -- where there is room, the entry is made
  pub had_room : (hooks && nat_le 128 (length ts)) ≡ false → listed hooks t ts ≡ (done tt, (listed hooks t ts).1)
  had_room room = grind (arith, common_steps)

  -- a registration, before which an entry was made for one that wants hooks
  module _ (ts' : List Token) (room : listed hooks t ts ≡ (done tt, ts')) where
    listed_kept : (u : Token) → In u ts → In u ts'
    listed_kept u m = grind (arith, common_steps, in_front u ts (t ∷ []))

    room_joins : Joins t ts ts'
    room_joins = subst (Joins t ts) (ap (λ (x : Answer × List Token). x.1) room) (listed_joins hooks t ts)

    listed_mine : hooks ≡ true → HasEntry t ts'
    listed_mine h = (t, grind (arith, common_steps, in_back t ts (t ∷ [])), grind (arith, common_steps))

    pub entered_accepted : Entered v true hooks t ts ts'
    entered_accepted = record { joins = room_joins; kept = λ u m a. listed_kept u m; mine = λ e. listed_mine; own = λ e. absurd (grind (arith, common_steps)) }

    -- refused, the entry stays, and its token is noted
    pub entered_registered : (r : Answer) → Entered (v ++ refused_by r t) (settled r false true) hooks t ts ts'
    entered_registered (done u) = record { joins = room_joins; kept = λ u m a. listed_kept u m; mine = λ e. listed_mine; own = λ e. absurd (grind (arith, common_steps)) }
    entered_registered (refused n c) = record {
      joins = room_joins;
      kept = λ u m a. listed_kept u m;
      mine = λ e. absurd (grind (arith, common_steps));
      own = λ e u m same. (t, in_back t v (t ∷ []) (inl refl), grind (arith, common_steps));
    }

    -- a refused insert's go
    pub entered_back : Entered v false hooks t ts (left t ts')
    entered_back = record {
      joins = λ u m. room_joins u (in_filter (apart t) ts' u m).0;
      kept = λ u m a. passes (apart t) ts' u (listed_kept u m) a;
      mine = λ e. absurd (grind (arith, common_steps));
      own = λ e u m same. absurd (grind (arith, common_steps, in_filter (apart t) ts' u m));
    }

  -- a new registration, and an unregister, of one that was enabled or not
  module _ (b : Bool) (mine : b ≡ true → hooks ≡ true → HasEntry t ts) (own : b ≡ false → (u : Token) → In u ts → same_source u t ≡ true → HasEntry u v) where
    pub entered_renewed : (r : Answer) (room : (hooks && nat_le 128 (length ts)) ≡ false) → Entered v (settled r b true) hooks t ts (after r ts (listed hooks t ts).1)
    entered_renewed (done u) room = entered_accepted (listed hooks t ts).1 (had_room room)
    entered_renewed (refused n c) room = entered_same b mine own

    pub entered_withdrawn : (r : Answer) → Entered v (settled r b false) hooks t ts (after r ts (left t ts))
    entered_withdrawn (done u) = entered_left
    entered_withdrawn (refused n c) = entered_same b mine own

-- SOURCES AND THEIR TOKENS
module _ {S : Type 0} (kind : EventSourceOf S) (xs : List (Slot S)) (hand : Option Owner) (t : Token) (away : (o : Owner) → hand ≡ Some o → same_source o.token t ≡ false) where
  -- a source that does not stand in the token's slot is another
  pub another : (j : ℕ) (p : Owner) → (j ≢ t.id) → holders kind xs hand j ≡ Some p → same_source p.token t ≡ false
  another j p ne is = elim (same_or_not j in_hand) [ inl e ↦ away p (grind (arith, common_steps)) | inr e ↦ grind (arith, common_steps) ]

-- NO ENTRY IS TOUCHED, and what fits now fitted before and was enabled as it is
pub record Fewer {S : Type 0} (xs ys : List (Slot S)) : Type 0 where
  pub fits : (u : Token) → fitting ys u ≡ Some u.id → (fitting xs u ≡ Some u.id) × ((slot_at xs u.id).enabled ≡ (slot_at ys u.id).enabled)

-- the source stood before, with the same token and wishes
pub record Stood (who : Owners) (o : Owner) : Type 0 where
  pub where_it_stood : ℕ
  pub before : Owner
  pub there : who where_it_stood ≡ Some before
  pub token : before.token ≡ o.token
  pub hooks : before.means.hooks ≡ o.means.hooks

module _ {S : Type 0} (xs ys : List (Slot S)) (f : Fewer xs ys) (ts : List Token) where
  pub fewer_hooked : (who who' : Owners) → ((i : ℕ) (o : Owner) → who' i ≡ Some o → Stood who o) → Hooked who xs ts → Hooked who' ys ts
  fewer_hooked who who' stood was i o is wants on =
      let b = stood i o is in
      let e = f.fits o.token on.fits in
      let has = was b.where_it_stood b.before b.there (b.hooks ∙ wants) (subst (Enabled xs) (sym b.token) (record { fits = e.0; says = e.1 ∙ on.says })) in
      subst (λ u. HasEntry u ts) b.token has

  pub fewer_refused : (v : List Token) → OnlyRefused v xs ts → OnlyRefused v ys ts
  fewer_refused v was u m fits off = let e = f.fits u fits in was u m e.0 (e.1 ∙ off)

pub stood_same : (who : Owners) (i : ℕ) (o : Owner) → who i ≡ Some o → Stood who o
stood_same who i o is = record { where_it_stood = i; before = o; there = is; token = refl; hooks = refl }

pub fewer_same : {S : Type 0} (xs : List (Slot S)) → Fewer xs xs
fewer_same xs = record { fits = λ u f. (f, refl) }

-- another thing stands in slot i, which was occupied
pub fewer_placed : {S : Type 0} (xs : List (Slot S)) (i : ℕ) (p : Place S) → i < length xs → occupied (slot_at xs i).place ≡ true → Fewer xs (placed xs i p)
fewer_placed xs i p within there = record {
  fits = λ u f. elim (same_or_not u.id i) [
    | inl e ↦ grind (arith, common_steps, placed_here xs i p within)
    | inr ne ↦ grind (arith, common_steps, placed_other xs i u.id p ne)
  ];
}

-- slot i is empty now
pub fewer_emptied : {S : Type 0} (xs : List (Slot S)) (i : ℕ) → i < length xs → Fewer xs (placed xs i Empty)
fewer_emptied xs i within = record {
  fits = λ u f. elim (same_or_not u.id i) [
    | inl e ↦ absurd (grind (arith, common_steps, placed_here xs i Empty within))
    | inr ne ↦ grind (arith, common_steps, placed_other xs i u.id Empty ne)
  ];
}
