-- A source with one file keeps the rules of source kinds.
use Rattle.std.proofs.Common.{ℕ, Bool, List, [], Some, None, Option, sym, refl, subst, inl, arith, rules}
use Rattle.std.proofs.lemmas.Grind.{common_steps}
use Rattle.std.specs.Option.{option_map}
use Rattle.token.specs.Key.{key_of}
use Rattle.token.specs.Refusal.{Outcome, done, refused}
use Rattle.poller.specs.Meaning.{Answer, Fate}
use Rattle.sys.specs.World.{Exchange, World, register_of, reregister_of, unregister_of}
use Rattle.rules.specs.Calls.{Came, Went}
use Rattle.rules.specs.Kinds.{LettingGo, Reaches, Registering, Reregistering, Unregistering}
use Rattle.rules.specs.Meaning.{Drawer, Drawn, Meaning, Nothing}
use Rattle.rules.proofs.Drawing.{none_drawn, stays_put}
use Rattle.rules.proofs.Refusals.{handed_behind, none_handed, register_handed, register_refusals, reregister_handed, reregister_refusals, unregister_handed, unregister_refusals}
use Rattle.rules.proofs.Steps.{let_go_reaches, reaches_same, reaches_then, reaches_weaker, registered_reaches, reregistered_reaches, unregistered_reaches}
use Rattle.one_file.specs.declared.one_file.OneFile.{OneFile}
use Rattle.one_file.specs.declared.tickets.Tickets.{Ghosts as TicketsOf}
use Rattle.one_file.specs.Tickets.{DrawnFrom, Fresh}
use Rattle.one_file.specs.Calls.{Leaves, Registers, Reregisters, Unregisters, after, cleared, entered, keys_in, left, line_of, meaning, reregister_by, unregister_by, with_tickets}

module _ {T : Type 0} (tickets : TicketsOf T) (hooks : Bool) (s : OneFile T) where
  abbrev means : OneFile T → Meaning
  means b = meaning tickets b hooks

  abbrev key_at : Option T → Option ℕ
  key_at o = option_map (λ (t : T). key_of (tickets.main t)) o

  -- LETTING GO

  clear_reaches : (o : Option T) (w : World) (fate : Fate)
      → Reaches Nothing (means (with_tickets s o)) w (cleared s o w fate).exchanges (means (with_tickets s None)) (cleared s o w fate).world
  clear_reaches None w fate = reaches_same Nothing _ _ w (search rules)
  clear_reaches (Some t) w fate = let_go_reaches (tickets.keys t) [] hooks s.file (key_of (tickets.main t)) w fate

  leaving : (o : Option T) (w : World) (fate : Fate)
      → LettingGo (means (with_tickets s o)) w (cleared s o w fate).exchanges (means (cleared s o w fate).source) (cleared s o w fate).world
  leaving None w fate = record { reaches = clear_reaches None w fate; drew = λ k m. elim m [ ]; free = record { held = refl; entered = refl; counters = refl } }
  leaving (Some t) w fate = record { reaches = clear_reaches (Some t) w fate; drew = λ k m. elim m [ ]; free = record { held = refl; entered = refl; counters = refl } }

  pub leaves_lawful : (w : World) (xs : List Exchange) (s' : OneFile T) (w' : World) → Leaves s w xs s' w' → LettingGo (means s) w xs (means s') w'
  leaves_lawful w xs s' w' h = subst (λ (x : Went (Unit {0}) (OneFile T)). LettingGo (means s) w x.exchanges (means x.source) x.world) (sym h.1) (leaving s.tickets w h.0)

  -- REGISTERING

  module _ (law : (d : Drawer) → DrawnFrom tickets.main tickets.keys d (tickets.draws d).0 (tickets.draws d).1) (w : World) (d : Drawer) where
    abbrev D : ℕ → Type 0
    D = Drawn d (tickets.draws d).1

    module _ (first second : Fate) where
      abbrev bare : OneFile T
      bare = with_tickets s None

      abbrev mid : World
      mid = (cleared s s.tickets w first).world

      abbrev before : List Exchange
      before = (cleared s s.tickets w first).exchanges

      registering : (o : Outcome T) → Fresh tickets.main tickets.keys D o
          → (λ (c : Came (OneFile T)). Registering (means s) w d c.exchanges c.answer (means c.source) c.world c.drawer)
          (entered tickets (λ l v. register_of l s.mode v second) bare o mid (tickets.draws d).1 before)
      registering (refused n c) f = record {
        reaches = reaches_weaker Nothing D _ _ w mid before (none_drawn D) (clear_reaches s.tickets w first);
        draws = (law d).forward;
        drew = λ k m. elim m [ ];
        refusing = λ n c e. record { held = refl; entered = refl; counters = refl };
        refusals = grind (arith, common_steps, f);
        handed = none_handed before n c (grind (arith, common_steps, f));
      }
      registering (done t) f =
          let c = register_of (line_of bare (tickets.main t)) s.mode mid second in
          record {
            reaches = reaches_then D _ (means bare) _ w mid _ before _ (clear_reaches s.tickets w first)
                (registered_reaches (λ r. key_at (after r t None)) [] (keys_in tickets.keys (after c.answer t None)) hooks D (line_of bare (tickets.main t)) s.mode mid second f.file refl (λ n c. refl));
            draws = (law d).forward;
            drew = λ k m. grind (arith, common_steps, f.all k);
            refusing = λ n b e. grind (arith, common_steps);
            refusals = register_refusals (line_of bare (tickets.main t)) s.mode mid second;
            handed = handed_behind before c.exchanges c.answer (register_handed (line_of bare (tickets.main t)) s.mode mid second);
          }

    pub registers_lawful : (xs : List Exchange) (r : Answer) (s' : OneFile T) (w' : World) (d' : Drawer) → Registers tickets s w d xs r s' w' d'
        → Registering (means s) w d xs r (means s') w' d'
    registers_lawful xs r s' w' d' h =
        subst (λ (x : Came (OneFile T)). Registering (means s) w d x.exchanges x.answer (means x.source) x.world x.drawer) (sym h.2) (registering h.0 h.1 (tickets.draws d).0 (law d).fresh)

    module _ (fate : Fate) where
      altering : (old : T) (o : Outcome T) → Fresh tickets.main tickets.keys D o
          → (λ (c : Came (OneFile T)). Reregistering (means (with_tickets s (Some old))) w d c.exchanges c.answer (means c.source) c.world c.drawer)
          (entered tickets (λ l v. reregister_of l s.mode v fate) (with_tickets s (Some old)) o w (tickets.draws d).1 [])
      altering old (refused n c) f = record {
        reaches = reaches_same D _ _ w (search rules);
        draws = (law d).forward;
        drew = λ k m. inl m;
        accepting = λ e. cc;
        refusals = grind (arith, common_steps, f);
        handed = none_handed [] n c (grind (arith, common_steps, f));
      }
      altering old (done t) f =
          let c = reregister_of (line_of s (tickets.main t)) s.mode w fate in
          record {
            reaches = reregistered_reaches (λ r. key_at (after r t (Some old))) (tickets.keys old) (keys_in tickets.keys (after c.answer t (Some old))) hooks D (line_of s (tickets.main t)) s.mode w fate f.file refl (key_of (tickets.main old)) (λ n c. refl);
            draws = (law d).forward;
            drew = λ k m. grind (arith, common_steps, f.all k);
            accepting = λ e k m. grind (arith, common_steps, f.all k);
            refusals = reregister_refusals (line_of s (tickets.main t)) s.mode w fate;
            handed = reregister_handed (line_of s (tickets.main t)) s.mode w fate;
          }

      reregistering : (o : Option T) → (λ (c : Came (OneFile T)). Reregistering (means (with_tickets s o)) w d c.exchanges c.answer (means c.source) c.world c.drawer)
          (reregister_by tickets (with_tickets s o) o w d fate)
      reregistering None = record {
        reaches = reaches_same _ _ _ w (search rules);
        draws = stays_put d;
        drew = λ k m. inl m;
        accepting = λ e. cc;
        refusals = (refl, refl);
        handed = none_handed [] 12 None refl;
      }
      reregistering (Some old) = altering old (tickets.draws d).0 (law d).fresh

    pub reregisters_lawful : (xs : List Exchange) (r : Answer) (s' : OneFile T) (w' : World) (d' : Drawer) → Reregisters tickets s w d xs r s' w' d'
        → Reregistering (means s) w d xs r (means s') w' d'
    reregisters_lawful xs r s' w' d' h =
        subst (λ (x : Came (OneFile T)). Reregistering (means s) w d x.exchanges x.answer (means x.source) x.world x.drawer) (sym h.1) (reregistering h.0 s.tickets)

  -- UNREGISTERING

  unregistering : (w : World) (fate : Fate) (o : Option T) → (λ (c : Went (Unit {0}) (OneFile T)). Unregistering (means (with_tickets s o)) w c.exchanges c.answer (means c.source) c.world)
      (unregister_by (with_tickets s o) o w fate)
  unregistering w fate None = record {
    reaches = reaches_same _ _ _ w (search rules);
    drew = λ k m. m;
    accepting = λ e. cc;
    refusals = (refl, refl);
    handed = none_handed [] 12 None refl;
  }
  unregistering w fate (Some t) =
      let c = unregister_of s.file w fate in
      record {
        reaches = unregistered_reaches (λ r. key_at (left r (Some t))) (tickets.keys t) (keys_in tickets.keys (left c.answer (Some t))) hooks s.file (key_of (tickets.main t)) w fate refl (λ j b i e. cc);
        drew = λ k m. grind (arith, common_steps);
        accepting = λ e. grind (arith, common_steps);
        refusals = unregister_refusals s.file w fate;
        handed = unregister_handed s.file w fate;
      }

  pub unregisters_lawful : (w : World) (xs : List Exchange) (r : Answer) (s' : OneFile T) (w' : World) → Unregisters s w xs r s' w'
      → Unregistering (means s) w xs r (means s') w'
  unregisters_lawful w xs r s' w' h =
      subst (λ (x : Went (Unit {0}) (OneFile T)). Unregistering (means s) w x.exchanges x.answer (means x.source) x.world) (sym h.1) (unregistering w h.0 s.tickets)
