-- What a source does to the polling system: nothing, one call after another, and each call over one file.
use Rattle.std.proofs.Common.{◌≡◌, ℕ, Bool, List, [], ◌∷◌, ◌++◌, is_some, Some, None, Option, refl, ◌∙◌, inl, inr, arith}
use Rattle.std.proofs.lemmas.Grind.{common_steps}
use Rattle.std.proofs.lemmas.List.Elements.{All-append, All-cons, All-nil, All-weaker}
use Rattle.token.specs.Refusal.{Outcome, done, refused}
use Rattle.poller.specs.declared.entry.Entry.{Entry}
use Rattle.poller.specs.declared.entry.Mode.{Mode}
use Rattle.poller.specs.declared.entry.Request.{Request}
use Rattle.poller.specs.Meaning.{Answer, Fate, add_of, modify_of}
use Rattle.levels.specs.declared.table.Line.{Line}
use Rattle.sys.specs.Laws.{Consistent, In, Noted}
use Rattle.sys.specs.Polling.{mode_below_of, request}
use Rattle.sys.specs.World.{Come, Exchange, World, added, let_go_of, modified, register_of, reregister_of, sent, unregister_of, with_table}
use Rattle.sys.proofs.Locality.{let_go_touches, register_touches, reregister_touches, unregister_touches}
use Rattle.sys.proofs.Outcomes.{Registered, add_leaves, delete_leaves, modify_leaves}
use Rattle.rules.specs.Kinds.{Enters, Reaches}
use Rattle.rules.specs.Meaning.{Meaning, Nothing}
use Rattle.rules.specs.Files.{Files, Keeps}
use Rattle.rules.specs.Lines.{LinesStay}
use Rattle.rules.specs.OneFile.{one_file_of, own_files, under}
use Rattle.rules.proofs.Drawing.{none_drawn}
use Rattle.rules.proofs.Files.{keeps_same, keeps_then, keeps_weaker}
use Rattle.rules.proofs.Lines.{dropped_lines, line_stands, lines_same, lines_then, lines_weaker, registered_lines, unregistered_lines}
use Rattle.rules.proofs.OneFile.{deleted_keeps, entered_keeps}
use Rattle.rules.proofs.Timers.{timers_same, timers_then, timers_weaker}

-- the source holds what it held
pub record Alike (m m' : Meaning) : Type 0 where
  pub held : m'.held ≡ m.held
  pub entered : m'.entered ≡ m.entered
  pub counters : m'.counters ≡ m.counters
  pub hooks : m'.hooks ≡ m.hooks

pub reaches_same : (D : ℕ → Type 0) (m m' : Meaning) (w : World) → Alike m m' → Reaches D m w [] m' w
reaches_same D m m' w a = record {
  files = λ sound. simp (a.held, a.entered) (keeps_same D m.held m.entered w.entries w.entries refl sound);
  timers = simp a.counters (timers_same D m.counters w.wheel w.wheel refl);
  enters = All-nil (Enters D);
  level = λ c. c;
  lines = λ sound c. lines_same D m.entered w.lines;
  most = refl;
  hooks = a.hooks;
}

enters_weaker : (D F : ℕ → Type 0) → ((k : ℕ) → D k → F k) → (x : Exchange) → Enters D x → Enters F x
enters_weaker D F h x e = grind (arith, common_steps, h)

pub reaches_weaker : (D F : ℕ → Type 0) (m m' : Meaning) (w w' : World) (xs : List Exchange) → ((k : ℕ) → D k → F k) → Reaches D m w xs m' w' → Reaches F m w xs m' w'
reaches_weaker D F m m' w w' xs h a = record {
  files = keeps_weaker D F m.held m'.held m.entered m'.entered w.entries w'.entries h a.files;
  timers = timers_weaker D F m.counters m'.counters w.wheel w'.wheel h a.timers;
  enters = All-weaker (Enters D) (Enters F) (enters_weaker D F h) xs a.enters;
  level = a.level;
  lines = λ sound c. lines_weaker D F m.entered w.lines w'.lines h (a.lines sound c);
  most = a.most;
  hooks = a.hooks;
}

-- a file that has a line before the call is the source's own after it only if it was so before
line_owned : (D : ℕ → Type 0) (m m' : Meaning) (w w' : World) → Files D m.held m.entered w.entries m'.held m'.entered w'.entries → Consistent w.entries w.lines
    → (l : Line) → Noted l w.lines → In l.file m'.entered → In l.file m.entered
line_owned D m m' w w' a c l n i = elim (a.fresh l.file i) [ inl o ↦ o | inr e ↦ absurd (line_stands w.entries w.lines c l n e) ]

-- the first of the two draws nothing, as `timers_then` wants it
pub reaches_then : (F : ℕ → Type 0) (m m' m'' : Meaning) (w w' w'' : World) (xs ys : List Exchange) → Reaches Nothing m w xs m' w' → Reaches F m' w' ys m'' w'' → Reaches F m w (xs ++ ys) m'' w''
reaches_then F m m' m'' w w' w'' xs ys a b = record {
  files = keeps_then Nothing F F m.held m'.held m''.held m.entered m'.entered m''.entered w.entries w'.entries w''.entries (none_drawn F) (λ k f. f) a.files b.files;
  timers = timers_then F m.counters m'.counters m''.counters w.wheel w'.wheel w''.wheel a.timers b.timers;
  enters = All-append (Enters F) xs ys (All-weaker (Enters Nothing) (Enters F) (enters_weaker Nothing F (none_drawn F)) xs a.enters) b.enters;
  level = λ c. b.level (a.level c);
  lines = λ sound c.
      let files = a.files sound in
      lines_then F m.entered m'.entered w.lines w'.lines w''.lines (line_owned Nothing m m' w w' files c) (a.lines sound c) (b.lines files.sound (a.level c));
  most = b.most ∙ a.most;
  hooks = b.hooks ∙ a.hooks;
}

-- ONE FILE

module _ (D : ℕ → Type 0) (f : ℕ) (k k' : Option ℕ) (drew drew' : List ℕ) (hooks : Bool) (w : World) where
  -- the poller was asked once, about the file
  touched_reaches : (es : List Entry) (ls : Option (List Line)) (x : Exchange) → Keeps D (under f k) (own_files f k) w.entries (under f k') (own_files f k') es → Enters D x
      → (Consistent w.entries w.lines → Consistent es ls) → (Consistent w.entries w.lines → LinesStay D (own_files f k) w.lines ls)
      → Reaches D (one_file_of f k drew hooks) w (x ∷ []) (one_file_of f k' drew' hooks) (with_table w es ls)
  touched_reaches es ls x keeps enters level stay = record {
    files = keeps;
    timers = timers_same D [] w.wheel w.wheel refl;
    enters = All-cons (Enters D) x [] enters (All-nil (Enters D));
    level = level;
    lines = λ sound. stay;
    most = refl;
    hooks = refl;
  }

module _ (key : Answer → Option ℕ) (drew drew' : List ℕ) (hooks : Bool) where
  module _ (D : ℕ → Type 0) (l : Line) (m : Mode) (w : World) (fate : Fate) (d : D l.key) (kept : key (done tt) ≡ Some l.key) where
    -- what a registration came to, where the source held the file under the key k, or nothing
    abbrev Sends : Option ℕ → Come → Type 0
    Sends k c = Reaches D (one_file_of l.file k drew hooks) w c.exchanges (one_file_of l.file (key c.answer) drew' hooks) c.world

    sent_reaches : (k : Option ℕ) (ask : Request → Answer → Exchange) (of : Request → Answer × List Entry) → ((n : ℕ) (c : Option ℕ) → key (refused n c) ≡ k)
        → ((q : Request) (r : Answer) → D q.key → Enters D (ask q r)) → ((q : Request) → Registered (is_some k) w.entries q (of q).0 (of q).1)
        → (o : Outcome Mode) → (Consistent w.entries w.lines → Consistent (sent ask of o l m w).world.entries (sent ask of o l m w).world.lines) → Sends k (sent ask of o l m w)
    sent_reaches k ask of lost enters law (refused n c) level = rw (lost n c) (reaches_same D _ _ w (record { held = refl; entered = refl; counters = refl; hooks = refl }))
    sent_reaches k ask of lost enters law (done b) level =
        let q = request l b in
        touched_reaches D l.file k _ drew drew' hooks w _ _ _ (entered_keeps key D k w.entries q (of q).0 (of q).1 d kept lost (law q)) (enters q (of q).0 d) level
        (registered_lines D k l m b (of q).0 w.entries (of q).1 w.lines d (law q))

    pub registered_reaches : ((n : ℕ) (c : Option ℕ) → key (refused n c) ≡ None) → Sends None (register_of l m w fate)
    registered_reaches lost =
        sent_reaches None added (λ q. add_of w.most w.entries q fate) lost (λ q r e. e) (λ q. add_leaves w.most w.entries q fate) (mode_below_of w.lines l.key m) (register_touches l m w fate).consistent

    pub reregistered_reaches : (n : ℕ) → ((j : ℕ) (c : Option ℕ) → key (refused j c) ≡ Some n) → Sends (Some n) (reregister_of l m w fate)
    reregistered_reaches n lost =
        sent_reaches (Some n) modified (λ q. modify_of w.entries q fate) lost (λ q r e. e) (λ q. modify_leaves w.entries q fate) (mode_below_of w.lines l.key m) (reregister_touches l m w fate).consistent

  pub unregistered_reaches : (f n : ℕ) (w : World) (fate : Fate) → key (done tt) ≡ None → ((j : ℕ) (c : Option ℕ) (i : ℕ) → key (refused j c) ≡ Some i → i ≡ n)
      → Reaches Nothing (one_file_of f (Some n) drew hooks) w (unregister_of f w fate).exchanges (one_file_of f (key (unregister_of f w fate).answer) drew' hooks) (unregister_of f w fate).world
  unregistered_reaches f n w fate gone left =
      touched_reaches Nothing f (Some n) _ drew drew' hooks w _ _ _ (deleted_keeps key f n w.entries _ _ gone left (delete_leaves w.entries f fate)) tt (unregister_touches f w fate).consistent
      (λ c. unregistered_lines Nothing (own_files f (Some n)) f _ w.lines (inl refl))

-- the key is forgotten, whatever the poller answers
pub let_go_reaches : (drew drew' : List ℕ) (hooks : Bool) (f n : ℕ) (w : World) (fate : Fate)
    → Reaches Nothing (one_file_of f (Some n) drew hooks) w (let_go_of f w fate).exchanges (one_file_of f None drew' hooks) (let_go_of f w fate).world
let_go_reaches drew drew' hooks f n w fate =
    touched_reaches Nothing f (Some n) None drew drew' hooks w _ _ _ (deleted_keeps (λ r. None) f n w.entries _ _ refl (λ j c i e. cc) (delete_leaves w.entries f fate)) tt (let_go_touches f w fate).consistent
    (λ c. dropped_lines Nothing (own_files f (Some n)) f w.lines (inl refl))
