-- The rule of the level table's lines: nothing done, one call after another, and one file's lines changed.
use Rattle.std.proofs.Common.{◌≡◌, ℕ, Bool, true, List, [], ◌∷◌, ◌++◌, filter, is_some, Some, None, Option, refl, inl, arith}
use Rattle.std.specs.Option.{option_map}
use Rattle.std.proofs.lemmas.Grind.{common_steps}
use Rattle.token.specs.Refusal.{done, refused}
use Rattle.poller.specs.declared.entry.Entry.{Entry}
use Rattle.poller.specs.declared.entry.Mode.{Mode}
use Rattle.poller.specs.Meaning.{Answer}
use Rattle.poller.specs.Register.{entry_of, holds}
use Rattle.levels.specs.declared.table.Line.{Line}
use Rattle.levels.specs.Table.{dropped, entered, stays}
use Rattle.sys.specs.Laws.{Consistent, In, Noted}
use Rattle.sys.specs.Polling.{lines_after, request}
use Rattle.sys.proofs.Entries.{in_append, in_filter}
use Rattle.sys.proofs.Outcomes.{Registered}
use Rattle.rules.specs.Lines.{LinesStay}
use Rattle.rules.specs.Meaning.{Nothing}
use Rattle.rules.specs.OneFile.{own_files}

pub lines_same : (D : ℕ → Type 0) (o : List ℕ) (ls : Option (List Line)) → LinesStay D o ls ls
lines_same D o ls = record { stay = λ l n f k. n; join = λ l n. inl n }

pub lines_weaker : (D F : ℕ → Type 0) (o : List ℕ) (ls ls' : Option (List Line)) → ((k : ℕ) → D k → F k) → LinesStay D o ls ls' → LinesStay F o ls ls'
lines_weaker D F o ls ls' h a = grind (arith, common_steps, h)

-- a file that has a line, and is the source's own in between, was so before
pub lines_then : (F : ℕ → Type 0) (o o' : List ℕ) (ls ls' ls'' : Option (List Line)) → ((l : Line) → Noted l ls → In l.file o' → In l.file o)
    → LinesStay Nothing o ls ls' → LinesStay F o' ls' ls'' → LinesStay F o ls ls''
lines_then F o o' ls ls' ls'' mine a b = grind (arith, common_steps, mine)

-- a file that has a line stands
pub line_stands : (es : List Entry) (ls : Option (List Line)) → Consistent es ls → (l : Line) → Noted l ls → (entry_of l.file es ≡ None) → ⊥
line_stands es None c l n e = n
line_stands es (Some ls) c l n e = grind (arith, common_steps, c l n)

-- ONE FILE

-- what passes a filter is left
filter_keeps : {X : Type 0} (p : X → Bool) (xs : List X) (x : X) → In x xs → p x ≡ true → In x (filter p xs)
filter_keeps p [] x m e = m
filter_keeps p (y ∷ xs) x m e = grind (arith, common_steps, filter_keeps p xs x)

append_keeps : {X : Type 0} (x : X) (xs ys : List X) → In x xs → In x (xs ++ ys)
append_keeps x [] ys m = elim m [ ]
append_keeps x (y ∷ xs) ys m = grind (arith, common_steps, append_keeps x xs ys)

module _ (D : ℕ → Type 0) (o : List ℕ) where
  -- a registration whose key was drawn; if its file has a line, it is the source's own
  entered_lines : (l : Line) (m : Mode) (ls : Option (List Line)) → D l.key → ((x : Line) → Noted x ls → x.file ≡ l.file → In l.file o) → LinesStay D o ls (option_map (entered l m) ls)
  entered_lines l m None d mine = lines_same D o None
  entered_lines l m (Some ls) d mine =
      let there = dropped l.file (Some l.key) ls in
      record {
        stay = λ x n f k. grind (arith, common_steps, filter_keeps (stays l.file (Some l.key)) ls x, append_keeps x there (l ∷ []), mine x);
        join = λ x n. grind (arith, common_steps, in_filter (stays l.file (Some l.key)) ls x, in_append x there (l ∷ []));
      }

  -- a file of its own is given up
  pub dropped_lines : (f : ℕ) (ls : Option (List Line)) → In f o → LinesStay D o ls (option_map (dropped f None) ls)
  dropped_lines f None m = lines_same D o None
  dropped_lines f (Some ls) m = record {
    stay = λ x n g k. filter_keeps (stays f None) ls x n (grind (arith, common_steps));
    join = λ x n. inl (in_filter (stays f None) ls x n).0;
  }

  pub unregistered_lines : (f : ℕ) (r : Answer) (ls : Option (List Line)) → In f o → LinesStay D o ls (lines_after r (dropped f None) ls)
  unregistered_lines f (done u) ls m = dropped_lines f ls m
  unregistered_lines f (refused n c) ls m = lines_same D o ls

-- add, where nothing is held, and modify, where the file is
pub registered_lines : (D : ℕ → Type 0) (k : Option ℕ) (l : Line) (m b : Mode) (r : Answer) (es es' : List Entry) (ls : Option (List Line)) → D l.key
    → Registered (is_some k) es (request l b) r es' → Consistent es ls → LinesStay D (own_files l.file k) ls (lines_after r (entered l m) ls)
registered_lines D k l m b (refused n c) es es' ls d a is = lines_same D (own_files l.file k) ls
registered_lines D k l m b (done u) es es' ls d a is = entered_lines D (own_files l.file k) l m ls d (λ x n e. mine x n e k (a.was refl))
  where
    mine : (x : Line) → Noted x ls → x.file ≡ l.file → (k : Option ℕ) → holds l.file es ≡ is_some k → In l.file (own_files l.file k)
    mine x n e (Some i) h = inl refl
    mine x n e None h = grind (arith, common_steps, line_stands es ls is x n)
