-- A source with one file keeps the rule of the files at each call of the poller.
use Rattle.std.proofs.Common.{◌≡◌, ℕ, List, is_some, Some, None, Option, refl, inl, arith}
use Rattle.std.proofs.lemmas.Grind.{common_steps}
use Rattle.token.specs.Refusal.{done, refused}
use Rattle.poller.specs.declared.entry.Entry.{Entry}
use Rattle.poller.specs.declared.entry.Request.{Request}
use Rattle.poller.specs.Meaning.{Answer}
use Rattle.sys.proofs.Outcomes.{Deleted, Registered}
use Rattle.rules.specs.Files.{Keeps}
use Rattle.rules.specs.Meaning.{Nothing}
use Rattle.rules.specs.OneFile.{own_files, under}
use Rattle.rules.proofs.Files.{keeps_placed, keeps_same}

module _ (key : Answer → Option ℕ) where
  -- add, where nothing is held, and modify, where the file is: a key of its own is kept where the poller refuses
  pub entered_keeps : (D : ℕ → Type 0) (k : Option ℕ) (es : List Entry) (q : Request) (r : Answer) (es' : List Entry) → D q.key
      → key (done tt) ≡ Some q.key → ((n : ℕ) (c : Option ℕ) → key (refused n c) ≡ k) → Registered (is_some k) es q r es'
      → Keeps D (under q.file k) (own_files q.file k) es (under q.file (key r)) (own_files q.file (key r)) es'
  entered_keeps D k es q (refused n c) es' d kept lost a = rw (lost n c) (keeps_same D (under q.file k) (own_files q.file k) es es' (a.refusing n c refl))
  entered_keeps D k es q (done u) es' d kept lost a =
      keeps_placed D q.file k (key (done u)) es es' a.others (λ sound. grind (arith, common_steps, a.was refl, a.now refl))

  -- delete, where the file is held; a key that is left is the old one
  pub deleted_keeps : (f n : ℕ) (es : List Entry) (r : Answer) (es' : List Entry)
      → key (done tt) ≡ None → ((j : ℕ) (c : Option ℕ) (i : ℕ) → key (refused j c) ≡ Some i → i ≡ n) → Deleted es f r es'
      → Keeps Nothing (under f (Some n)) (own_files f (Some n)) es (under f (key r)) (own_files f (key r)) es'
  deleted_keeps f n es (done u) es' gone left a =
      keeps_placed Nothing f (Some n) (key (done u)) es es' a.others (λ sound. grind (arith, common_steps, a.accepting refl))
  deleted_keeps f n es (refused j c) es' gone left a =
      keeps_placed Nothing f (Some n) (key (refused j c)) es es' a.others (λ sound. grind (arith, common_steps, a.refusing j c refl, left j c, sound.stands (record { file = f; key = n }) (inl refl)))
