-- What add, modify and delete leave of the poller's entries. None touches another file.
use Rattle.std.proofs.Common.{◌≡◌, ℕ, Bool, true, false, List, None, Some, Option, refl, arith}
use Rattle.std.proofs.lemmas.Grind.{common_steps}
use Rattle.std.specs.Option.{option_map}
use Rattle.token.specs.Refusal.{done, refused}
use Rattle.poller.specs.declared.entry.Entry.{Entry}
use Rattle.poller.specs.declared.entry.Request.{Request}
use Rattle.poller.specs.Register.{entry_of, fresh, holds, marked, renewed}
use Rattle.poller.specs.Meaning.{Answer, Fate, add_of, delete_of, modify_of}
use Rattle.sys.specs.Laws.{Untouched}
use Rattle.sys.proofs.Entries.{changed_here, changed_other, push_here, push_other, removed_here, removed_other}

-- the file's entry once what was asked for is accepted
abbrev pub asked : Request → Option Entry → Entry
asked q None = fresh q
asked q (Some e) = renewed q e

-- add, which wants no entry of the file, and modify, which wants one: what was asked for stands, or all is as before
pub record Registered (held : Bool) (es : List Entry) (q : Request) (r : Answer) (es' : List Entry) : Type 0 where
  pub others : Untouched q.file es es'
  pub was : r ≡ done tt → holds q.file es ≡ held
  pub now : r ≡ done tt → entry_of q.file es' ≡ Some (asked q (entry_of q.file es))
  pub refusing : (n : ℕ) (c : Option ℕ) → r ≡ refused n c → es' ≡ es

pub add_leaves : (m : ℕ) (es : List Entry) (q : Request) (fate : Fate) → Registered false es q (add_of m es q fate).0 (add_of m es q fate).1
add_leaves m es q fate = grind (arith, common_steps, push_here es (fresh q), push_other)

pub modify_leaves : (es : List Entry) (q : Request) (fate : Fate) → Registered true es q (modify_of es q fate).0 (modify_of es q fate).1
modify_leaves es q fate = grind (arith, common_steps, changed_here (renewed q) (λ e. refl) q.file es, changed_other (renewed q) (λ e. refl) q.file)

-- delete: the entry is gone, or is marked where it stands
pub record Deleted (es : List Entry) (f : ℕ) (r : Answer) (es' : List Entry) : Type 0 where
  pub others : Untouched f es es'
  pub accepting : r ≡ done tt → entry_of f es' ≡ None
  pub refusing : (n : ℕ) (c : Option ℕ) → r ≡ refused n c → entry_of f es' ≡ option_map marked (entry_of f es)

pub delete_leaves : (es : List Entry) (f : ℕ) (fate : Fate) → Deleted es f (delete_of es f fate).0 (delete_of es f fate).1
delete_leaves es f fate = grind (arith, common_steps, removed_here f es, removed_other f, changed_here marked (λ e. refl) f es, changed_other marked (λ e. refl) f)
