-- The laws of a poller's calls, over the bound's own record.
use Rattle.std.proofs.Common.{◌≡◌, ℕ, List, Option, Result, MutBor, refl}
use Rattle.std.specs.Fn.{Once}
use Rattle.token.specs.declared.error.Error.{Error}
use Rattle.token.specs.Refusal.{outcome}
use Rattle.poller.specs.declared.entry.Entry.{Entry}
use Rattle.poller.specs.declared.entry.Event.{Event}
use Rattle.poller.specs.declared.poller.Poller.{Ghosts as PollerOf}
use Rattle.poller.specs.Meaning.{Answer, By, Fate, Waited, add_of, modify_of, delete_of}
use Rattle.poller.specs.declared.entry.Request.{Request}
use Rattle.sys.specs.Polling.{AsksBy}

module _ {P : Type 0} (poller : PollerOf P) where
  -- a call came out as the definition says, and leaves the poller its room
  abbrev pub Came : (Fate → Answer × List Entry) → P → Answer → P → Type 0
  Came of p r p' = By of r (poller.entries p') × (poller.most p' ≡ poller.most p)

  abbrev pub Adding : Type 0
  Adding = (p : P) (q : Request) (r : Answer) (p' : P) → poller.adds p q r p' → Came (add_of (poller.most p) (poller.entries p) q) p r p'

  abbrev pub Modifying : Type 0
  Modifying = (p : P) (q : Request) (r : Answer) (p' : P) → poller.modifies p q r p' → Came (modify_of (poller.entries p) q) p r p'

  abbrev pub Deleting : Type 0
  Deleting = (p : P) (f : ℕ) (r : Answer) (p' : P) → poller.deletes p f r p' → Came (delete_of (poller.entries p) f) p r p'

  abbrev pub Waiting : Type 0
  Waiting = (p : P) (t : Option ℕ) (r : Answer) (vs : List Event) (p' : P) → poller.waits p t r vs p' → Waited (poller.entries p) r vs (poller.entries p') × (poller.most p' ≡ poller.most p)

module _ {F P : Type 0} (g : Once F (MutBor P × (Request × Unit {0})) (Result (Unit {0}) Error × (MutBor P × Unit {0}))) (f : F) where
  pub asks_so : (x x' : MutBor P) (q : Request) (a : Result (Unit {0}) Error) → g.post f (x, (q, tt)) (a, (x', tt)) → AsksBy g f x.now q (outcome a) x'.now
  asks_so x x' q a h = record { shown = x; shows = refl; left = x'; leaves = refl; result = a; answers = refl; met = h }
