-- What the calls of the polling system over one file may be refused with.
use Rattle.std.proofs.Common.{◌≡◌, ℕ, false, List, [], ◌∷◌, ◌++◌, Option, inl, refl, arith, rules}
use Rattle.std.proofs.lemmas.Grind.{common_steps}
use Rattle.token.specs.Refusal.{Outcome, done, refused}
use Rattle.poller.specs.declared.entry.Entry.{Entry}
use Rattle.poller.specs.declared.entry.Request.{Request}
use Rattle.poller.specs.declared.entry.Mode.{Mode}
use Rattle.poller.specs.Meaning.{Answer, Fate, add_of, among, delete_of, modify_of}
use Rattle.levels.specs.declared.table.Line.{Line}
use Rattle.sys.specs.Polling.{mode_below_of, request}
use Rattle.sys.specs.World.{Exchange, World, added, deleted, modified, register_of, reregister_of, sent, unregister_of}
use Rattle.sys.proofs.Entries.{in_back}
use Rattle.rules.specs.Refusals.{HandedOn, RefusedBy, answered, by_registration, by_unregister, from_poller}

pub register_refusals : (l : Line) (m : Mode) (w : World) (fate : Fate) → RefusedBy by_registration (register_of l m w fate).answer
register_refusals l m w fate = search rules

pub reregister_refusals : (l : Line) (m : Mode) (w : World) (fate : Fate) → RefusedBy by_registration (reregister_of l m w fate).answer
reregister_refusals l m w fate = search rules

pub unregister_refusals : (f : ℕ) (w : World) (fate : Fate) → RefusedBy by_unregister (unregister_of f w fate).answer
unregister_refusals f w fate = search rules

-- WHAT IS HANDED ON

-- what was asked before changes nothing of it
pub handed_behind : (xs ys : List Exchange) (r : Answer) → HandedOn ys r → HandedOn (xs ++ ys) r
handed_behind xs ys (done u) h = tt
handed_behind xs ys (refused n c) h = λ e. let x = h e in (x.0, in_back x.0 xs ys x.1, x.2)

-- a refusal that is no word of the poller's
pub none_handed : (xs : List Exchange) (n : ℕ) (c : Option ℕ) → among n from_poller ≡ false → HandedOn xs (refused n c)
none_handed xs n c out = λ e. grind (arith, common_steps)

-- the poller was asked, and its answer is the answer
asked_handed : (x : Exchange) (r : Answer) → answered x ≡ r → HandedOn (x ∷ []) r
asked_handed x (done u) is = tt
asked_handed x (refused n c) is = λ e. (x, inl refl, is)

sent_handed : (ask : Request → Answer → Exchange) → ((q : Request) (r : Answer) → answered (ask q r) ≡ r) → (of : Request → Answer × List Entry) (o : Outcome Mode) (l : Line) (m : Mode) (w : World)
    → ((n : ℕ) (c : Option ℕ) → o ≡ refused n c → among n from_poller ≡ false) → HandedOn (sent ask of o l m w).exchanges (sent ask of o l m w).answer
sent_handed ask same of (refused n c) l m w out = none_handed [] n c (out n c refl)
sent_handed ask same of (done b) l m w out = asked_handed (ask (request l b) (of (request l b)).0) (of (request l b)).0 (same (request l b) (of (request l b)).0)

mode_out : (t : Option (List Line)) (k : ℕ) (m : Mode) (n : ℕ) (c : Option ℕ) → mode_below_of t k m ≡ refused n c → among n from_poller ≡ false
mode_out t k m n c e = grind (arith, common_steps)

pub register_handed : (l : Line) (m : Mode) (w : World) (fate : Fate) → HandedOn (register_of l m w fate).exchanges (register_of l m w fate).answer
register_handed l m w fate = sent_handed added (λ q r. refl) (λ q. add_of w.most w.entries q fate) (mode_below_of w.lines l.key m) l m w (mode_out w.lines l.key m)

pub reregister_handed : (l : Line) (m : Mode) (w : World) (fate : Fate) → HandedOn (reregister_of l m w fate).exchanges (reregister_of l m w fate).answer
reregister_handed l m w fate = sent_handed modified (λ q r. refl) (λ q. modify_of w.entries q fate) (mode_below_of w.lines l.key m) l m w (mode_out w.lines l.key m)

pub unregister_handed : (f : ℕ) (w : World) (fate : Fate) → HandedOn (unregister_of f w fate).exchanges (unregister_of f w fate).answer
unregister_handed f w fate = let a = (delete_of w.entries f fate).0 in asked_handed (deleted f a) a refl
