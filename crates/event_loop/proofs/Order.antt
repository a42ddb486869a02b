-- What the token of an insert counts, and what the order says.
use Rattle.std.proofs.Common.{Bool, Err, IfOk, List, None, Ok, Result, [], ℕ, ◌++◌, ◌∷◌, ◌≡◌}
use Rattle.poller.specs.declared.entry.Entry.{Entry}
use Rattle.poller.specs.declared.poller.Poller.{Ghosts as PollerOf}
use Rattle.sys.specs.World.{world_of}
use Rattle.loop_handle.specs.State.{Orderly, loop_over}
use Rattle.loop_handle.specs.declared.handle.LoopHandle.{LoopHandle}
use Rattle.model.specs.Order.{InOrder}
use Rattle.model.specs.State.{new_loop}
use Rattle.model.proofs.Hand.{one_calm}
use Rattle.model.proofs.Kept.{new_in_order}
use Rattle.model.proofs.Register.{shared}
use Rattle.token.specs.declared.token.Token.{Token}
use Rattle.sys.specs.World.{Exchange}
use Rattle.kinds.specs.declared.source.EventSource.{Ghosts as EventSourceOf}
use Rattle.loop_handle.specs.State.{inserted_of}
use Rattle.loop_handle.specs.declared.handle.InsertError.{InsertError}
use Rattle.model.specs.Calls.{insert_of}
use Rattle.model.specs.Counts.{Counted, times, version_of}
use Rattle.model.specs.Course.{Takes}
use Rattle.model.specs.State.{Loop}
use Rattle.model.proofs.Kept.{insert_version}

pub version_ok : {S : Type 0} (kind : EventSourceOf S) (h : List ℕ) (l l' : Loop S) → Counted h l.slots → (s : S) (xs : List Exchange) (r : Result Token (InsertError S))
    → Takes kind (insert_of kind l s) xs (inserted_of r, l') → IfOk r (λ t. t.version ≡ version_of (times t.id (h ++ t.id ∷ [])))
version_ok kind h l l' c s xs (Ok t) k = insert_version kind h l c s xs t l' k
version_ok kind h l l' c s xs (Err e) k = tt

-- what the order says of the register, for a loop that handles no source
pub orderly : {P C S : Type 0} (poller : PollerOf P) (kind : EventSourceOf S) (h : List ℕ) (v : List Token) (l : LoopHandle P C S) → InOrder kind None h v (loop_over poller l) → Orderly poller kind h v l
orderly poller kind h v l o = (o, shared _ _ ((one_calm kind l.sources o.few (world_of poller l.registry.poll)).0 o.register))

-- a loop that begins over a poller with no entry is in order
pub new_orderly : {P C S : Type 0} (poller : PollerOf P) (kind : EventSourceOf S) (l : LoopHandle P C S) (es : List Entry) (most : ℕ) (level : Bool)
    → loop_over poller l ≡ new_loop es most level → es ≡ [] → Orderly poller kind [] [] l
new_orderly poller kind l es most level is none =
    orderly poller kind [] [] l (rw (is, none) (new_in_order kind most level))
