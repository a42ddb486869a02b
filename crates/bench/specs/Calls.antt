-- What a line of a script does.
use Rattle.std.specs.Prelude.{◌≡◌, ℕ, ◌≤◌, ◌⊎◌, true, false, Bool, List, [], ◌∷◌, ◌++◌, Ok, Err, Result, Some, None, Option, String, vec_capacity, vec_items, vec_len}
use Rattle.std.specs.Global.{Global}
use Rattle.std.specs.Result.{IsErr}
use Rattle.std.specs.declared.alloc.AllocError.{AllocError}
use Rattle.either.specs.declared.Either.{Either}
use Rattle.either.specs.declared.Either.TheVariants.{Left, Right}
use Rattle.token.specs.declared.token.Token.{Token}
use Rattle.token.specs.Refusal.{Outcome, done, refused}
use Rattle.poller.specs.Bench.{bench_of}
use Rattle.poller.specs.declared.bench.BenchPoller.{BenchPoller}
use Rattle.poller.specs.declared.entry.Mode.TheVariants.{Level}
use Rattle.poller.specs.declared.poller.Poller.{Ghosts as PollerOf}
use Rattle.poller.specs.Meaning.{Answer}
use Rattle.sys.specs.declared.clock.Clock.{Ghosts as ClockOf}
use Rattle.sys.specs.declared.setting.SetClock.{SetClock}
use Rattle.kinds.specs.declared.source.EventSource.{Ghosts as EventSourceOf}
use Rattle.generic.specs.declared.generic.Generic.{Generic}
use Rattle.generic.specs.Events.{generic_over}
use Rattle.timer.specs.declared.timer.Timer.{Timer}
use Rattle.timer.specs.Events.{timer_until}
use Rattle.model.specs.Calls.{disable_of, enable_of, insert_of, remove_of, update_of}
use Rattle.model.specs.Course.{Course, Takes}
use Rattle.model.specs.Dispatch.{dispatch_of}
use Rattle.model.specs.Laws.{Stopped, Woke}
use Rattle.model.specs.Order.{refused_by}
use Rattle.model.specs.State.{Loop}
use Rattle.loop_handle.specs.declared.handle.InsertError.{InsertError}
use Rattle.loop_handle.specs.State.{Orderly, Performed, inserted_of, loop_over}
use Rattle.event_loop.specs.State.{Aside, Dispatching, handle_of, polling_of}
use Rattle.event_loop.specs.declared.state.EventLoop.{EventLoop}
use Rattle.script.specs.declared.Form.{Form}
use Rattle.bench.specs.declared.bench.Bench.{Bench}
use Rattle.bench.specs.declared.bench.Fixed.{Fixed}
use Rattle.bench.specs.declared.bench.Repeat.{Repeat}
use Rattle.bench.specs.Answer.{call_text, dispatch_text, insert_text, refusal_text, removal_text}
use Rattle.bench.specs.Handlers.{nth_token}
use Rattle.bench.specs.Written.{Written}

-- the sources of scripts
abbrev pub Source : Type 0
Source = Either (Timer Repeat) (Generic Fixed)

-- the tokens of the accepted inserts, in their order
abbrev pub accepted : Bench → List Token
accepted b = b.inserted.items

-- the token of an enable that was refused, where its number names one
abbrev pub enable_refused : Outcome Token → Answer → List Token
enable_refused (done t) r = refused_by r t
enable_refused (refused n c) r = []

-- an insert for which the list of accepted ones has no room: the loop and that list are as they were
pub record NoRoom (b b' : Bench) : Type 0 where
  pub full : vec_capacity b.inserted ≤ vec_len b.inserted
  pub same : b'.event_loop ≡ b.event_loop
  pub inserts : accepted b' ≡ accepted b

abbrev pub taken : Result Token (InsertError Source) → List Token
taken (Ok t) = t ∷ []
taken (Err e) = []

module _ (poller : PollerOf BenchPoller) (clock : ClockOf SetClock) (kind : EventSourceOf Source) where
  -- the loop made this call, and the inserts accepted so far are these
  pub record Called {A : Type 0} (call : Loop Source → Course Source (A × Loop Source)) (b : Bench) (r : A) (ts : List Token) (b' : Bench) : Type 0 where
    pub is : Performed poller clock kind call (handle_of b.event_loop) r (handle_of b'.event_loop)
    pub aside : Aside b.event_loop b'.event_loop
    pub inserts : accepted b' ≡ ts

  abbrev pub Inserts : Source → Bench → Result Token (InsertError Source) → Bench → Type 0
  Inserts s b r b' = Called (λ l. insert_of kind l s) b (inserted_of r) (accepted b ++ taken r) b'

  -- a call by the token that a number names; one that names none is refused, and nothing changes
  abbrev pub Numbered : {A : Type 0} → Bench → Outcome Token → Outcome A → Bench → (Token → Type 0) → Type 0
  Numbered b (done t) r b' call = call t
  Numbered b (refused n c) r b' call = (r ≡ refused n c) × (b' ≡ b)

  abbrev pub Told : (Loop Source → Token → Course Source (Answer × Loop Source)) → ℕ → Bench → Answer → Bench → Type 0
  Told call n b r b' = Numbered b (nth_token (accepted b) n) r b' (λ t. Called (λ l. call l t) b r (accepted b) b')

  abbrev pub Removes : ℕ → Bench → Outcome Bool → Bench → Type 0
  Removes n b r b' = Numbered b (nth_token (accepted b) n) r b' (λ t. (left : Bool) × (r ≡ done left) × Called (λ l. remove_of kind l t) b left (accepted b) b')

  -- the clock was set and these files were ready, and then the loop dispatched without a timeout
  pub record Dispatches (now : ℕ) (files : List ℕ) (b : Bench) (r : Answer) (b' : Bench) : Type 0 where
    pub set : EventLoop BenchPoller SetClock Source
    pub ready : bench_of (polling_of set).poller ≡ record (bench_of (polling_of b.event_loop).poller) { ready = files }
    pub time : (polling_of set).clock.time ≡ now
    pub same : loop_over poller (handle_of set) ≡ loop_over poller (handle_of b.event_loop)
    pub aside : Aside b.event_loop set
    pub is : Dispatching poller clock set r b'.event_loop (λ l q xs o. Takes kind (dispatch_of kind None l q) xs o × (Stopped q xs o ⊎ Woke None l.world q xs o))
    pub inserts : accepted b' ≡ accepted b

  -- what is done for a line, and the text that answers it
  abbrev pub Answered : Option Form → Bench → List ℕ → Bench → Type 0
  Answered (Some (Form.Timer d p)) b out b' = (r : Result Token (InsertError Source)) × Inserts (Left (timer_until d (record { period = p }))) b r b' × (out ≡ insert_text r)
  Answered (Some (Form.Generic f a)) b out b' = (r : Result Token (InsertError Source)) × Inserts (Right (generic_over f (record { readable = true; writable = false }) Level (record { action = a }))) b r b' × (out ≡ insert_text r)
  Answered (Some (Form.Enable n)) b out b' = (r : Answer) × Told (enable_of kind) n b r b' × (out ≡ call_text r)
  Answered (Some (Form.Update n)) b out b' = (r : Answer) × Told (update_of kind) n b r b' × (out ≡ call_text r)
  Answered (Some (Form.Disable n)) b out b' = (r : Answer) × Told (disable_of kind) n b r b' × (out ≡ call_text r)
  Answered (Some (Form.Remove n)) b out b' = (r : Outcome Bool) × Removes n b r b' × (out ≡ removal_text r)
  Answered (Some (Form.Wait c fs)) b out b' = (r : Answer) × Dispatches c (vec_items fs) b r b' × (out ≡ dispatch_text r b'.event_loop.sheet.items.items)
  Answered None b out b' = (b' ≡ b) × (out ≡ refusal_text 7)

  -- a line that asks for an insert
  abbrev pub Inserting : Option Form → Type 0
  Inserting (Some (Form.Timer d p)) = Unit {0}
  Inserting (Some (Form.Generic f a)) = Unit {0}
  Inserting form = ⊥

  -- WHAT A LINE COMES TO: it is done, and its answer is written; but an insert may find no room, and then nothing is done or written
  abbrev pub Performs : Option Form → Bench → String Global → Result (Unit {0}) AllocError → Bench → String Global → Type 0
  Performs form b s r b' s' =
      ((text : List ℕ) × Answered form b text b' × Written text s r s')
      ⊎ (Inserting form × NoRoom b b' × IsErr r × (s' ≡ s))

-- the loop is in order, whichever slots were given out and whichever enables were refused so far
abbrev pub Ordered : PollerOf BenchPoller → EventSourceOf Source → Bench → Type 0
Ordered poller kind b = (h : List ℕ) × (v : List Token) × Orderly poller kind h v (handle_of b.event_loop)
