-- What each call of a source with one file comes to. The fates are the poller's: what it does past its checks.
use Rattle.std.specs.Prelude.{◌≡◌, ℕ, Bool, List, [], ◌++◌, Some, None, Option}
use Rattle.std.specs.Option.{option_map, option_map_or}
use Rattle.token.specs.declared.token.Token.{Token}
use Rattle.token.specs.Key.{key_of}
use Rattle.token.specs.Refusal.{Outcome, done, refused, refusal}
use Rattle.poller.specs.Meaning.{Answer, Fate}
use Rattle.levels.specs.declared.table.Line.{Line}
use Rattle.sys.specs.Polling.{line_for}
use Rattle.sys.specs.World.{Come, Exchange, World, let_go_of, register_of, reregister_of, unregister_of}
use Rattle.rules.specs.Calls.{Came, Went, came, went}
use Rattle.rules.specs.Meaning.{Drawer, Meaning}
use Rattle.rules.specs.OneFile.{one_file_of}
use Rattle.one_file.specs.declared.one_file.OneFile.{OneFile}
use Rattle.one_file.specs.declared.tickets.Tickets.{Ghosts as TicketsOf}

-- The tickets after an accepted registration, or those before it. By the answer, as `left` below and `lines_after` of `sys` are:
-- a word for the choice alone would read no better.
abbrev pub after : {T : Type 0} → Answer → T → Option T → Option T
after (done u) t old = Some t
after (refused n c) t old = old

-- the tickets after an unregister: none once it is accepted
abbrev pub left : {T : Type 0} → Answer → Option T → Option T
left (done u) old = None
left (refused n c) old = old

-- the keys that are kept
abbrev pub keys_in : {T : Type 0} → (T → List ℕ) → Option T → List ℕ
keys_in keys o = option_map_or keys o []

module _ {T : Type 0} where
  -- its file stands under the token of its tickets
  abbrev pub meaning : TicketsOf T → OneFile T → Bool → Meaning
  meaning tickets s hooks = one_file_of s.file (option_map (λ (t : T). key_of (tickets.main t)) s.tickets) (keys_in tickets.keys s.tickets) hooks

  -- a source with other tickets, by name, as clauses and laws say it
  abbrev pub with_tickets : OneFile T → Option T → OneFile T
  with_tickets s t = record s { tickets = t }

  -- its file under the token, as the level table knows it
  abbrev pub line_of : OneFile T → Token → Line
  line_of s t = line_for s.file s.interest t

  -- LETTING GO: with tickets, one more delete

  abbrev pub cleared : OneFile T → Option T → World → Fate → Went (Unit {0}) (OneFile T)
  cleared s None w fate = went [] (done tt) (with_tickets s None) w
  cleared s (Some t) w fate = went (let_go_of s.file w fate).exchanges (done tt) (with_tickets s None) (let_go_of s.file w fate).world

  -- letting go came to this, for one fate
  abbrev pub Leaves : OneFile T → World → List Exchange → OneFile T → World → Type 0
  Leaves s w xs s' w' = (fate : Fate) × (went xs (done tt) s' w' ≡ cleared s s.tickets w fate)

  -- REGISTERING

  -- the polling system answered a registration
  abbrev pub registered : OneFile T → T → Come → Drawer → List Exchange → Came (OneFile T)
  registered s t c d xs = came (xs ++ c.exchanges) c.answer (with_tickets s (after c.answer t s.tickets)) c.world d

  module _ (tickets : TicketsOf T) where
    -- with tickets in hand the file is registered under their token
    abbrev pub entered : (Line → World → Come) → OneFile T → Outcome T → World → Drawer → List Exchange → Came (OneFile T)
    entered of s (refused n c) w d xs = came xs (refused n c) s w d
    entered of s (done t) w d xs = registered s t (of (line_of s (tickets.main t)) w) d xs

    abbrev pub drawn : (Line → World → Come) → OneFile T → World → Drawer → List Exchange → Came (OneFile T)
    drawn of s w d xs = entered of s (tickets.draws d).0 w (tickets.draws d).1 xs

    -- register: a file that it still holds is given up first
    abbrev pub register_by : OneFile T → World → Drawer → Fate → Fate → Came (OneFile T)
    register_by s w d first second =
        drawn (λ l v. register_of l s.mode v second) (with_tickets s None) (cleared s s.tickets w first).world d (cleared s s.tickets w first).exchanges

    -- reregister: without tickets refused with 12, the poller not being asked
    abbrev pub reregister_by : OneFile T → Option T → World → Drawer → Fate → Came (OneFile T)
    reregister_by s None w d fate = came [] (refusal 12) s w d
    reregister_by s (Some t) w d fate = drawn (λ l v. reregister_of l s.mode v fate) s w d []

    abbrev pub Registers : OneFile T → World → Drawer → List Exchange → Answer → OneFile T → World → Drawer → Type 0
    Registers s w d xs r s' w' d' = (first : Fate) × (second : Fate) × (came xs r s' w' d' ≡ register_by s w d first second)

    abbrev pub Reregisters : OneFile T → World → Drawer → List Exchange → Answer → OneFile T → World → Drawer → Type 0
    Reregisters s w d xs r s' w' d' = (fate : Fate) × (came xs r s' w' d' ≡ reregister_by s s.tickets w d fate)

  -- UNREGISTERING

  -- the file was deleted from the poller, and the tickets are forgotten if that was accepted
  abbrev pub dropped : OneFile T → Come → Went (Unit {0}) (OneFile T)
  dropped s c = went c.exchanges c.answer (with_tickets s (left c.answer s.tickets)) c.world

  -- unregister: without tickets refused with 12, the poller not being asked
  abbrev pub unregister_by : OneFile T → Option T → World → Fate → Went (Unit {0}) (OneFile T)
  unregister_by s None w fate = went [] (refusal 12) s w
  unregister_by s (Some t) w fate = dropped s (unregister_of s.file w fate)

  abbrev pub Unregisters : OneFile T → World → List Exchange → Answer → OneFile T → World → Type 0
  Unregisters s w xs r s' w' = (fate : Fate) × (went xs r s' w' ≡ unregister_by s s.tickets w fate)
