-- WHO REFUSES WITH WHICH NUMBER. Each number belongs to one party, and a call of a source answers none of another's but what is handed on to it.
use Rattle.std.specs.Prelude.{◌≡◌, ℕ, Bool, true, ◌||◌, ◌==◌, List, [], ◌∷◌, is_some, Option}
use Rattle.token.specs.Refusal.{Outcome, done, refused}
use Rattle.poller.specs.Meaning.{Answer, among}
use Rattle.sys.specs.Laws.{In}
use Rattle.sys.specs.World.{Exchange, added, deleted, modified, read, waited}

-- 10, a source's own fault, and 14, a poller's, carry a code, and no others do
abbrev pub with_code : ℕ → Bool
with_code n = n == 10 || n == 14

-- the number is one of these, with a code where it carries one
abbrev pub OneOf : List ℕ → ℕ → Option ℕ → Type 0
OneOf ns n c = (among n ns ≡ true) × (is_some c ≡ with_code n)

-- a refusal, if it is one, by one of these numbers
abbrev pub RefusedBy : {T : Type 0} → List ℕ → Outcome T → Type 0
RefusedBy ns (done x) = Unit {0}
RefusedBy ns (refused n c) = OneOf ns n c

-- WHAT IS HANDED ON

-- what was answered in an exchange
abbrev pub answered : Exchange → Answer
answered (added q r) = r
answered (modified q r) = r
answered (deleted f r) = r
answered (waited t r vs) = r
answered (read n) = done tt

-- These are the poller's own words alone. 12 a source answers too, for a file that it has not registered.
abbrev pub from_poller : List ℕ
from_poller = 11 ∷ 13 ∷ 14 ∷ []

-- a refusal by one of them was answered by the poller in this call
abbrev pub HandedOn : List Exchange → Answer → Type 0
HandedOn xs (done u) = Unit {0}
HandedOn xs (refused n c) = among n from_poller ≡ true → (x : Exchange) × In x xs × (answered x ≡ refused n c)

-- WHAT EACH CALL OF A SOURCE MAY BE REFUSED WITH

-- register and reregister: its tokens are spent (8), its own fault, the poller's answers to add, modify and delete (11 to 14) and
-- to a mode (21), and what is full there: the timers (16, 17) and the level table (20)
abbrev pub by_registration : List ℕ
by_registration = 8 ∷ 10 ∷ 11 ∷ 12 ∷ 13 ∷ 14 ∷ 16 ∷ 17 ∷ 20 ∷ 21 ∷ []

-- unregister, which only deletes
abbrev pub by_unregister : List ℕ
by_unregister = 10 ∷ 12 ∷ 14 ∷ []

-- an event: a ninth errand (9), its own fault, and the timers
abbrev pub by_event : List ℕ
by_event = 9 ∷ 10 ∷ 16 ∷ 17 ∷ []

-- a hook: its own fault alone
abbrev pub by_hook : List ℕ
by_hook = 10 ∷ []
