-- What one call of a source comes to: its answer, and all that it leaves.
use Rattle.std.specs.Prelude.{List}
use Rattle.token.specs.Refusal.{Outcome}
use Rattle.poller.specs.Meaning.{Answer}
use Rattle.sys.specs.World.{Exchange, World}
use Rattle.rules.specs.Meaning.{Drawer}

-- the answer of a call, a T or a refusal; the source and the polling system after it; and what was asked of poller and clock
pub record Went (T S : Type 0) : Type 0 where
  pub answer : Outcome T
  pub source : S
  pub world : World
  pub exchanges : List Exchange

-- The same of a call with a factory. A record of its own: of a `Went` beside a factory each clause would read two values where it reads one.
pub record Came (S : Type 0) : Type 0 where
  pub answer : Answer
  pub source : S
  pub world : World
  pub drawer : Drawer
  pub exchanges : List Exchange

abbrev pub went : {T S : Type 0} → List Exchange → Outcome T → S → World → Went T S
went xs r s w = record { answer = r; source = s; world = w; exchanges = xs }

abbrev pub came : {S : Type 0} → List Exchange → Answer → S → World → Drawer → Came S
came xs r s w d = record { answer = r; source = s; world = w; drawer = d; exchanges = xs }
