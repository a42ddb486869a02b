-- The calls of a source one after the other.
use Rattle.std.proofs.Common.{List, ◌++◌}
use Rattle.poller.specs.Meaning.{Answer}
use Rattle.sys.specs.Laws.{Wakeful}
use Rattle.sys.specs.World.{Exchange, World}
use Rattle.rules.specs.Kinds.{Free, LettingGo, Registering, Unregistering}
use Rattle.rules.specs.Meaning.{Drawer, Drawn, Meaning, Nothing}
use Rattle.rules.proofs.Files.{keeps_same, keeps_then}
use Rattle.rules.proofs.Steps.{reaches_then}
use Rattle.kinds_tests.specs.Leftovers.{Agreeing, OnlyStuckJoin, unarmed}
use Rattle.kinds_tests.proofs.Disarmed.{keeps_disarmed, keeps_free}

-- unregistered, and then let go: a letting go in all
pub given_up : (m m' m'' : Meaning) (w w' w'' : World) (xs ys : List Exchange) (r : Answer)
    → Unregistering m w xs r m' w' → LettingGo m' w' ys m'' w'' → LettingGo m w (xs ++ ys) m'' w''
given_up m m' m'' w w' w'' xs ys r u l = record {
  reaches = reaches_then Nothing m m' m'' w w' w'' xs ys u.reaches l.reaches;
  drew = λ k i. u.drew k (l.drew k i);
  free = l.free;
}

module _ (m m' m'' : Meaning) (d d' : Drawer) (xs ys : List Exchange) (r : Answer) where
  -- registered, and then given up
  pub registered_then : (w w' w'' : World) → Registering m w d xs r m' w' d' → LettingGo m' w' ys m'' w'' → Free m → OnlyStuckJoin w.entries w''.entries
  registered_then w w' w'' a b free =
      let D = Drawn d d' in
      let whole = keeps_then D Nothing D m.held m'.held m''.held m.entered m'.entered m''.entered w.entries w'.entries w''.entries (λ k f. f) (λ k f. absurd f) a.reaches.files b.reaches.files in
      keeps_free D m.held m''.held m.entered m''.entered w.entries w''.entries free.held free.entered b.free.entered whole

  -- a wait between the two
  pub waited_then : (w v v' w' : World) → Registering m w d xs r m' v d' → Wakeful v.entries v.lines v'.entries v'.lines → LettingGo m' v' ys m'' w' → Free m
      → Agreeing w → OnlyStuckJoin (unarmed w) (unarmed w')
  waited_then w v v' w' a wait b free ok =
      let D = Drawn d d' in
      let one = keeps_disarmed D m.held m'.held m.entered m'.entered w.entries v.entries a.reaches.files in
      let two = keeps_same D m'.held m'.entered (unarmed v) (unarmed v') (wait.same (a.reaches.level ok)) in
      let three = keeps_disarmed Nothing m'.held m''.held m'.entered m''.entered v'.entries w'.entries b.reaches.files in
      let start = keeps_then D D D m.held m'.held m'.held m.entered m'.entered m'.entered _ _ _ (λ k f. f) (λ k f. f) one two in
      let whole = keeps_then D Nothing D m.held m'.held m''.held m.entered m'.entered m''.entered _ _ _ (λ k f. f) (λ k f. absurd f) start three in
      keeps_free D m.held m''.held m.entered m''.entered _ _ free.held free.entered b.free.entered whole
