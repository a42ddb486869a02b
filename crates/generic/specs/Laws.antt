-- An event of a Generic keeps the rules of source kinds.
use Rattle.std.specs.Prelude.{false, List, [], refl}
use Rattle.std.proofs.Common.{sym, ap, ◌∙◌, inl, inr}
use Rattle.std.proofs.lemmas.List.{append-nil}
use Rattle.std.proofs.lemmas.List.Elements.{All-nil}
use Rattle.token.specs.declared.token.Token.{Token}
use Rattle.token.specs.Refusal.{Outcome}
use Rattle.poller.specs.declared.entry.Readiness.{Readiness}
use Rattle.post_action.specs.declared.PostAction.{PostAction}
use Rattle.sys.specs.World.{Exchange, World}
use Rattle.rules.specs.Kinds.{Grown, Processing, Reads}
use Rattle.rules.specs.Meaning.{Meaning}
use Rattle.rules.specs.Refusals.{RefusedBy, by_event}
use Rattle.rules.proofs.Timers.{timers_same}
use Rattle.kinds.specs.declared.errand.Errand.{Errand}
use Rattle.one_file.specs.declared.one_file.OneFile.{OneFile}
use Rattle.one_file.specs.Calls.{meaning}
use Rattle.one_file.specs.Alone.{one_token}
use Rattle.generic.specs.declared.generic.Generic.{Generic}
use Rattle.generic.specs.Events.{Handled}

abbrev means : OneFile Token → Meaning
means f = meaning one_token f false

module _ {H : Type 0} (handles : H → Readiness → List Errand → Outcome PostAction → H → List Errand → Type 0)
    (law : (h : H) (x : Readiness) (es : List Errand) (r : Outcome PostAction) (h' : H) (es' : List Errand) → handles h x es r h' es' → Grown es es' × RefusedBy by_event r)
    (s : Generic H) (x : Readiness) (t : Token) (es : List Errand) (w : World) (xs : List Exchange) (r : Outcome PostAction) (s' : Generic H) (w' : World) (es' : List Errand) where
  pub processes_lawful : Handled handles s x t es w xs r s' w' es' → Processing (means s.file) w t es xs r (means s'.file) w' es'
  processes_lawful h = record {
    world = rw h.1 refl;
    asks = rw h.0 (All-nil Reads);
    same = elim h.2 [ inl o ↦ cc | inr o ↦ cc ];
    timers = timers_same _ [] w.wheel w'.wheel (ap (λ (v : World). v.wheel) h.1);
    errands = elim h.2 [ inl o ↦ (law s.handler x es r s'.handler es' o.handled).0 | inr o ↦ ([], o.errands ∙ sym (append-nil es)) ];
    refusals = elim h.2 [ inl o ↦ (law s.handler x es r s'.handler es' o.handled).1 | inr o ↦ rw o.answer tt ];
  }
