use Rattle.std.proofs.Common.{◌∙◌, ◌+◌, [], drop, rules, slice_index_or, subst}
use Rattle.std.proofs.lemmas.List.{drop_more}
use Rattle.sys.specs.Laws.{In}
use Rattle.kinds.specs.Events.{of_source}
use Rattle.model.specs.Course.{Takes}
use Rattle.model.specs.Dispatch.{shows_hooks}
use Rattle.model.proofs.Parts.{one_shown}
use Rattle.turns.proofs.Places.{in_at}
use Rattle.turns.proofs.inner.LoopInner.before_handle_events.Goals as goal

pub ask-requires-clause-fits : goal.ask-requires-clause-fits
ask-requires-clause-fits g c =
    let items = c.as_slice-token-items.result.now in
    let token = slice_index_or items c.loop-token.token-index (record { id = 0; version = 0; sub_id = 0 }) in
    c.loop-token.invariant.1 token ∙ c.args.self.now.listed token (subst (In token) c.as_slice-token-items.ensures.is (in_at items c.loop-token.token-index _ c.loop-token-test.true))

pub loop-token-preserved : goal.loop-token-preserved
loop-token-preserved g c =
    let kind = g.S.EventSource in
    let items = c.as_slice-token-items.result.now in
    let events = c.args.events.now in
    let xs = c.loop-token.sources in
    let token = slice_index_or items c.loop-token.token-index (record { id = 0; version = 0; sub_id = 0 }) in
    let later = drop (c.loop-token.token-index + 1) items in
    let split = drop_more items c.loop-token.token-index (record { id = 0; version = 0; sub_id = 0 }) c.loop-token-test.true in
    let a = c.ask.ensures.asked in
    let shown : kind.sees a.0 (of_source token events) a.1 = search rules in (
      c.ask.ensures.calm,
      λ u. c.ask.ensures.fits u ∙ c.loop-token.invariant.1 u,
      λ o k. c.loop-token.invariant.2 o (rw split (one_shown kind events token later xs a.0 a.1 [] o a.2 shown (subst (λ ys. Takes kind (shows_hooks events later ys) [] o) a.3 k))),
    )
