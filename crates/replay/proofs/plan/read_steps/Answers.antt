use Rattle.std.proofs.Common.{◌≡◌, ◌-◌, [], ◌∷◌, length, take, drop, arith}
use Rattle.std.proofs.lemmas.Grind.{common_steps}
use Rattle.std.proofs.lemmas.List.{length-take}
use Rattle.replay.proofs.Steps.{step_shorter}
use Rattle.replay.proofs.Lists.{begin, step, finish, refused_none, refused_after, lists_none}
use Rattle.replay.proofs.plan.read_steps.Goals as goal

pub loop-step-smaller : goal.loop-step-smaller
loop-step-smaller c =
    let after = c.in-Some.after.now in
    omega (arith, step_shorter c.in-Some.step c.loop-step.rest.now after c.in-Some.ensures, length-take (length after - 1) (drop 1 after))

pub loop-step-init : goal.loop-step-init
loop-step-init c =
    begin c.args.text.now _ c.new-steps.ensures.items (λ e. grind (arith, common_steps))

pub loop-step-preserved : goal.loop-step-preserved
loop-step-preserved c =
    let after = c.in-Some.after.now in
    let b : after ≡ 32 ∷ take (length after - 1) (drop 1 after) = grind (arith, common_steps) in
    step c.args.text.now c.loop-step.rest.now _ c.in-Some.step after _ _ c.loop-step.invariant c.in-Some.ensures b c.in_ok-push.ensures.items

pub returns-in-41 : goal.returns-in-41
returns-in-41 c =
    let b : c.args.text.now ≡ 41 ∷ (41 ∷ []) = grind (arith, common_steps) in
    rw c.new-steps.ensures.items (lists_none c.args.text.now b)

pub returns-in-41-after : goal.returns-in-41-after
returns-in-41-after c =
    let after = c.in-Some.after.now in
    let b : after ≡ 41 ∷ (41 ∷ []) = grind (arith, common_steps) in
    finish c.args.text.now c.loop-step.rest.now _ c.in-Some.step after _ c.loop-step.invariant c.in-Some.ensures b c.in_ok-push.ensures.items

pub returns-in_default-after : goal.returns-in_default-after
returns-in_default-after c =
    refused_after c.args.text.now c.loop-step.rest.now _ c.in-Some.step c.in-Some.after.now c.loop-step.invariant c.in-Some.ensures
    (λ s e. grind (arith, common_steps))
    (λ e. grind (arith, common_steps))

pub returns : goal.returns
returns c = refused_none c.args.text.now c.loop-step.rest.now _ c.loop-step.invariant c.in_default-read_step.ensures
