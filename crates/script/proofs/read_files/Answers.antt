use Rattle.std.proofs.Common.{◌≡◌, ◌-◌, [], ◌∷◌, length, take, drop, arith}
use Rattle.std.proofs.lemmas.Grind.{common_steps}
use Rattle.std.proofs.lemmas.List.{length-take}
use Rattle.script.proofs.Reading.{rest_shorter}
use Rattle.script.proofs.Files.{begin, step, finish, refused_none, refused_after, lists_none}
use Rattle.script.proofs.read_files.Goals as goal

pub loop-file-smaller : goal.loop-file-smaller
loop-file-smaller c =
    let after = c.in-Some.after.now in
    omega (arith, rest_shorter c.loop-file.rest.now c.in-Some.file after c.in-Some.ensures, length-take (length after - 1) (drop 1 after))

pub loop-file-init : goal.loop-file-init
loop-file-init c =
    begin c.args.text.now _ c.new-files.ensures.items (λ e. grind (arith, common_steps))

pub loop-file-preserved : goal.loop-file-preserved
loop-file-preserved c =
    let after = c.in-Some.after.now in
    let b : after ≡ 32 ∷ take (length after - 1) (drop 1 after) = grind (arith, common_steps) in
    step c.args.text.now c.loop-file.rest.now _ c.in-Some.file after _ _ c.loop-file.invariant c.in-Some.ensures b c.in_ok-push.ensures.items

pub returns-in-41 : goal.returns-in-41
returns-in-41 c =
    let b : c.args.text.now ≡ 41 ∷ (41 ∷ []) = grind (arith, common_steps) in
    rw c.new-files.ensures.items (lists_none c.args.text.now b)

pub returns-in-41-after : goal.returns-in-41-after
returns-in-41-after c =
    let after = c.in-Some.after.now in
    let b : after ≡ 41 ∷ (41 ∷ []) = grind (arith, common_steps) in
    finish c.args.text.now c.loop-file.rest.now _ c.in-Some.file after _ c.loop-file.invariant c.in-Some.ensures b c.in_ok-push.ensures.items

pub returns-in_default-after : goal.returns-in_default-after
returns-in_default-after c =
    refused_after c.args.text.now c.loop-file.rest.now _ c.in-Some.file c.in-Some.after.now c.loop-file.invariant c.in-Some.ensures
    (λ s e. grind (arith, common_steps))
    (λ e. grind (arith, common_steps))

pub returns : goal.returns
returns c = refused_none c.args.text.now c.loop-file.rest.now _ c.loop-file.invariant c.in_default-read_file.ensures
