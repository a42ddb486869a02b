use Rattle.std.proofs.Common.{◌≡◌, [], ◌∷◌, get_or, arith}
use Rattle.std.proofs.lemmas.Grind.{common_steps}
use Rattle.script.proofs.Unique.{the_form}
use Rattle.script.proofs.Lines.{generic_no_file, generic_no_end, generic_no_action, generic_read}
use Rattle.script.proofs.read_generic.Goals as goal

pub returns-in_err-file : goal.returns-in_err-file
returns-in_err-file c = rw c.from_residual.ensures (generic_no_file c.args.text.now c.in_err-file.ensures)

pub returns-in_default : goal.returns-in_default
returns-in_default c =
    generic_no_end c.args.text.now _ c.in_ok-file.rest.now c.in_ok-file.ensures
    (λ b e. grind (arith, common_steps))

pub returns-in_err-action : goal.returns-in_err-action
returns-in_err-action c =
    let rest = c.in_ok-file.rest.now in
    let b : rest ≡ 32 ∷ (get_or rest 1 0 ∷ (41 ∷ [])) = grind (arith, common_steps) in
    rw c.from_residual-in_err-action.ensures
    (generic_no_action c.args.text.now _ rest _ c.in_ok-file.ensures b c.in_err-action.ensures)

pub returns : goal.returns
returns c =
    let rest = c.in_ok-file.rest.now in
    let b : rest ≡ 32 ∷ (get_or rest 1 0 ∷ (41 ∷ [])) = grind (arith, common_steps) in
    the_form _ _ (generic_read c.args.text.now _ rest _ _ c.in_ok-file.ensures b c.in_ok-action.ensures)
