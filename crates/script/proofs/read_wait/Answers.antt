use Rattle.std.proofs.Common.{◌≡◌, ℕ, ◌-◌, List, ◌∷◌, ◌++◌, length, take, drop, codes, Option, Some, None, MatchOption, Vec, Global, arith, rules}
use Rattle.std.proofs.lemmas.Grind.{common_steps}
use Rattle.script.specs.Number.{Number}
use Rattle.script.specs.Line.{Lists, NoList, Reading}
use Rattle.std.specs.Option.{option_map}
use Rattle.script.specs.declared.Form.TheVariants.{Wait}
use Rattle.script.proofs.Unique.{the_form}
use Rattle.script.proofs.Lines.{wait_no_clock, wait_no_open, wait_no_list, wait_read}
use Rattle.script.proofs.read_wait.Goals as goal

pub returns-in_default : goal.returns-in_default
returns-in_default c = wait_no_clock c.args.text.now c.in_default.ensures

pub returns-in_default-rest : goal.returns-in_default-rest
returns-in_default-rest c =
    wait_no_open c.args.text.now _ c.in-Some.rest.now c.in-Some.ensures
    (λ s e. grind (arith, common_steps))

wait_answer : (text : List ℕ) (m : ℕ) (rest more : List ℕ) → Number 64 text m rest → rest ≡ 32 ∷ (40 ∷ more) → (o : Option (Vec ℕ Global)) → MatchOption o (NoList more) (λ files. Lists files.items more) → Reading (codes "(W " ++ text) (option_map (λ files. Wait m files) o)
wait_answer text m rest more q e None l = wait_no_list text m rest more q e l
wait_answer text m rest more q e (Some files) l = the_form _ _ (wait_read text m rest more files.items q e l)

pub returns : goal.returns
returns c =
    let e : c.map.result ≡ option_map (λ files. Wait c.in-Some.clock files) c.in_ok-read_files.field-0 = search rules in
    let rest = c.in-Some.rest.now in
    let b : rest ≡ 32 ∷ (40 ∷ take (length rest - 2) (drop 2 rest)) = grind (arith, common_steps) in
    rw e (wait_answer c.args.text.now _ rest _ c.in-Some.ensures b _ c.in_ok-read_files.ensures)
