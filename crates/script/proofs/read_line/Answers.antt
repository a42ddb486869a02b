-- The four calls on an insert: what the number makes of the line.
use Rattle.std.proofs.Common.{◌≡◌, ℕ, ◌-◌, List, ◌∷◌, ◌++◌, length, take, drop, codes, Option, Some, None, MatchOption, refl, arith, rules}
use Rattle.std.proofs.lemmas.Grind.{common_steps}
use Rattle.std.specs.Option.{option_map}
use Rattle.script.specs.Line.{Call, enable, update, disable, remove, call, call_letter, plain, Reading, Last, NoLast}
use Rattle.script.specs.declared.Form.{Form}
use Rattle.script.specs.declared.Form.TheVariants as form
use Rattle.script.proofs.Unique.{the_form}
use Rattle.script.proofs.Lines.{call_no_insert, call_read}
use Rattle.script.proofs.read_line.Goals as goal

call_answer : (k : Call) (make : ℕ → Form) → ((n : ℕ) → plain (make n) ≡ call k n) → (text : List ℕ) (o : Option ℕ) → MatchOption o (NoLast text) (λ n. Last n text) → Reading (codes "(" ++ (call_letter k ∷ (codes " " ++ text))) (option_map make o)
call_answer k make is text None h = call_no_insert k text h
call_answer k make is text (Some n) q = rw (is n) (the_form _ _ (call_read k text n q))

pub returns-in-E-clause-reads : goal.returns-in-E-clause-reads
returns-in-E-clause-reads c =
    let line = c.args.line.now in
    let b : line ≡ 40 ∷ (69 ∷ (32 ∷ take (length line - 3) (drop 3 line))) = grind (arith, common_steps) in
    let e : c.map.result ≡ option_map form.Enable c.read_last.result = search rules in
    rw (b, e) (call_answer enable form.Enable (λ n. refl) _ c.read_last.result c.read_last.ensures)

pub returns-in-U-clause-reads : goal.returns-in-U-clause-reads
returns-in-U-clause-reads c =
    let line = c.args.line.now in
    let b : line ≡ 40 ∷ (85 ∷ (32 ∷ take (length line - 3) (drop 3 line))) = grind (arith, common_steps) in
    let e : c.map-in-U.result ≡ option_map form.Update c.read_last-in-U.result = search rules in
    rw (b, e) (call_answer update form.Update (λ n. refl) _ c.read_last-in-U.result c.read_last-in-U.ensures)

pub returns-in-D-clause-reads : goal.returns-in-D-clause-reads
returns-in-D-clause-reads c =
    let line = c.args.line.now in
    let b : line ≡ 40 ∷ (68 ∷ (32 ∷ take (length line - 3) (drop 3 line))) = grind (arith, common_steps) in
    let e : c.map-in-D.result ≡ option_map form.Disable c.read_last-in-D.result = search rules in
    rw (b, e) (call_answer disable form.Disable (λ n. refl) _ c.read_last-in-D.result c.read_last-in-D.ensures)

pub returns-in-R-clause-reads : goal.returns-in-R-clause-reads
returns-in-R-clause-reads c =
    let line = c.args.line.now in
    let b : line ≡ 40 ∷ (82 ∷ (32 ∷ take (length line - 3) (drop 3 line))) = grind (arith, common_steps) in
    let e : c.map-in-R.result ≡ option_map form.Remove c.read_last-in-R.result = search rules in
    rw (b, e) (call_answer remove form.Remove (λ n. refl) _ c.read_last-in-R.result c.read_last-in-R.ensures)
