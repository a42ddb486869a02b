use Rattle.std.proofs.Common.{rules}
use Rattle.sys.proofs.Plain.{exchanged_then}
use Rattle.one_file.proofs.one_file.OneFile.register.Goals as goal

-- the two ends share no record that a lemma could take
pub returns-in_err-register : goal.returns-in_err-register
returns-in_err-register g c =
    let b = c.let_go.ensures in
    let e = c.in_err-register.ensures.plain in
    (_, exchanged_then g.P.Poller g.C.Clock b.1 e.exchanged, (b.2.0, e.fate, search rules))

pub returns : goal.returns
returns g c =
    let b = c.let_go.ensures in
    let e = c.in_ok-register.ensures.plain in
    (_, exchanged_then g.P.Poller g.C.Clock b.1 e.exchanged, (b.2.0, e.fate, search rules))
