-- The answers to lines, as printed.
use Rattle.std.specs.Prelude.{ℕ, Bool, true, false, List, [], ◌++◌, codes, Ok, Err, Result}
use Rattle.std.specs.Fmt.{decimal}
use Rattle.std.specs.List.{flat_map}
use Rattle.token.specs.declared.token.Token.{Token}
use Rattle.token.specs.Refusal.{Outcome, done, refused, number_of}
use Rattle.poller.specs.Meaning.{Answer}
use Rattle.loop_handle.specs.declared.handle.InsertError.{InsertError}
use Rattle.sheet.specs.declared.Line.{Line}
use Rattle.sheet.specs.Printed.{line_text}

-- a refusal by its number
abbrev pub refusal_text : ℕ → List ℕ
refusal_text n = codes "(no " ++ decimal n ++ codes ")"

-- the answer to an enable, an update or a disable
abbrev pub call_text : Answer → List ℕ
call_text (done u) = codes "(ok)"
call_text (refused n c) = refusal_text n

-- the answer to a remove: whether a source left
abbrev pub removal_text : Outcome Bool → List ℕ
removal_text (done true) = codes "(ok)"
removal_text (done false) = codes "(none)"
removal_text (refused n c) = refusal_text n

-- the token's id and version, or why the source came back
abbrev pub insert_text : {S : Type 0} → Result Token (InsertError S) → List ℕ
insert_text (Ok t) = codes "(ok " ++ decimal t.id ++ codes " " ++ decimal t.version ++ codes ")"
insert_text (Err e) = refusal_text (number_of e.error)

abbrev pub lines_text : List Line → List ℕ
lines_text ls = flat_map (λ l. codes " " ++ line_text l) ls

abbrev pub sheet_text : List Line → List ℕ
sheet_text ls = codes "(sheet" ++ lines_text ls ++ codes ")"

-- why a dispatch stopped, if it did
abbrev pub stop_text : Answer → List ℕ
stop_text (done u) = []
stop_text (refused n c) = codes " " ++ refusal_text n

-- the answer to a dispatch
abbrev pub dispatch_text : Answer → List Line → List ℕ
dispatch_text r ls = sheet_text ls ++ stop_text r
