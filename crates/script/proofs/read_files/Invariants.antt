-- The text is a list just where the rest is one, of a file or more.
use Rattle.std.proofs.Common.{length, vec_items}
use Rattle.script.proofs.Files.{Progress}
use Rattle.script.proofs.read_files.Given as goal

abbrev pub invariant-loop-file : goal.invariant-loop-file
invariant-loop-file l = Progress l.text l.rest (vec_items l.files)

abbrev pub decreases-loop-file : goal.decreases-loop-file
decreases-loop-file l = length l.rest
