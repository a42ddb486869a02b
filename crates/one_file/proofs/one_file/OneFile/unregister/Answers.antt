use Rattle.std.proofs.Common.{rules, [], Ok}
use Rattle.one_file.proofs.one_file.OneFile.unregister.Goals as goal

-- The poller was not asked, so any fate will do, and the search names none; each call has a goal of its own.
pub returns-then-is_none : goal.returns-then-is_none
returns-then-is_none g c = ([], search rules, (Ok tt, search rules))
