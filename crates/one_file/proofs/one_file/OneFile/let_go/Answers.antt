use Rattle.std.proofs.Common.{rules, [], Ok}
use Rattle.one_file.proofs.one_file.OneFile.let_go.Goals as goal

-- The poller was not asked, so any fate will do, and the search names none; each call has a goal of its own.
pub returns-else-is_some : goal.returns-else-is_some
returns-else-is_some g c = ([], search rules, (Ok tt, search rules))
