-- The entries of a table, by place.
use Rattle.std.specs.Prelude.{ℕ, List, vec_items, position, Option, ◌==◌}
use Rattle.poller.specs.declared.entry.Entry.{Entry}
use Rattle.poller.specs.declared.table.Table.{Table}

-- a function and no model: the pollers' laws read that files are distinct, and entries few
abbrev pub entries_of : {n : ℕ} → Table n → List Entry
entries_of t = vec_items t.entries.items

-- where the file's entry stands
abbrev pub place_of : ℕ → List Entry → Option ℕ
place_of f es = position (λ e. e.file == f) es
