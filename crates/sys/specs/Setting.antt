-- What a setting makes of the bench poller, and what is left of it.
use Rattle.std.specs.Prelude.{vec_items, None}
use Rattle.std.specs.Option.{option_map, unwrap_or}
use Rattle.poller.specs.Bench.{BenchView}
use Rattle.sys.specs.declared.setting.Setting.{Setting}

-- the entries stay, and so does what the setting leaves out
abbrev pub set_by : Setting → BenchView → BenchView
set_by s v = record v { ready = unwrap_or (option_map vec_items s.ready) v.ready; steps = unwrap_or (option_map vec_items s.plan) v.steps }

-- files and steps were handed over, and the time stays
abbrev pub handed_over : Setting → Setting
handed_over s = record s { ready = None; plan = None }
