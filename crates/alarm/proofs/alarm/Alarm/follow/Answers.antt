use Rattle.std.proofs.Common.{rules, [], ◌∷◌}
use Rattle.sys.specs.World.{read}
use Rattle.alarm.proofs.alarm.Alarm.follow.Goals as goal

-- the clock was read; the two ends share no record that a lemma could take
pub returns-in-Some : goal.returns-in-Some
returns-in-Some g c = (read c.now.result ∷ [], search rules, (c.now.result, search rules))

pub returns-in-None : goal.returns-in-None
returns-in-None g c = (read c.now.result ∷ [], search rules, (c.now.result, search rules))
