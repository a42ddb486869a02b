-- Where one more item finds room.
use Rattle.std.specs.Prelude.{ℕ, ◌<◌, vec_len}
use Rattle.bounded.specs.declared.Bounded.{Bounded}

abbrev pub HasRoom : {T : Type 0} {n : ℕ} → Bounded T n → Type 0
HasRoom {n = n} l = vec_len l.items < n
