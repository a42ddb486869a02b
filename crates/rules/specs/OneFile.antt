-- A source with one file and, once it is registered, a key.
use Rattle.std.specs.Prelude.{ℕ, Bool, List, [], Option}
use Rattle.std.specs.Option.{option_map, option_to_list}
use Rattle.rules.specs.Meaning.{Held, Meaning}

abbrev pub under : ℕ → Option ℕ → List Held
under f k = option_to_list (option_map (λ n. record { file = f; key = n }) k)

abbrev pub own_files : ℕ → Option ℕ → List ℕ
own_files f k = option_to_list (option_map (λ n. f) k)

-- it holds the file under the key, and drew these keys
abbrev pub one_file_of : ℕ → Option ℕ → List ℕ → Bool → Meaning
one_file_of f k drew hooks = record { held = under f k; entered = own_files f k; drew = drew; counters = []; hooks = hooks }
