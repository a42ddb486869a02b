-- What a replay says: each answer that is not the stored one, and how many there were.
use Rattle.std.specs.Prelude.{ℕ, Bool, not, List, [], ◌++◌, codes, string_bytes, length, count_by, if◌then◌else◌}
use Rattle.std.specs.Fmt.{decimal}
use Rattle.std.specs.List.{flat_map}
use Rattle.std.specs.Str.{bytes_eq}
use Rattle.replay.specs.declared.report.Answered.{Answered}

abbrev pub differs : Answered → Bool
differs a = not (bytes_eq (string_bytes a.answer) (string_bytes a.stored))

-- the line for one answer, where it differs
abbrev pub difference_text : Answered → List ℕ
difference_text a =
    if differs a
    then codes "line " ++ decimal a.number ++ codes ": " ++ string_bytes a.answer ++ codes ", stored " ++ string_bytes a.stored ++ codes "\n"
    else []

abbrev pub differences_text : List Answered → List ℕ
differences_text xs = flat_map difference_text xs

-- the last line
abbrev pub counts_text : ℕ → ℕ → ℕ → List ℕ
counts_text scripts lines differences =
    decimal scripts ++ codes " scripts, " ++ decimal lines ++ codes " lines, " ++ decimal differences ++ codes " differences\n"

abbrev pub report_text : ℕ → List Answered → List ℕ
report_text scripts xs = differences_text xs ++ counts_text scripts (length xs) (count_by differs xs)
