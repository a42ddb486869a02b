-- The lines of a sheet, and how they are printed.
use Rattle.std.specs.Prelude.{ℕ, List, ◌++◌, codes}
use Rattle.std.specs.Fmt.{decimal}
use Rattle.token.specs.Key.{key_of}
use Rattle.sys.specs.Event.{letter_of}
use Rattle.sys.specs.declared.event.PollEvent.{PollEvent}
use Rattle.sheet.specs.declared.Verdict.{Verdict}
use Rattle.sheet.specs.declared.Verdict.TheVariants.{Delivered, Stale, Lost}
use Rattle.sheet.specs.declared.Line.{Line}

-- the line of an event
abbrev pub line_of : Verdict → PollEvent → Line
line_of v e = record { class = e.class; key = key_of e.token; verdict = v }

abbrev pub verdict_letter : Verdict → List ℕ
verdict_letter Delivered = codes "d"
verdict_letter Stale = codes "s"
verdict_letter Lost = codes "l"

-- class, key and verdict, in parentheses
abbrev pub line_text : Line → List ℕ
line_text l = codes "(" ++ letter_of l.class ++ codes " " ++ decimal l.key ++ codes " " ++ verdict_letter l.verdict ++ codes ")"
