use Rattle.std.proofs.Common.{◌≡◌, ◌+◌, ◌++◌, map, drop, string_bytes}
use Rattle.sheet.specs.Faults.{told}
use Rattle.sheet.specs.Printing.{lines_text}
use Rattle.sheet.proofs.print.print_lines.Given as goal

abbrev pub invariant-loop-i : goal.invariant-loop-i
invariant-loop-i l =
    string_bytes l.text ++ lines_text (l.i + 1) (map told (drop l.i l.responses)) ≡ string_bytes l.initial.text ++ lines_text 1 (map told l.responses)
