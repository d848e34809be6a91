use Rattle.std.proofs.Common.{◌≡◌, ◌++◌, string_bytes}
use Rattle.filing.specs.Showing.{numbers_text}
use Rattle.filing.proofs.numbers.print_each.Given as goal

abbrev pub invariant-loop-number : goal.invariant-loop-number
invariant-loop-number g l = string_bytes l.text ≡ string_bytes l.initial.text ++ numbers_text l.yielded
