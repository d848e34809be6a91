use Rattle.std.proofs.Common.{◌≡◌, ◌≤◌, drop}
use Rattle.sheet.specs.Numerals.{value_from}
use Rattle.sheet.proofs.numeral.number.Given as goal

abbrev pub invariant-loop-b : goal.invariant-loop-b
invariant-loop-b l = (l.n ≤ 4294967295) × (value_from l.n (drop l.b-index l.bytes) ≡ value_from 0 l.bytes)
