use Rattle.std.proofs.Common.{sym, ◌∙◌, arith}
use Rattle.sheet.proofs.Numbers.{too_large_from, value_done, is_number}
use Rattle.sheet.proofs.numeral.number.Goals as goal

pub returns-in_err-checked_mul : goal.returns-in_err-checked_mul
returns-in_err-checked_mul c =
    let large = too_large_from c.args.bytes.now c.loop-b.b-index c.loop-b.n (omega arith) (omega (arith, c.in_err-checked_mul.ensures)) c.loop-b.invariant.1 in
    rw c.from_residual.ensures large

pub returns-in_err-n : goal.returns-in_err-n
returns-in_err-n c =
    let large =
    too_large_from c.args.bytes.now c.loop-b.b-index c.loop-b.n (omega arith) (omega (arith, c.in_ok-checked_mul.ensures, c.in_err-n.ensures, c.from.ensures)) c.loop-b.invariant.1 in
    rw c.from_residual-in_err-n.ensures large

pub returns : goal.returns
returns c =
    is_number c.args.bytes.now c.loop-b.n c.if-not-all_digits.ensures c.if-spare_zero.ensures
    (sym (value_done c.args.bytes.now c.loop-b.b-index c.loop-b.n (omega arith)) ∙ c.loop-b.invariant.1) c.loop-b.invariant.0
