use Rattle.std.proofs.Common.{◌≡◌, take}
use Rattle.dayfile.specs.Format.{twos}
use Rattle.daywriter.specs.Writing.{over}
use Rattle.daywriter.proofs.put.put_list.Given as goal

abbrev pub invariant-loop-i : goal.invariant-loop-i
invariant-loop-i l = l.buf ≡ over l.initial.buf l.at (twos (take l.i l.xs))
