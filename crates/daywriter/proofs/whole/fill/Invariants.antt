use Rattle.std.proofs.Common.{map, take, drop}
use Rattle.daywriter.specs.Stands.{wrote, writer}
use Rattle.daywriter.proofs.Runs.{Filling}
use Rattle.daywriter.proofs.whole.fill.Given as goal

abbrev pub invariant-loop-e : goal.invariant-loop-e
invariant-loop-e l = Filling l.initial.buf l.records (map wrote (take l.e-index l.entries)) (map wrote (drop l.e-index l.entries)) (writer l.progress l.buf)
