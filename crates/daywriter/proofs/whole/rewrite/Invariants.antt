use Rattle.dayfile.specs.Said.{shape_of, walk_of}
use Rattle.daywriter.specs.Stands.{writer}
use Rattle.daywriter.proofs.Runs.{Copied}
use Rattle.daywriter.proofs.whole.rewrite.Given as goal

abbrev pub invariant-loop-e : goal.invariant-loop-e
invariant-loop-e l = Copied l.initial.buf (shape_of l.file) (writer l.progress l.buf) (walk_of l.e-iterator)
