use Rattle.std.proofs.Common.{◌≡◌, map, drop}
use Rattle.daywriter.specs.Files.{taken_all, check_all}
use Rattle.daywriter.specs.Stands.{wrote, extent_of}
use Rattle.daywriter.proofs.whole.check_all.Given as goal

abbrev pub invariant-loop-e : goal.invariant-loop-e
invariant-loop-e l = taken_all l.room (extent_of l.progress) (map wrote (drop l.e-index l.entries)) ≡ check_all l.room l.records (map wrote l.entries)
