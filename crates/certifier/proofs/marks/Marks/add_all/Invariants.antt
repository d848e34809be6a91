use Rattle.std.proofs.Common.{◌≡◌, take, vec_items}
use Rattle.certifier.specs.Marking.{grown}
use Rattle.certifier.proofs.marks.Marks.add_all.Given as goal

abbrev pub invariant-loop-write : goal.invariant-loop-write
invariant-loop-write l =
    (l.self.places ≡ l.initial.self.places) × (vec_items l.self.rows ≡ grown l.initial.self.places (vec_items l.initial.self.rows) l.stamp (take l._write-index l.writes))
