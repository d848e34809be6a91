use Rattle.std.proofs.Common.{◌≡◌, take, vec_items}
use Rattle.certifier.specs.Marking.{low_mark, top_stamp}
use Rattle.certifier.proofs.marks.Marks.weigh.Given as goal

abbrev pub invariant-loop-n : goal.invariant-loop-n
invariant-loop-n l =
    (l.low ≡ low_mark (vec_items l.self.rows) l.stamp (take l.n-index l.noted)) × (l.high ≡ top_stamp (vec_items l.self.rows) 0 (take l.n-index l.noted))
