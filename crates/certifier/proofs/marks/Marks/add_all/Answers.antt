use Rattle.std.proofs.Common.{◌≡◌, vec_items, rules}
use Rattle.certifier.specs.Marking.{add_row}
use Rattle.certifier.proofs.Folds.{next_turn}
use Rattle.certifier.proofs.marks.Marks.add_all.Goals as goal
use Rattle.certifier.proofs.marks.Marks.add_all.Goals.{then-len-self, else-len-self}

pub loop-write-preserved : goal.loop-write-preserved
loop-write-preserved c =
    let same : vec_items c.if-len-self.self.rows ≡ add_row c.args.self.now.places (vec_items c.loop-write.self.rows) c.args.stamp = elim c.if-len-self.branch [ then-len-self w ↦ search rules | else-len-self w ↦ search rules ] in (
      elim c.if-len-self.branch [ then-len-self w ↦ search rules | else-len-self w ↦ search rules ],
      next_turn (λ rows w. add_row c.args.self.now.places rows c.args.stamp) (vec_items c.args.self.now.rows) c.args.writes.now c.loop-write._write-index (record { at = 0; version = 0 }) (vec_items c.loop-write.self.rows) (vec_items c.if-len-self.self.rows) (search rules) c.loop-write.invariant.1 same,
    )
