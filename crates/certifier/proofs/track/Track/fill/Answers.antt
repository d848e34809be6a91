use Rattle.std.proofs.Common.{ℕ, List, length, get_or, set, ap, ◌∙◌, arith}
use Rattle.certifier.specs.declared.Over.{Over}
use Rattle.certifier.proofs.Fills.{fill_turn}
use Rattle.certifier.proofs.track.Track.fill.Goals as goal

pub loop-i-preserved : goal.loop-i-preserved
loop-i-preserved c =
    let xs = c.as_slice-writes.result.now in
    let none : Over = record { at = 0; version = 0 } in
    ap (λ (ys : List ℕ). set ys c.loop-i.i (get_or xs c.loop-i.i none).version) c.loop-i.invariant
    ∙ fill_turn xs c.args.list.now c.loop-i.i none c.loop-i-test.true (omega (arith, ap length c.as_slice-writes.ensures, c.requires))
