use Rattle.std.proofs.Common.{◌+◌, ◌*◌, get_or, ◌∙◌}
use Rattle.daywriter.specs.Writing.{over}
use Rattle.daywriter.proofs.Overs.{be_two, twos_more, below_at}
use Rattle.daywriter.proofs.put.put_list.Goals as goal

pub loop-i-preserved : goal.loop-i-preserved
loop-i-preserved c =
    let xs = c.args.xs.now in
    let i = c.loop-i.i in
    let two = c.to_be_bytes.ensures ∙ be_two (get_or xs i 0) (below_at 65536 xs i c.requires.small c.loop-i-test.true) in
    c.put.ensures ∙ (λ j. over (c.loop-i.invariant j) (c.args.at + 2 * i) (two j)) ∙ twos_more c.args.buf.now c.args.at xs i c.loop-i-test.true c.requires.room
