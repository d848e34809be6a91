use Rattle.std.proofs.Common.{length, arith}
use Rattle.daywriter.specs.Stands.{wrote, extent_of}
use Rattle.daywriter.proofs.Runs.{taken_bytes}
use Rattle.daywriter.proofs.state.Progress.put.Goals as goal

pub put_entry-requires-clause-fits : goal.put_entry-requires-clause-fits
put_entry-requires-clause-fits c =
    let p = c.args.self.now in
    taken_bytes (length c.args.buf.now) (extent_of p) (wrote c.args.e.now) (omega (arith, p.short)) (omega (arith, p.short, p.bounded)) c.requires
