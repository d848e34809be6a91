use Rattle.std.proofs.Common.{ap, arith}
use Rattle.certifier.specs.Entries.{track_of}
use Rattle.certifier.specs.Logs.{log_state}
use Rattle.certifier.proofs.Steps.{low_le, commit_tells}
use Rattle.certifier.proofs.log.Log.commit.Goals as goal

pub add-requires : goal.add-requires
add-requires g c =
    let s = log_state g.S.Store.state c.args.self.now in
    let day = commit_tells s.store c.args.console _ _ c.in_ok-commit.ensures in
    let low = ap (λ x. x.low) c.judge-grant.ensures in
    let most = low_le s.marks c.saturating_add-stamp.result (track_of c.at-track.result.now).noted in
    omega (arith, c.clock.ensures, c.saturating_add-stamp.ensures)
