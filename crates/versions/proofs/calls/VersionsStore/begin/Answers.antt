use Rattle.std.proofs.Common.{arith}
use Rattle.versions.proofs.Totals.{total}
use Rattle.versions.proofs.calls.VersionsStore.begin.Goals as goal

pub invariant_of-self-clause-used : goal.invariant_of-self-clause-used
invariant_of-self-clause-used g c =
    let more = total c.open.ensures c.in_ok-console.console.few in
    let room = c.args.self.now.used in
    omega arith
