use Rattle.std.proofs.Common.{length, sym, ap, ◌∙◌, arith}
use Rattle.store.specs.Meaning.{pending_in}
use Rattle.store.proofs.Lists.{firsts_long}
use Rattle.versions.proofs.Starts.{shut_total}
use Rattle.versions.proofs.calls.VersionsStore.open.Goals as goal

pub invariant_of-result-clause-alike : goal.invariant_of-result-clause-alike
invariant_of-result-clause-alike g c = c.in_ok-sessions.ensures.1 ∙ sym (ap length c.in_ok-table.ensures.0 ∙ firsts_long c.args.first 0 c.in_ok-size.size.records)

pub invariant_of-result-clause-used : goal.invariant_of-result-clause-used
invariant_of-result-clause-used g c =
    let table = c.in_ok-table.ensures in
    let none = ap pending_in c.in_ok-sessions.ensures.0 ∙ shut_total g.row.E.Denot 16 in
    let fits = c.in_ok-size.size.ranges in
    omega (arith, table.3, table.1)
