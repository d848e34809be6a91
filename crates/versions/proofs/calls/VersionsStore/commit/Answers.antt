use Rattle.std.proofs.Common.{length, ap, arith}
use Rattle.store.proofs.Pendings.{pending_part}
use Rattle.versions.specs.Sessions.{consoles_of}
use Rattle.versions.proofs.Totals.{total}
use Rattle.versions.proofs.calls.VersionsStore.commit.Goals as goal

pub append-requires-clause-room : goal.append-requires-clause-room
append-requires-clause-room g c =
    let v = c.args.self.now in
    let few = ap length c.pending-pending.ensures.value in
    let part = pending_part (consoles_of v.sessions) c.in_ok-console.console.number in
    let room = v.used in
    omega arith

pub invariant_of-self-2-clause-used : goal.invariant_of-self-2-clause-used
invariant_of-self-2-clause-used g c =
    let few = ap length c.pending-pending.ensures.value in
    let fewer = total c.shut.ensures c.in_ok-console.console.few in
    let more = c.append.ensures in
    let room = c.args.self.now.used in
    omega (arith, more.next, more.room)
