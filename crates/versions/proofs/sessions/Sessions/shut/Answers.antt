use Rattle.std.proofs.Common.{rules, ◌-◌, None, refl, arith}
use Rattle.versions.proofs.Kepts.{session_room, session_count, clear_kept, shut_is}
use Rattle.versions.proofs.sessions.Sessions.shut.Goals as goal

pub overflow_sub-self : goal.overflow_sub-self
overflow_sub-self g c =
    let most = session_count c.args.self.now c.args.console.number c.args.console.few c.index_mut-session.result.now c.index_mut-session.ensures.value in
    omega arith

pub invariant_of-self : goal.invariant_of-self
invariant_of-self g c =
    let a = c.args.self.now in
    let k = c.args.console in
    let x = c.index_mut-session.result.now in
    let at = c.index_mut-session.ensures.value in
    let most = session_count a k.number k.few x at in
    let cap = session_room a k.number k.few x at in
    let kept = clear_kept a k.number k.few x at (record { began = None; pending = c.truncate.new.self }) (a.count - c.len.result) (omega (arith, c.truncate.ensures.capacity)) c.truncate.ensures.items (omega arith) in
    search rules

pub returns : goal.returns
returns g c =
    record { consoles = shut_is c.args.self.now c.args.console.number c.args.console.few c.index_mut-session.result.now c.index_mut-session.ensures.value _ refl; records = refl }
