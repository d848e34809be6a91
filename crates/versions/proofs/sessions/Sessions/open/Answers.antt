use Rattle.std.proofs.Common.{rules, Some, length, sym, refl, ap, ◌∙◌, arith}
use Rattle.store.specs.Meaning.{pending_list}
use Rattle.versions.proofs.Kepts.{session_pending, session_room, clear_kept, open_is}
use Rattle.versions.proofs.sessions.Sessions.open.Goals as goal

pub invariant_of-self : goal.invariant_of-self
invariant_of-self g c =
    let a = c.args.self.now in
    let k = c.args.console in
    let x = c.index_mut.result.now in
    let at = c.index_mut.ensures.value in
    let none = sym (session_pending a k.number k.few x at) ∙ ap pending_list c.requires in
    let kept = clear_kept a k.number k.few x at (record { began = Some c.args.stamp; pending = x.pending }) a.count (session_room a k.number k.few x at) none (let z = ap length none in omega arith) in
    search rules

pub returns : goal.returns
returns g c =
    let a = c.args.self.now in
    let k = c.args.console in
    let x = c.index_mut.result.now in
    let at = c.index_mut.ensures.value in
    let none = sym (session_pending a k.number k.few x at) ∙ ap pending_list c.requires in
    record { consoles = open_is a k.number k.few x at _ c.args.stamp refl none; records = refl }
