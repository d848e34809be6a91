use Rattle.std.proofs.Common.{rules, refl}
use Rattle.std.specs.Vec.{with_item}
use Rattle.versions.proofs.Kepts.{session_room, replace_kept, replace_is}
use Rattle.versions.proofs.sessions.Sessions.replace.Goals as goal

pub invariant_of-self : goal.invariant_of-self
invariant_of-self g c =
    let a = c.args.self.now in
    let k = c.args.hold.console in
    let x = c.index_mut.result.now in
    let at = c.index_mut.ensures.value in
    let kept = replace_kept a k.number k.few x at (record { began = x.began; pending = with_item x.pending c.args.hold.place (record { at = c.args.at; entry = c.args.entry }) }) c.args.at c.args.hold.place c.args.entry refl refl c.requires.0 c.requires.1 (session_room a k.number k.few x at) in
    search rules

pub returns : goal.returns
returns g c =
    let a = c.args.self.now in
    let k = c.args.hold.console in
    record { consoles = replace_is a k.number k.few c.index_mut.result.now c.index_mut.ensures.value _ c.args.at c.args.hold.place c.args.entry refl refl c.requires.0 c.requires.1; records = refl }
