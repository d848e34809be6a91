use Rattle.std.proofs.Common.{rules, ◌≤◌, length, vec_items, vec_capacity, refl, arith}
use Rattle.std.proofs.lemmas.List.{length-set}
use Rattle.versions.proofs.Kepts.{session_room, session_count, session_short, add_kept, add_is}
use Rattle.versions.proofs.sessions.Sessions.add.Goals as goal

pub overflow_cast-place : goal.overflow_cast-place
overflow_cast-place g c =
    let most = session_count c.args.self.now c.args.console.number c.args.console.few c.index_mut-session.result.now c.index_mut-session.ensures.value in
    omega arith

pub push_reserved-requires : goal.push_reserved-requires
push_reserved-requires g c =
    let a = c.args.self.now in
    let k = c.args.console in
    let x = c.index_mut-session.result.now in
    let at = c.index_mut-session.ensures.value in
    let short = session_short a k.number k.few x at c.args.at c.requires.within c.requires.free in
    let cap = session_room a k.number k.few x at in
    omega arith

pub invariant_of-self : goal.invariant_of-self
invariant_of-self g c =
    let a = c.args.self.now in
    let k = c.args.console in
    let x = c.index_mut-session.result.now in
    let at = c.index_mut-session.ensures.value in
    let cap = session_room a k.number k.few x at in
    let long : length (vec_items a.holds) ≤ vec_capacity c.push_reserved.new.self = omega arith in
    let kept = add_kept a k.number k.few x at (record { began = x.began; pending = c.push_reserved.new.self }) c.args.at c.args.entry refl c.push_reserved.ensures.items c.requires.free c.requires.within c.requires.live long
    (record { console = k; place = c.len-place.result }) refl (omega arith) in
    search rules

pub returns : goal.returns
returns g c =
    let a = c.args.self.now in
    let k = c.args.console in
    record {
      consoles = add_is a k.number k.few c.index_mut-session.result.now c.index_mut-session.ensures.value _ c.args.at c.args.entry refl c.push_reserved.ensures.items c.requires.free;
      records = length-set (vec_items a.holds) c.args.at _;
    }
