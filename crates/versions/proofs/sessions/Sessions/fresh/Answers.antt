use Rattle.std.proofs.Common.{◌≡◌, ℕ, ◌+◌, List, length, None, vec_items, sym, refl, ap, subst, arith}
use Rattle.versions.specs.declared.session.Session.{Session}
use Rattle.versions.specs.Session.{Reserved}
use Rattle.versions.proofs.Starts.{Shutting, shutting_more, shut_records, shut_none}
use Rattle.versions.proofs.sessions.Sessions.fresh.Goals as goal

pub loop-console-preserved : goal.loop-console-preserved
loop-console-preserved g c =
    let v = c.in_ok-pending.pending in
    let m = c.in_ok-pending.ensures in
    let p = c.push_reserved.ensures in
    let cap = c.loop-console.invariant.1 in
    let P : List (Session g.row.E.Denot) → Type 0 = λ ds. Shutting c.from-records.result ds (c.loop-console._console + 1) in (
      subst P (sym p.items) (shutting_more c.from-records.result (vec_items c.loop-console.sessions) c.loop-console._console (record { began = None; pending = v }) c.loop-console.invariant.0 refl m.items m.capacity),
      omega (arith, p.capacity),
    )

pub invariant_of-result : goal.invariant_of-result
invariant_of-result g c =
    let ds = vec_items c.loop-console.sessions in
    let n = c.loop-console._console in
    let s = c.loop-console.invariant.0 in
    let long = s.long in
    let end = c.loop-console.auto in
    let records : c.from-records.result ≡ length (vec_items c.in_ok-holds.holds) = omega (arith, c.in_ok-holds.ensures.len) in
    let none = λ (k : ℕ). ap length (shut_records c.from-records.result ds n k s) in
    let R : ℕ → Type 0 = λ n. Reserved n ds in
    record {
      sixteen = omega arith;
      reserved = subst R records s.reserved;
      empty = s.empty;
      listed = λ k j d h. let z = none k in absurd (omega arith);
      held = λ k j h. let z = none k in absurd (omega arith);
      placed = λ k j h. let z = none k in absurd (omega arith);
      counted = sym (shut_none c.from-records.result ds n s);
    }
