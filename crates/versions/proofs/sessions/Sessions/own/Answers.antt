use Rattle.std.proofs.Common.{◌≡◌, get_or, Some, sym, ap, ◌∙◌}
use Rattle.store.specs.Meaning.{own_at}
use Rattle.store.specs.Consoles.{pend_at}
use Rattle.versions.specs.Sessions.{consoles_of}
use Rattle.store.proofs.Pendings.{own_none, none_any}
use Rattle.versions.proofs.Ids.{different, alike}
use Rattle.versions.proofs.Kepts.{own_here, not_there}
use Rattle.versions.proofs.sessions.Sessions.own.Goals as goal

pub returns-in_err-hold : goal.returns-in_err-hold
returns-in_err-hold g c =
    let cs = consoles_of c.args.self.now in
    let k = c.args.console.number in
    c.from_residual.ensures ∙ sym (own_none (pend_at cs k) c.args.at (none_any cs c.args.at k c.in_err-hold.ensures))

pub returns-then-ne : goal.returns-then-ne
returns-then-ne g c =
    let a = c.args.self.now in
    let h = c.in_ok-hold.hold in
    let f = c.in_ok-hold.ensures in
    sym (own_none (pend_at (consoles_of a) c.args.console.number) c.args.at (not_there a c.args.at h.console.number h.place f.0 f.1 c.args.console.number (different h.console.number c.args.console.number (sym c.if-ne.true ∙ c.ne.ensures))))

pub returns : goal.returns
returns g c =
    let a = c.args.self.now in
    let h = c.in_ok-hold.hold in
    let f = c.in_ok-hold.ensures in
    let same : h.console.number ≡ c.args.console.number = alike h.console.number c.args.console.number (sym c.if-ne.false ∙ c.ne.ensures) in
    let d = c.index-pending-hold.result in
    ap (λ qs. Some (get_or qs h.place d).entry) (c.pending-pending.ensures.value ∙ ap (pend_at (consoles_of a)) (sym same))
    ∙ sym (own_here a c.args.at h.console.number h.place f.0 f.1 d)
    ∙ ap (λ x. own_at (pend_at (consoles_of a) x) c.args.at) same
