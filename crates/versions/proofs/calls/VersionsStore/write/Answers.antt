use Rattle.std.proofs.Common.{◌≡◌, sym, ap, ◌∙◌, rules, arith}
use Rattle.std.proofs.lemmas.Grind.{common_steps}
use Rattle.store.proofs.Pendings.{any_some, none_any}
use Rattle.versions.specs.Sessions.{consoles_of}
use Rattle.versions.proofs.Ids.{different, alike}
use Rattle.versions.proofs.Kepts.{held_here, not_there}
use Rattle.versions.proofs.Totals.{total_same, total_more}
use Rattle.versions.proofs.calls.VersionsStore.write.Goals as goal

pub returns-then-ne : goal.returns-then-ne
returns-then-ne g c =
    let a = c.args.self.now.sessions in
    let h = c.in-Some.hold in
    let f = c.in-Some.ensures in
    let test = different _ _ (sym c.if-ne.true ∙ c.ne.ensures) in
    let other : h.console.number ≡ c.in_ok-console.console.number → ⊥ = omega arith in
    let own = not_there a c.args.at h.console.number h.place f.0 f.1 c.in_ok-console.console.number other in
    let any = any_some (consoles_of a) c.args.at h.console.number (held_here a c.args.at h.console.number h.place f.0 f.1) in
    search rules

pub invariant_of-self-clause-used : goal.invariant_of-self-clause-used
invariant_of-self-clause-used g c =
    let h = c.in-Some.hold in
    let f = c.in-Some.ensures in
    let same = total_same c.args.at c.args.entry c.replace.ensures h.console.few (held_here c.args.self.now.sessions c.args.at h.console.number h.place f.0 f.1) in
    let room = c.args.self.now.used in
    omega arith

pub returns-then-not-admits : goal.returns-then-not-admits
returns-then-not-admits g c =
    let own = none_any (consoles_of c.args.self.now.sessions) c.args.at c.in_ok-console.console.number c.in-None.ensures in
    let old = ap (λ x. g.K.Kind.rules.admits x.stamp c.in_ok-began.began) (sym c.newest-newest.ensures) ∙ sym c.if-not-admits.ensures in
    search rules

pub returns-then-count-room : goal.returns-then-count-room
returns-then-count-room g c =
    let own = none_any (consoles_of c.args.self.now.sessions) c.args.at c.in_ok-console.console.number c.in-None.ensures in
    let new = ap (λ x. g.K.Kind.rules.admits x.stamp c.in_ok-began.began) (sym c.newest-newest.ensures) ∙ sym c.if-not-admits.ensures in
    grind (arith, common_steps)

pub invariant_of-self-in-None-clause-used : goal.invariant_of-self-in-None-clause-used
invariant_of-self-in-None-clause-used g c =
    let more = total_more c.args.at c.args.entry c.add.ensures c.in_ok-console.console.few c.in-None.ensures _ c.in_ok-began.ensures.1 in
    let room = c.args.self.now.used in
    omega arith

pub returns-else-ne : goal.returns-else-ne
returns-else-ne g c =
    let h = c.in-Some.hold in
    let f = c.in-Some.ensures in
    let own = held_here c.args.self.now.sessions c.args.at h.console.number h.place f.0 f.1 in
    let test = alike _ _ (sym c.if-ne.false ∙ c.ne.ensures) in
    let same : h.console.number ≡ c.in_ok-console.console.number = omega arith in
    search rules
