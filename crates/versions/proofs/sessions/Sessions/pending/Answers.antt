use Rattle.std.proofs.Common.{sym, ◌∙◌, subst, List}
use Rattle.store.specs.declared.Pending.{Pending}
use Rattle.versions.specs.Session.{Within}
use Rattle.versions.specs.Sessions.{records_of}
use Rattle.versions.proofs.Kepts.{session_pending}
use Rattle.versions.proofs.sessions.Sessions.pending.Goals as goal

pub returns-clause-within : goal.returns-clause-within
returns-clause-within g c =
    let a = c.args.self.now in
    let is = session_pending a c.args.console.number c.args.console.few c.index.result.now c.index.ensures in
    let P : List (Pending g.row.E.Denot) → Type 0 = λ ps. Within (records_of a) ps in
    subst P (is ∙ sym c.as_slice.ensures.value) (a.listed c.args.console.number)
