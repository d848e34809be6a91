use Rattle.std.proofs.Common.{◌≡◌, false, sym, ap, ◌∙◌, rules}
use Rattle.std.proofs.lemmas.Result.{err_from_is_err_and}
use Rattle.store.specs.Meaning.{shown_by}
use Rattle.store.specs.Refusals.Answer.{gives}
use Rattle.certifier.specs.Meaning.{full, track_at}
use Rattle.certifier.specs.Logs.{log_state}
use Rattle.certifier.specs.Entries.{track_of}
use Rattle.certifier.proofs.Steps.{write_full, write_ok, write_refused, few_written, own_written}
use Rattle.certifier.proofs.log.Log.write.Given as given
use Rattle.certifier.proofs.log.Log.write.Goals as goal
use Rattle.certifier.proofs.log.Log.write.Goals.{Joined-is_full, then-is_full+in_ok-read+in_default, else-is_full}

pub returns-in-Committed : goal.returns-in-Committed
returns-in-Committed g c =
    let s = log_state g.S.Store.state c.args.self.now in
    write_full g.S.Store.rules s c.args.console c.args.at c.args.entry (track_of c.at.result.now) _ c.in-Committed.field-0
    (c.at.ensures ∙ ap (track_at s) c.in_ok-id.ensures.1) c.is_full.ensures c.if-is_full.true (ap (λ x. gives (shown_by x)) (sym c.in-Committed.is) ∙ c.in_ok-read.ensures)

-- on both ways to the store's write it is not to a 17th record
room : (g : given.Over) (c : Joined-is_full g) → full (log_state g.S.Store.state c.args.self.now) c.args.console c.args.at ≡ false
room g c =
    let s = log_state g.S.Store.state c.args.self.now in
    elim c.if-is_full.branch [
      | then-is_full+in_ok-read+in_default w ↦ own_written g.S.Store.rules s c.args.console c.args.at w.in_default.field-0 (ap (λ x. gives (shown_by x)) (sym w.in_default.is) ∙ w.in_ok-read.ensures)
      | else-is_full w ↦ few_written g.S.Store.rules s c.args.console c.args.at (track_of c.at.result.now) _ (c.at.ensures ∙ ap (track_at s) c.in_ok-id.ensures.1) c.is_full.ensures w.if-is_full.false
    ]

pub returns-in_err-version : goal.returns-in_err-version
returns-in_err-version g c =
    let p = err_from_is_err_and c.from_residual-in_err-version.result c.from_residual-in_err-version.ensures.1 in
    rw (p.1, p.2) (write_refused g.S.Store.rules (log_state g.S.Store.state c.args.self.now) c.args.console c.args.at c.args.entry _ _ (λ _. room g (goal.at.returns-in_err-version g c).Joined-is_full) c.in_err-version.ensures)

pub returns : goal.returns
returns g c =
    let s = log_state g.S.Store.state c.args.self.now in
    let ok = write_ok g.S.Store.rules s c.args.console c.args.at c.args.entry c.in_ok-version.version _ c.write-2.new.self (λ _. room g (goal.at.returns g c).Joined-is_full) c.in_ok-version.ensures in
    search (rules, ok, c.in_ok-id.ensures.1)
