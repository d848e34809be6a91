use Rattle.std.proofs.Common.{map, vec_items}
use Rattle.certifier.specs.Entries.{entry_by}
use Rattle.certifier.specs.Logs.{log_state}
use Rattle.runs.specs.Outcomes.{replies_of}
use Rattle.runs.proofs.Plays.{Amid}
use Rattle.runs.proofs.play.Given as goal

abbrev pub invariant-loop-call : goal.invariant-loop-call
invariant-loop-call g l =
    Amid g.S.Store.rules (log_state g.S.Store.state l.initial.log) l.calls (log_state g.S.Store.state l.log) l.call-index (replies_of (vec_items l.answers)) (map entry_by (vec_items l.entries))
