use Rattle.std.proofs.Common.{map, vec_items}
use Rattle.certifier.specs.Entries.{track_of, entry_by}
use Rattle.certifier.specs.Logs.{log_state}
use Rattle.runs.specs.Outcomes.{replies_of}
use Rattle.runs.proofs.Plays.{turn, ended}
use Rattle.runs.proofs.play.Goals as goal

pub loop-call-preserved : goal.loop-call-preserved
loop-call-preserved g c =
    turn g.S.Store.rules (log_state g.S.Store.state c.args.log) c.args.calls.now (log_state g.S.Store.state c.loop-call.log)
    (log_state g.S.Store.state c.call-answer.new.self) c.loop-call.call-index c.call-item.result c.call-answer.result
    (track_of c.track_for-track.result) (vec_items c.loop-call.answers) (vec_items c.push.new.self)
    (map entry_by (vec_items c.loop-call.entries)) (map entry_by (vec_items c.keep.new.entries)) c.loop-call-test.true c.call-item.is
    c.call-answer.ensures c.track_for-track.ensures c.in_ok-push.ensures.items c.in_ok-keep.ensures c.loop-call.invariant

pub returns : goal.returns
returns g c =
    ended g.S.Store.rules (log_state g.S.Store.state c.args.log) c.args.calls.now (log_state g.S.Store.state c.loop-call.log)
    c.loop-call.call-index (replies_of (vec_items c.loop-call.answers)) (map entry_by (vec_items c.loop-call.entries)) c.loop-call-test.false
    c.loop-call.invariant
