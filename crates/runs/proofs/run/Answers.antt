use Rattle.runs.proofs.Laws.{run_stands}
use Rattle.runs.proofs.run.Goals as goal

pub returns : goal.returns
returns g c =
    run_stands g.S.Store.rules g.met.S.Store.inside g.S.Store.state c.args.size c.args.room c.args.first c.args.calls.now c.in_ok-log.log
    c.in_ok-play.field-0 c.in_ok-log.ensures c.in_ok-play.ensures
