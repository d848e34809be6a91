use Rattle.std.proofs.Common.{sym, ◌∙◌}
use Rattle.store.specs.Meaning.{origin}
use Rattle.versions.specs.Tables.{places_of}
use Rattle.versions.proofs.Picks.{pick_here, pick_first, pick_older, linked_at}
use Rattle.versions.proofs.table.Table.shown.Goals as goal
use Rattle.versions.proofs.table.Table.shown.Goals.{else-loop-older-test, then-loop-older-test+in_default}

pub loop-older-preserved : goal.loop-older-preserved
loop-older-preserved g c =
    let a = c.args.self.now in
    let next = c.used-row-in-loop-older in
    let step = pick_older g.K.Kind.rules g.K.Kind.test g.met.K.Kind.tested a.first (places_of a) (origin a.first) c.args.began c.loop-older.row.now
    a.down a.live c.loop-older.invariant.0 c.in-Some.older (sym c.loop-older-test.ensures) c.in-Some.is next.result.now next.ensures in
    (linked_at (places_of a) a.down a.live c.in-Some.older next.result.now next.ensures, c.loop-older.invariant.1 ∙ step)

pub returns : goal.returns
returns g c =
    let a = c.args.self.now in
    let rule = g.K.Kind.rules in
    let row = c.loop-older.row.now in
    sym (c.loop-older.invariant.1 ∙ elim c.loop-older-test.branch [
      | else-loop-older-test w ↦ pick_here rule g.K.Kind.test g.met.K.Kind.tested a.first (places_of a) (origin a.first) c.args.began row (sym w.loop-older-test.ensures)
      | then-loop-older-test+in_default w ↦ pick_first rule g.K.Kind.test g.met.K.Kind.tested a.first (places_of a) (origin a.first) c.args.began row w.in_default.is
    ])
