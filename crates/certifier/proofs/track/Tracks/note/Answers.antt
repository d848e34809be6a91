use Rattle.std.proofs.Common.{rules}
use Rattle.certifier.proofs.Steps.{tracks_note, tracks_get}
use Rattle.certifier.proofs.track.Tracks.note.Goals as goal

pub returns-clause-track : goal.returns-clause-track
returns-clause-track c =
    let t = tracks_get c.self.inside.list c.args.console.number c.index-self-console.result (search rules) in
    rw (← c.self.view_is) (tracks_note c.self.inside.list c.args.console.number c.note.new.self _ c.args.n t c.note.ensures.track)
