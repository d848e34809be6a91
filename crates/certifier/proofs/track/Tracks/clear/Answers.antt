use Rattle.certifier.proofs.Steps.{tracks_set}
use Rattle.certifier.proofs.track.Tracks.clear.Goals as goal

pub returns : goal.returns
returns c = rw (← c.self.view_is) (tracks_set c.self.inside.list c.args.console.number c.clear.new.self _ c.clear.ensures)
