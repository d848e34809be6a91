use Rattle.std.proofs.Common.{sym, ap, ◌∙◌, rules}
use Rattle.certifier.specs.Marking.{Track, written}
use Rattle.certifier.proofs.Steps.{tracks_set, tracks_get}
use Rattle.certifier.proofs.track.Tracks.write.Goals as goal

pub returns : goal.returns
returns c =
    let t = tracks_get c.self.inside.list c.args.console.number c.index-self-console.result (search rules) in
    rw (← c.self.view_is)
    (tracks_set c.self.inside.list c.args.console.number c.write.new.self _ (c.write.ensures ∙ ap (λ (u : Track). written u c.args.at c.args.version) (sym t)))
