use Rattle.std.proofs.Common.{◌≡◌, ◌++◌, take, drop}
use Rattle.certifier.specs.Marking.{overs_of}
use Rattle.certifier.proofs.track.Track.fill.Given as goal

abbrev pub invariant-loop-i : goal.invariant-loop-i
invariant-loop-i l = l.list ≡ overs_of (take l.i l.writes) ++ drop l.i l.initial.list
