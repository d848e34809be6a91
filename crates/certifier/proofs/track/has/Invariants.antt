use Rattle.std.proofs.Common.{◌≡◌, take}
use Rattle.certifier.specs.Marking.{member}
use Rattle.certifier.proofs.track.has.Given as goal

abbrev pub invariant-loop-x : goal.invariant-loop-x
invariant-loop-x l = l.found ≡ member l.n (take l.x-index l.list)
