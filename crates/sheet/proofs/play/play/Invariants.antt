use Rattle.std.proofs.Common.{◌≡◌, [], ◌++◌, map, length, None, vec_items}
use Rattle.std.specs.Option.{option_map}
use Rattle.sheet.specs.Answers.{Log, responses_of, log_after}
use Rattle.sheet.specs.Endings.{ending_of}
use Rattle.sheet.specs.Faults.{told}
use Rattle.sheet.specs.Stretches.{final_of, until_open}
use Rattle.sheet.proofs.play.play.Given as goal

abbrev pub invariant-loop-stretch : goal.invariant-loop-stretch
invariant-loop-stretch l =
    (until_open (map told l.rest) ≡ [])
    × ((s : Log)
    × (option_map ending_of l.ending ≡ option_map final_of s)
    × (map told (vec_items l.responses) ++ responses_of s (map told l.rest) ≡ responses_of None (map told l.items))
    × (log_after s (map told l.rest) ≡ log_after None (map told l.items)))

abbrev pub decreases-loop-stretch : goal.decreases-loop-stretch
decreases-loop-stretch l = length l.rest
