use Rattle.std.proofs.Common.{◌≤◌, vec_items, vec_len, arith}
use Rattle.std.proofs.lemmas.List.{length-map}
use Rattle.certifier.specs.Entries.{entry_by}
use Rattle.filing.proofs.Ranges.{day_kept}
use Rattle.filing.proofs.run_day.Goals as goal

pub invariant_of-day : goal.invariant_of-day
invariant_of-day g c =
    let run = c.in_ok-log.ensures in
    let entries = c.in_ok-log.field-0.entries in
    let day = day_kept _ run.3 run.4 in
    let same = length-map (vec_items entries) entry_by in
    let short : vec_len entries ≤ 4000 = omega (arith, same, day.0, entries.ok.0) in
    record { some = run.0.0; few = run.0.1; short = short; fits = day.1 }
