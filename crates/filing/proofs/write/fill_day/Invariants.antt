use Rattle.std.proofs.Common.{◌≡◌, map, take, drop}
use Rattle.certifier.specs.Entries.{entry_by}
use Rattle.daywriter.specs.Stands.{writer_of}
use Rattle.daywriter.proofs.Runs.{Filling}
use Rattle.filing.specs.Days.{records_of}
use Rattle.filing.specs.Filing.{commits_of}
use Rattle.filing.proofs.write.fill_day.Given as goal

abbrev pub invariant-loop-kept : goal.invariant-loop-kept
invariant-loop-kept l =
    (l.file.buf.ghost_name ≡ l.initial.file.buf.ghost_name)
    × Filling l.initial.file.buf.now (records_of l.day) (commits_of (map entry_by (take l.kept-index l.kept-items))) (commits_of (map entry_by (drop l.kept-index l.kept-items))) (writer_of l.file)
