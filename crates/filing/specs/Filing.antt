-- What a day file has of the commits of a run.
use Rattle.std.specs.Prelude.{List, map}
use Rattle.certifier.specs.Entries.{Entry}
use Rattle.dayfile.specs.Format.{Commit}

-- an entry as a file has it
abbrev pub commit_of : Entry → Commit
commit_of e = record { console = e.console; low = e.low; reads = e.reads; writes = e.writes }

abbrev pub commits_of : List Entry → List Commit
commits_of es = map commit_of es
