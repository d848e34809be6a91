-- What the code's values stand for.
use Rattle.std.specs.Prelude.{ℕ, List}
use Rattle.dayfile.specs.Format.{Commit}
use Rattle.daywriter.specs.declared.NewEntry.{NewEntry}
use Rattle.daywriter.specs.declared.state.Progress.{Progress}
use Rattle.daywriter.specs.declared.state.OpenFile.{OpenFile}
use Rattle.daywriter.specs.declared.state.ClosedFile.{ClosedFile}
use Rattle.daywriter.specs.Writing.{Extent, Writer, Closed}

abbrev pub wrote : NewEntry → Commit
wrote e = record { console = e.console; low = e.low; reads = e.reads.now; writes = e.writes.now }

abbrev pub extent_of : Progress → Extent
extent_of p = record { records = p.records; count = p.count; made = p.made; at = p.at }

-- a file under writing, with the bytes of its buffer
abbrev pub writer : Progress → List ℕ → Writer
writer p bytes = record { extent = extent_of p; bytes = bytes }

abbrev pub writer_of : OpenFile → Writer
writer_of f = writer f.progress f.buf.now

abbrev pub closed_of : ClosedFile → Closed
closed_of f = record { bytes = f.buf.now; len = f.len }
