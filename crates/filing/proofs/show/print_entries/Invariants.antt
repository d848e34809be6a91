use Rattle.std.proofs.Common.{◌+◌, ◌++◌, string_bytes}
use Rattle.dayfile.specs.Said.{shape_of, walk_of}
use Rattle.dayfile.specs.Reading.{entries_of}
use Rattle.filing.specs.Showing.{said_text}
use Rattle.filing.proofs.Shows.{Lines}
use Rattle.filing.proofs.show.print_entries.Given as goal

abbrev pub invariant-loop-i : goal.invariant-loop-i
invariant-loop-i l = Lines (walk_of l.i-iterator.iter) (l.i-iterator.count + 1) (string_bytes l.text) (string_bytes l.initial.text ++ said_text (entries_of (shape_of l.file)))
