-- What the code's values stand for.
use Rattle.std.specs.Prelude.{◌≡◌, ℕ, List}
use Rattle.std.specs.Iterator.{YieldsFirst}
use Rattle.std.specs.Iterator.Runs.{YieldsInOrder}
use Rattle.dayfile.specs.declared.Entry.{Entry}
use Rattle.dayfile.specs.declared.file.DayFile.{DayFile}
use Rattle.dayfile.specs.declared.file.Entries.{Entries}
use Rattle.dayfile.specs.declared.versions.Pairs.{Pairs}
use Rattle.dayfile.specs.Format.{Commit, pairs}
use Rattle.dayfile.specs.Reading.{Shape, Walk}

abbrev pub said : Entry → Commit
said e = record { console = e.console; low = e.low; reads = pairs e.reads.now; writes = pairs e.writes.now }

abbrev pub shape_of : DayFile → Shape
shape_of f = record { offset = f.offset; records = f.records; count = f.count; part = f.part.now }

abbrev pub walk_of : Entries → Walk
walk_of w = record { left = w.left; place = w.spot.place; bound = w.spot.bound; rest = w.rest.now }

-- the numbers that are still to come
abbrev pub numbers_of : Pairs → List ℕ
numbers_of p = pairs p.0.now

-- the iterator has these numbers to give, and gives them in turn
pub record Gives (p : Pairs) (ns : List ℕ) : Type 0 where
  pub numbers : numbers_of p ≡ ns
  pub runs : YieldsInOrder (YieldsFirst numbers_of) numbers_of
