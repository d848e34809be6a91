-- What the code keeps of open transactions and of granted commits stands for.
use Rattle.std.specs.Prelude.{ℕ, List, take}
use Rattle.certifier.specs.declared.few.Few.{Few}
use Rattle.certifier.specs.declared.track.Track as code
use Rattle.certifier.specs.declared.entry.DayEntry.{DayEntry}
use Rattle.certifier.specs.Marking.{Track, overs_of}

-- what a day file keeps of a commit: its console and its low mark, the versions that it noted, as noted, and those that it
-- overwrote, as first written
pub record Entry : Type 0 where
  pub console : ℕ
  pub low : ℕ
  pub reads : List ℕ
  pub writes : List ℕ

abbrev pub few_of : {T : Type 0} {N : ℕ} → Few T N → List T
few_of f = take f.len f.items

abbrev pub track_of : code.Track → Track
track_of t = record { noted = few_of t.noted; writes = few_of t.writes }

-- an entry at console k with a low mark, of a transaction at track t
abbrev pub entry_at : ℕ → ℕ → Track → Entry
entry_at k low t = record { console = k; low = low; reads = t.noted; writes = overs_of t.writes }

abbrev pub entry_by : DayEntry → Entry
entry_by e = entry_at e.console e.low (track_of e.track)
