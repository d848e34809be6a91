-- What a run answers, and what is kept of its commits.
use Rattle.std.specs.Prelude.{◌≡◌, ℕ, ◌%◌, List, [], ◌∷◌, ◌++◌, map, Ok, Err, vec_items, Result}
use Rattle.store.specs.declared.OpenFault.{OpenFault}
use Rattle.store.specs.Refusals.{open_code}
use Rattle.store.specs.Meaning.{Rules, State, Range, Unopened}
use Rattle.certifier.specs.declared.Accepted.{Accepted}
use Rattle.certifier.specs.declared.LogRefusal.{LogRefusal}
use Rattle.certifier.specs.declared.Call.{Call}
use Rattle.certifier.specs.declared.Call.TheVariants.{Begin, Read, Write, Commit, Drop}
use Rattle.certifier.specs.Marking.{Track, no_track}
use Rattle.certifier.specs.Meaning.{LogState, Reply, track_at, opened, step, answers_of, after}
use Rattle.certifier.specs.Meaning.Reply.{begun, own, saw, overwrites, granted, dropped, refused}
use Rattle.certifier.specs.Entries.{Entry, entry_at, entry_by}
use Rattle.certifier.specs.Logs.{log_state, reply_of}
use Rattle.runs.specs.declared.Outcome.{Outcome}
use Rattle.runs.specs.History.{history_of, summary_of, entries_in}
use Rattle.runs.specs.Law.{Lawful}

module _ {E : Type 0} where
  abbrev pub replies_of : List (Result (Accepted E) LogRefusal) → List (Reply E)
  replies_of xs = map reply_of xs

  -- a commit's entry, where it was granted
  abbrev pub entry_if : ℕ → Reply E → Track → List Entry
  entry_if k (begun b) t = []
  entry_if k (own e) t = []
  entry_if k (saw v) t = []
  entry_if k (overwrites n) t = []
  entry_if k (granted g) t = entry_at k g.low t ∷ []
  entry_if k dropped t = []
  entry_if k (refused c) t = []

  abbrev pub entry_for : Call E → Reply E → Track → List Entry
  entry_for (Begin k) x t = []
  entry_for (Read k r) x t = []
  entry_for (Write k r e) x t = []
  entry_for (Commit k) x t = entry_if k x t
  entry_for (Drop k) x t = []

  -- the track that a call finds at the console that it asks to commit
  abbrev pub track_for : LogState E → Call E → Track
  track_for s (Begin k) = no_track
  track_for s (Read k r) = no_track
  track_for s (Write k r e) = no_track
  track_for s (Commit k) = track_at s (k % 16)
  track_for s (Drop k) = no_track

-- what is kept of calls for the day file, each with what the log answered
abbrev pub filed_in : {E : Type 0} → Rules → LogState E → List (Call E) → List Entry
filed_in rules s [] = []
filed_in rules s (c ∷ cs) = entry_for c (step rules s c).0 (track_for s c) ++ filed_in rules (step rules s c).1 cs

-- calls that lead from s to t: their answers, and what is kept of them
pub record Plays {E : Type 0} (rules : Rules) (s : LogState E) (calls : List (Call E)) (t : LogState E) (replies : List (Reply E)) (entries : List Entry) : Type 0 where
  pub replied : replies ≡ answers_of rules s calls
  pub left : t ≡ after rules s calls
  pub filed : entries ≡ filed_in rules s calls

-- what a run answers: the answers and the end state are those of the meaning, from the opening on, the law holds, and
-- what is kept for the day file is what the history says of its commits
abbrev pub Runs : {S E : Type 0} → Rules → (S → State E) → ℕ → ℕ → E → List (Call E) → Result (Outcome S E) OpenFault → Type 0
Runs rules state size room first calls (Ok run) =
    Range size room
    × (log_state state run.log ≡ after rules (opened size room first) calls)
    × (replies_of (vec_items run.answers) ≡ answers_of rules (opened size room first) calls)
    × Lawful rules size room first (log_state state run.log) (history_of calls (replies_of (vec_items run.answers)))
    × (map entry_by (vec_items run.entries) ≡ entries_in (summary_of size (history_of calls (replies_of (vec_items run.answers)))).done)
Runs rules state size room first calls (Err f) = Unopened size room (open_code f)
