-- What a log means: its state, and what each call answers and leaves. A log is the certifier above a store of its own.
use Rattle.std.specs.Prelude.{ℕ, ◌+◌, Bool, cond, not, ◌&&◌, List, [], ◌∷◌, ◌++◌, length, drop, replicate, is_some, nat_le, nat_lt, slice_set}
use Rattle.store.specs.declared.Layer.TheVariants.{Certifier}
use Rattle.store.specs.declared.Code.{Code}
use Rattle.store.specs.declared.Version.{Version}
use Rattle.store.specs.Refusals as store
use Rattle.store.specs.Refusals.{no_console, no_record, shut, already_open, day_full}
use Rattle.store.specs.Refusals.Answer.{gives, refuses}
use Rattle.store.specs.Meaning as stored
use Rattle.store.specs.Meaning.{Rules, State, Shown}
use Rattle.store.specs.Meaning.Shown.{own as own_entry, version}
use Rattle.certifier.specs.declared.Grant.{Grant}
use Rattle.certifier.specs.declared.Mark.{Mark}
use Rattle.certifier.specs.declared.Call.{Call}
use Rattle.certifier.specs.declared.Call.TheVariants.{Begin, Read, Write, Commit, Drop}
use Rattle.certifier.specs.Refusals.{passed, reads_full, writes_full, unsafe, no_version, short_list}
use Rattle.certifier.specs.Marking.{Track, no_track, track_in, overs_of, notes, noted, written, new_mark, mark_at, verdict_of, marked}
use Rattle.certifier.specs.Ranking.{Ranks, unranked, ranked, joined}

-- the store's state; the marks of the versions, by number, in a table with so many places; what each console's open
-- transaction has noted and overwritten; and the commits by rank
pub record LogState (E : Type 0) : Type 0 where
  pub store : State E
  pub places : ℕ
  pub marks : List Mark
  pub tracks : List Track
  pub ranks : Ranks

-- what a call answers: a begin stamp; the console's own entry, or a version; the number of the version that a write
-- will overwrite; a commit's stamp, low mark and high mark; that a transaction is dropped; or a refusal
pub data Reply (E : Type 0) : Type 0 where
  begun : ℕ → Reply E
  own : E → Reply E
  saw : Version E → Reply E
  overwrites : ℕ → Reply E
  granted : Grant → Reply E
  dropped : Reply E
  refused : Code → Reply E

module _ {E : Type 0} where
  abbrev pub track_at : LogState E → ℕ → Track
  track_at s k = track_in s.tracks k

  abbrev pub is_open : LogState E → ℕ → Bool
  is_open s k = is_some (stored.console_at s.store k)

  -- a call at console k, which must be one of sixteen and open
  abbrev pub when_open : LogState E → ℕ → Reply E × LogState E → Reply E × LogState E
  when_open s k x = cond (nat_lt k 16) (cond (is_open s k) x (refused (shut Certifier), s)) (refused (no_console Certifier), s)

  -- a call at record r, which the log must have
  abbrev pub when_record : LogState E → ℕ → Reply E × LogState E → Reply E × LogState E
  when_record s r x = cond (nat_lt r (length s.store.chains)) x (refused (no_record Certifier), s)

  -- the log with the store's next state, and console k's transaction at t
  abbrev pub tracking : LogState E → ℕ → State E → Track → LogState E
  tracking s k st t = record { store = st; places = s.places; marks = s.marks; tracks = slice_set s.tracks k t; ranks = s.ranks }

  -- begin
  abbrev pub begin_step : LogState E → ℕ → Reply E × LogState E
  begin_step s k =
      cond (nat_lt k 16)
      (cond (is_open s k) (refused (already_open Certifier), s) (begun s.store.clock, tracking s k (stored.begin_of s.store k).1 no_track))
      (refused (no_console Certifier), s)

  -- read: an own entry is not noted
  abbrev pub noting : LogState E → ℕ → Version E → Reply E × LogState E
  noting s k v = cond (notes (track_at s k) v.number) (saw v, tracking s k s.store (noted (track_at s k) v.number)) (refused reads_full, s)

  abbrev pub seeing : LogState E → ℕ → store.Answer (Shown E) → Reply E × LogState E
  seeing s k (refuses c) = (refused (passed c), s)
  seeing s k (gives (own_entry e)) = (own e, s)
  seeing s k (gives (version v)) = noting s k v

  abbrev pub read_step : Rules → LogState E → ℕ → ℕ → Reply E × LogState E
  read_step rules s k r = when_open s k (when_record s r (seeing s k (stored.read_of rules s.store k r)))

  -- write
  abbrev pub writing : LogState E → ℕ → ℕ → store.Answer ℕ × State E → Reply E × LogState E
  writing s k r w = elim w.0 [
    | gives n ↦ (overwrites n, tracking s k w.1 (written (track_at s k) r n))
    | refuses c ↦ (refused (passed c), s)
  ]

  -- whether a write at record r would be to a 17th record
  abbrev pub full : LogState E → ℕ → ℕ → Bool
  full s k r = nat_le 16 (length (track_at s k).writes) && not (stored.holds (stored.pending_at s.store k) r)

  abbrev pub write_step : Rules → LogState E → ℕ → ℕ → E → Reply E × LogState E
  write_step rules s k r e =
      when_open s k (when_record s r (cond (full s k r) (refused writes_full, s) (writing s k r (stored.write_of rules s.store k r e))))

  -- commit
  abbrev pub grant_at : LogState E → ℕ → Grant
  grant_at s k = verdict_of s.marks (s.store.clock + 1) (track_at s k)

  -- the state after a granted commit
  abbrev pub settled : LogState E → ℕ → Grant → State E → LogState E
  settled s k g st = record {
    store = st;
    places = s.places;
    marks = marked s.places s.marks g.stamp g.low (track_at s k);
    tracks = slice_set s.tracks k no_track;
    ranks = ranked s.ranks g.low;
  }

  abbrev pub judging : LogState E → ℕ → Grant → Reply E × LogState E
  judging s k g =
      cond (nat_lt g.high g.low) (granted g, settled s k g (stored.commit_of s.store k).1)
      (refused unsafe, tracking s k (stored.drop_of s.store k).1 no_track)

  abbrev pub commit_step : LogState E → ℕ → Reply E × LogState E
  commit_step s k = when_open s k (cond (nat_lt s.store.clock 4000) (judging s k (grant_at s k)) (refused (day_full Certifier), s))

  -- drop
  abbrev pub drop_step : LogState E → ℕ → Reply E × LogState E
  drop_step s k = when_open s k (dropped, tracking s k (stored.drop_of s.store k).1 no_track)

  -- marks: those of the version of that number
  abbrev pub marks_of : LogState E → ℕ → store.Answer Mark
  marks_of s n = cond (nat_lt n (length s.marks)) (gives (mark_at s.marks n)) (refuses no_version)

  -- order: the commit stamps by rank at the front of the caller's list, whose later places stay
  abbrev pub order_of : LogState E → List ℕ → store.Answer ℕ × List ℕ
  order_of s list =
      cond (nat_lt (length list) s.ranks.count) (refuses short_list, list)
      (gives s.ranks.count, joined s.ranks.by_low ++ drop s.ranks.count list)

  -- track: what is kept of console k's transaction, nothing where it has none
  abbrev pub track_told : LogState E → ℕ → store.Answer Track
  track_told s k = cond (nat_lt k 16) (gives (track_at s k)) (refuses (no_console Certifier))

  -- noted: the versions that console k's transaction noted, none where it has none
  abbrev pub noted_of : LogState E → ℕ → store.Answer (List ℕ)
  noted_of s k = cond (nat_lt k 16) (gives (track_at s k).noted) (refuses (no_console Certifier))

  -- overwritten: the versions that it overwrites at the front of the caller's list, whose later places stay
  abbrev pub overwritten_of : LogState E → ℕ → List ℕ → store.Answer ℕ × List ℕ
  overwritten_of s k list =
      cond (nat_lt k 16)
      (cond (nat_lt (length list) (length (track_at s k).writes)) (refuses short_list, list)
      (gives (length (track_at s k).writes), overs_of (track_at s k).writes ++ drop (length (track_at s k).writes) list))
      (refuses (no_console Certifier), list)

  -- a fresh log of r records at the entry e, in l places
  abbrev pub opened : ℕ → ℕ → E → LogState E
  opened r l e = record { store = stored.opened e r l; places = l; marks = replicate r (new_mark 0); tracks = replicate 16 no_track; ranks = unranked }

  -- runs: each call in turn
  abbrev pub step : Rules → LogState E → Call E → Reply E × LogState E
  step rules s (Begin k) = begin_step s k
  step rules s (Read k r) = read_step rules s k r
  step rules s (Write k r e) = write_step rules s k r e
  step rules s (Commit k) = commit_step s k
  step rules s (Drop k) = drop_step s k

  abbrev pub answers_of : Rules → LogState E → List (Call E) → List (Reply E)
  answers_of rules s [] = []
  answers_of rules s (c ∷ cs) = (step rules s c).0 ∷ answers_of rules (step rules s c).1 cs

  abbrev pub after : Rules → LogState E → List (Call E) → LogState E
  after rules s [] = s
  after rules s (c ∷ cs) = after rules (step rules s c).1 cs
