-- What a sequence of calls with their answers says of transactions: which there are, what each read, overwrote and made,
-- how they depend on one another, and which marks and verdicts follow. Nothing here looks at a log's state.
use Rattle.std.specs.Prelude.{◌≡◌, ℕ, ◌+◌, ◌<◌, max, Bool, true, cond, ◌&&◌, ◌||◌, ◌⊎◌, List, [], ◌∷◌, ◌++◌, length, replicate, Some, None, Option, ◌==◌, nat_le, nat_lt, slice_index_or, slice_set}
use Rattle.store.specs.declared.Layer.TheVariants.{Certifier}
use Rattle.store.specs.declared.Version.{Version}
use Rattle.store.specs.Refusals.{no_console, shut, day_full}
use Rattle.certifier.specs.declared.Grant.{Grant}
use Rattle.certifier.specs.declared.Mark.{Mark}
use Rattle.certifier.specs.declared.Call.{Call}
use Rattle.certifier.specs.declared.Call.TheVariants.{Begin, Read, Write, Commit, Drop}
use Rattle.certifier.specs.Refusals.{unsafe}
use Rattle.certifier.specs.Marking.{member, note_in, low_or}
use Rattle.certifier.specs.Meaning.{Reply}
use Rattle.certifier.specs.Entries.{Entry}
use Rattle.certifier.specs.Meaning.Reply.{begun, own, saw, overwrites, granted, dropped, refused}

-- a call with its answer
pub record Event (E : Type 0) : Type 0 where
  pub call : Call E
  pub reply : Reply E

-- an accepted read or write: a read of a record that gave the transaction's own entry, a read of a record that gave a
-- version, a write of an entry to a record that will overwrite the version of that number
pub data Act (E : Type 0) : Type 0 where
  took_own : ℕ → E → Act E
  took_version : ℕ → Version E → Act E
  put : ℕ → E → ℕ → Act E

-- a committed transaction: its console, its accepted reads and writes in their own sequence, the number of the first
-- version that its commit added, and what its commit answered
pub record Transaction (E : Type 0) : Type 0 where
  pub console : ℕ
  pub acts : List (Act E)
  pub first : ℕ
  pub grant : Grant

-- what has happened so far: the next unused version number, for each console the accepted reads and writes of its open
-- transaction, and the committed transactions, the newest first
pub record Summary (E : Type 0) : Type 0 where
  pub next : ℕ
  pub current : List (Option (List (Act E)))
  pub done : List (Transaction E)

-- numbers, each once, as they first came
abbrev pub note_some : List ℕ → Option ℕ → List ℕ
note_some ns None = ns
note_some ns (Some n) = note_in n ns

module _ {E : Type 0} where
  -- the calls, each with its answer
  abbrev pub history_of : List (Call E) → List (Reply E) → List (Event E)
  history_of [] xs = []
  history_of (c ∷ cs) [] = []
  history_of (c ∷ cs) (a ∷ xs) = record { call = c; reply = a } ∷ history_of cs xs

  abbrev pub console_of : Call E → ℕ
  console_of (Begin k) = k
  console_of (Read k r) = k
  console_of (Write k r e) = k
  console_of (Commit k) = k
  console_of (Drop k) = k

  -- what a read of record r did, by its answer
  abbrev pub read_act : ℕ → Reply E → List (Act E)
  read_act r (begun b) = []
  read_act r (own e) = took_own r e ∷ []
  read_act r (saw v) = took_version r v ∷ []
  read_act r (overwrites n) = []
  read_act r (granted g) = []
  read_act r dropped = []
  read_act r (refused c) = []

  -- what a write of the entry e to record r did, by its answer
  abbrev pub write_act : ℕ → E → Reply E → List (Act E)
  write_act r e (begun b) = []
  write_act r e (own x) = []
  write_act r e (saw v) = []
  write_act r e (overwrites n) = put r e n ∷ []
  write_act r e (granted g) = []
  write_act r e dropped = []
  write_act r e (refused c) = []

  abbrev pub acts_of : Call E → Reply E → List (Act E)
  acts_of (Begin k) x = []
  acts_of (Read k r) x = read_act r x
  acts_of (Write k r e) x = write_act r e x
  acts_of (Commit k) x = []
  acts_of (Drop k) x = []

  -- the version that an act read, the version that it overwrites, the record that it writes
  abbrev pub read_by : Act E → Option ℕ
  read_by (took_own r e) = None
  read_by (took_version r v) = Some v.number
  read_by (put r e n) = None

  abbrev pub overwritten_by : Act E → Option ℕ
  overwritten_by (took_own r e) = None
  overwritten_by (took_version r v) = None
  overwritten_by (put r e n) = Some n

  abbrev pub written_by : Act E → Option ℕ
  written_by (took_own r e) = None
  written_by (took_version r v) = None
  written_by (put r e n) = Some r

  abbrev pub gather : (Act E → Option ℕ) → List ℕ → List (Act E) → List ℕ
  gather f ns [] = ns
  gather f ns (a ∷ rest) = gather f (note_some ns (f a)) rest

  -- the versions that a transaction read, those that it overwrote, the records that it wrote
  abbrev pub read_in : List (Act E) → List ℕ
  read_in acts = gather read_by [] acts

  abbrev pub overwritten_in : List (Act E) → List ℕ
  overwritten_in acts = gather overwritten_by [] acts

  abbrev pub records_in : List (Act E) → List ℕ
  records_in acts = gather written_by [] acts

  -- what a day file keeps of committed transactions, in commit order
  abbrev pub entry_of : Transaction E → Entry
  entry_of t = record { console = t.console; low = t.grant.low; reads = read_in t.acts; writes = overwritten_in t.acts }

  abbrev pub entries_in : List (Transaction E) → List Entry
  entries_in [] = []
  entries_in (t ∷ ts) = entries_in ts ++ (entry_of t ∷ [])

  -- the history, event by event
  abbrev pub current_at : Summary E → ℕ → Option (List (Act E))
  current_at m k = slice_index_or m.current k None

  abbrev pub acts_at : Summary E → ℕ → List (Act E)
  acts_at m k = elim (current_at m k) [ None ↦ [] | Some acts ↦ acts ]

  abbrev pub with_current : Summary E → ℕ → Option (List (Act E)) → Summary E
  with_current m k c = record { next = m.next; current = slice_set m.current k c; done = m.done }

  abbrev pub finished : Summary E → ℕ → Grant → Summary E
  finished m k g = record {
    next = m.next + length (records_in (acts_at m k));
    current = slice_set m.current k None;
    done = record { console = k; acts = acts_at m k; first = m.next; grant = g } ∷ m.done;
  }

  -- a refusal alters nothing, but that UNSAFE ends the transaction
  abbrev pub advance_by : Summary E → ℕ → List (Act E) → Reply E → Summary E
  advance_by m k acts (begun b) = with_current m k (Some [])
  advance_by m k acts (own x) = with_current m k (Some (acts_at m k ++ acts))
  advance_by m k acts (saw v) = with_current m k (Some (acts_at m k ++ acts))
  advance_by m k acts (overwrites n) = with_current m k (Some (acts_at m k ++ acts))
  advance_by m k acts (granted g) = finished m k g
  advance_by m k acts dropped = with_current m k None
  advance_by m k acts (refused c) = cond (c.number == 11) (with_current m k None) m

  abbrev pub advance : Summary E → Event E → Summary E
  advance m e = advance_by m (console_of e.call) (acts_of e.call e.reply) e.reply

  abbrev pub advances : Summary E → List (Event E) → Summary E
  advances m [] = m
  advances m (e ∷ es) = advances (advance m e) es

  -- before the first call: no transaction, and the records' first versions have the numbers below r
  abbrev pub unused : ℕ → Summary E
  unused r = record { next = r; current = replicate 16 None; done = [] }

  abbrev pub summary_of : ℕ → List (Event E) → Summary E
  summary_of r es = advances (unused r) es

  -- what a committed transaction did
  abbrev pub HasRead : Transaction E → ℕ → Type 0
  HasRead t v = member v (read_in t.acts) ≡ true

  abbrev pub HasOverwritten : Transaction E → ℕ → Type 0
  HasOverwritten t v = member v (overwritten_in t.acts) ≡ true

  abbrev pub made_by : Transaction E → ℕ → Bool
  made_by t v = nat_le t.first v && nat_lt v (t.first + length (records_in t.acts))

  abbrev pub HasMade : Transaction E → ℕ → Type 0
  HasMade t v = made_by t v ≡ true

  -- a dependency leads from u to t by the version v
  abbrev pub DependsBy : Transaction E → Transaction E → ℕ → Type 0
  DependsBy u t v = (HasRead t v × HasMade u v) ⊎ ((HasOverwritten t v × HasMade u v) ⊎ (HasRead u v × HasOverwritten t v))

  -- u has an earlier rank than t: by low mark rising, then commit stamp falling
  abbrev pub Before : Transaction E → Transaction E → Type 0
  Before u t = (u.grant.low < t.grant.low) ⊎ ((u.grant.low ≡ t.grant.low) × (t.grant.stamp < u.grant.stamp))

  abbrev pub is_before : Transaction E → Transaction E → Bool
  is_before u t = nat_lt u.grant.low t.grant.low || (u.grant.low == t.grant.low && nat_lt t.grant.stamp u.grant.stamp)

  -- the committed transactions by rank
  abbrev pub inserted : Transaction E → List (Transaction E) → List (Transaction E)
  inserted t [] = t ∷ []
  inserted t (u ∷ us) = cond (is_before t u) (t ∷ u ∷ us) (u ∷ inserted t us)

  abbrev pub in_rank : List (Transaction E) → List (Transaction E)
  in_rank [] = []
  in_rank (t ∷ ts) = inserted t (in_rank ts)

  -- the marks of a version, by the committed transactions: its maker's stamp, 0 for the versions of the opening
  abbrev pub stamp_of : List (Transaction E) → ℕ → ℕ
  stamp_of [] v = 0
  stamp_of (t ∷ ts) v = cond (made_by t v) t.grant.stamp (stamp_of ts v)

  -- the greatest commit stamp of those that read it
  abbrev pub read_stamp : List (Transaction E) → ℕ → ℕ
  read_stamp [] v = 0
  read_stamp (t ∷ ts) v = max (cond (member v (read_in t.acts)) t.grant.stamp 0) (read_stamp ts v)

  abbrev pub high_of : List (Transaction E) → ℕ → ℕ
  high_of ts v = max (stamp_of ts v) (read_stamp ts v)

  -- the low mark of the one that overwrote it
  abbrev pub low_of : List (Transaction E) → ℕ → Option ℕ
  low_of [] v = None
  low_of (t ∷ ts) v = cond (member v (overwritten_in t.acts)) (Some t.grant.low) (low_of ts v)

  abbrev pub mark_of : List (Transaction E) → ℕ → Mark
  mark_of ts v = record { stamp = stamp_of ts v; high = high_of ts v; low = low_of ts v }

  -- the smallest of c and the low marks present on the versions ns
  abbrev pub lowest_of : List (Transaction E) → ℕ → List ℕ → ℕ
  lowest_of ts c [] = c
  lowest_of ts c (n ∷ ns) = low_or (lowest_of ts c ns) (low_of ts n)

  -- the greatest of 0 and the stamps, or the high marks, of the versions ns
  abbrev pub greatest_stamp_of : List (Transaction E) → List ℕ → ℕ
  greatest_stamp_of ts [] = 0
  greatest_stamp_of ts (n ∷ ns) = max (stamp_of ts n) (greatest_stamp_of ts ns)

  abbrev pub greatest_high_of : List (Transaction E) → List ℕ → ℕ
  greatest_high_of ts [] = 0
  greatest_high_of ts (n ∷ ns) = max (high_of ts n) (greatest_high_of ts ns)

  -- the stamp and the marks of a transaction that commits after ts with the accepted reads and writes acts
  abbrev pub grant_of : List (Transaction E) → List (Act E) → Grant
  grant_of ts acts = record {
    stamp = length ts + 1;
    low = lowest_of ts (length ts + 1) (read_in acts);
    high = max (greatest_stamp_of ts (read_in acts)) (greatest_high_of ts (overwritten_in acts));
  }

  abbrev pub judged : Grant → Reply E
  judged g = cond (nat_lt g.high g.low) (granted g) (refused unsafe)

  -- what a commit at console k has to answer
  abbrev pub verdict : Summary E → ℕ → Reply E
  verdict m k =
      cond (nat_lt k 16)
      (elim (current_at m k) [
        | None ↦ refused (shut Certifier)
        | Some acts ↦ cond (nat_lt (length m.done) 4000) (judged (grant_of m.done acts)) (refused (day_full Certifier))
      ])
      (refused (no_console Certifier))
