-- The law over whole runs: rank, serial, marks, striking. Everything is said of the history, and of the log that it leads to.
use Rattle.std.specs.Prelude.{◌≡◌, ℕ, ◌+◌, ◌<◌, ◌≤◌, ◌⊎◌, List, [], ◌∷◌, map, length, replicate, ◌≢◌, slice_index_or, slice_set}
use Rattle.store.specs.Meaning.{Rules, newest_at}
use Rattle.certifier.specs.declared.Call.{Call}
use Rattle.certifier.specs.declared.Call.TheVariants.{Begin, Read, Write, Commit, Drop}
use Rattle.certifier.specs.Marking.{mark_at}
use Rattle.certifier.specs.Ranking.{joined}
use Rattle.certifier.specs.Meaning.{LogState, Reply}
use Rattle.runs.specs.History.{Event, Act, Transaction, Summary, read_in, overwritten_in, HasRead, HasOverwritten, DependsBy, Before, in_rank, mark_of, verdict, advance, unused, summary_of}
use Rattle.runs.specs.History.Act.{took_own, took_version, put}
use Rattle.runs.specs.Striking.{Struck}

-- x is one of the list
abbrev pub Has : {A : Type 0} → A → List A → Type 0
Has x [] = ⊥
Has x (y ∷ ys) = (x ≡ y) ⊎ Has x ys

module _ {E : Type 0} where
  -- dependencies between committed transactions
  abbrev pub Depends : List (Transaction E) → Transaction E → Transaction E → Type 0
  Depends done u t = Has u done × Has t done × (u.grant.stamp ≢ t.grant.stamp) × ((v : ℕ) × DependsBy u t v)

  -- each ranks before all that stand behind it
  abbrev pub Sorted : List (Transaction E) → Type 0
  Sorted [] = Unit
  Sorted (t ∷ ts) = ((u : Transaction E) → Has u ts → Before t u) × Sorted ts

  -- the plain ledger: one entry a record, and a write replaces it
  abbrev pub acted : List E → Act E → List E
  acted l (took_own r e) = l
  acted l (took_version r v) = l
  acted l (put r e n) = slice_set l r e

  abbrev pub ran : List E → List (Act E) → List E
  ran l [] = l
  ran l (a ∷ rest) = ran (acted l a) rest

  abbrev pub ran_all : List E → List (Transaction E) → List E
  ran_all l [] = l
  ran_all l (t ∷ ts) = ran_all (ran l t.acts) ts

  -- a read gives the ledger's entry, and that is the one that the log gave (first is the entry at opening)
  abbrev pub Agrees : E → List E → Act E → Type 0
  Agrees first l (took_own r e) = slice_index_or l r first ≡ e
  Agrees first l (took_version r v) = slice_index_or l r first ≡ v.entry
  Agrees first l (put r e n) = Unit

  abbrev pub AllAgree : E → List E → List (Act E) → Type 0
  AllAgree first l [] = Unit
  AllAgree first l (a ∷ rest) = Agrees first l a × AllAgree first (acted l a) rest

  -- the transactions run singly, in the sequence of the list, and every read of each agrees
  abbrev pub Replays : E → List E → List (Transaction E) → Type 0
  Replays first l [] = Unit
  Replays first l (t ∷ ts) = AllAgree first l t.acts × Replays first (ran l t.acts) ts

  -- every commit of the history was answered as the history before it defines
  abbrev pub JudgedAs : Summary E → Call E → Reply E → Type 0
  JudgedAs m (Begin k) x = Unit
  JudgedAs m (Read k r) x = Unit
  JudgedAs m (Write k r e) x = Unit
  JudgedAs m (Commit k) x = x ≡ verdict m k
  JudgedAs m (Drop k) x = Unit

  abbrev pub Judged : Summary E → List (Event E) → Type 0
  Judged m [] = Unit
  Judged m (e ∷ es) = JudgedAs m e.call e.reply × Judged (advance m e) es

-- what a day file keeps of committed transactions is in its range: the console, how many versions were noted and how many
-- overwritten, the low mark, and that each version is below the number of records and of all writes of earlier commits
module _ {E : Type 0} where
  abbrev pub made_in : ℕ → List (Transaction E) → ℕ
  made_in size [] = size
  made_in size (t ∷ ts) = made_in size ts + length (overwritten_in t.acts)

  pub record InRange (made : ℕ) (t : Transaction E) : Type 0 where
    pub console : t.console < 16
    pub reads : length (read_in t.acts) ≤ 64
    pub writes : length (overwritten_in t.acts) ≤ 16
    pub low : (1 ≤ t.grant.low) × (t.grant.low ≤ t.grant.stamp)
    pub read : (v : ℕ) → HasRead t v → v < made
    pub overwritten : (v : ℕ) → HasOverwritten t v → v < made

  abbrev pub AllInRange : ℕ → List (Transaction E) → Type 0
  AllInRange size [] = Unit
  AllInRange size (t ∷ ts) = InRange (made_in size ts) t × AllInRange size ts

-- dependencies one after another, from u to t
pub data Leads {E : Type 0} (done : List (Transaction E)) : Transaction E → Transaction E → Type 0 where
  one : {u t : Transaction E} → Depends done u t → Leads done u t
  more : {u t w : Transaction E} → Depends done u t → Leads done t w → Leads done u w

-- rank, of a log s and its committed transactions
pub record Ranked {E : Type 0} (s : LogState E) (done : List (Transaction E)) : Type 0 where
  -- every dependency leads from an earlier rank to a later one, and there is no cycle of dependencies
  pub forward : (u t : Transaction E) → Depends done u t → Before u t
  pub acyclic : (t : Transaction E) → Leads done t t → ⊥
  -- the commit stamps are 1, 2 and so on, the newest first in the list, and so distinct; rank is a strict total order
  pub stamps : (i : ℕ) (d : Transaction E) → i < length done → (slice_index_or done i d).grant.stamp + i ≡ length done
  pub total : (u t : Transaction E) → Has u done → Has t done → (u ≡ t) ⊎ (Before u t ⊎ Before t u)
  pub sorted : Sorted (in_rank done)
  -- what `order` answers is the rank, all of it and nothing else
  pub counted : s.ranks.count ≡ length done
  pub order : joined s.ranks.by_low ≡ map (λ t. t.grant.stamp) (in_rank done)

-- serial replay, of a log of size records at the entry first
pub record Serial {E : Type 0} (size : ℕ) (first : E) (s : LogState E) (done : List (Transaction E)) : Type 0 where
  -- each transaction's reads give the entry that the log gave
  pub reads : Replays first (replicate size first) (in_rank done)
  -- each record ends with the entry of its newest version
  pub ends : (r : ℕ) → r < size → slice_index_or (ran_all (replicate size first) (in_rank done)) r first ≡ (newest_at s.store r).entry

-- marks and verdicts, of a log of size records and its history
pub record Marked {E : Type 0} (size : ℕ) (s : LogState E) (h : List (Event E)) : Type 0 where
  -- the log keeps the marks of the versions that the history has made, and no other
  pub counted : length s.marks ≡ (summary_of size h).next
  pub marks : (v : ℕ) → v < (summary_of size h).next → mark_at s.marks v ≡ mark_of (summary_of size h).done v
  -- each commit was granted, or refused, as the history defines
  pub judged : Judged (unused size) h

-- the law, of a log s that the history h led to from an opening with size records at the entry first, in room places
pub record Lawful {E : Type 0} (rules : Rules) (size room : ℕ) (first : E) (s : LogState E) (h : List (Event E)) : Type 0 where
  pub rank : Ranked s (summary_of size h).done
  pub serial : Serial size first s (summary_of size h).done
  pub marks : Marked size s h
  pub striking : Struck rules size room first s h
  -- a day has 4,000 commits at most, and what a day file keeps of them is in range
  pub day : length (summary_of size h).done ≤ 4000
  pub entries : AllInRange size (summary_of size h).done
