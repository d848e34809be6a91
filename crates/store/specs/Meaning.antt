-- What a store of versions means: its state, and what each call answers and leaves.
use Rattle.std.specs.Prelude.{◌≡◌, ℕ, zero, suc, ◌+◌, ◌-◌, ◌<◌, ◌≤◌, Bool, false, cond, ◌||◌, List, [], ◌∷◌, ◌++◌, map, length, Some, None, Ok, Err, Option, Result, ◌==◌, nat_lt, slice_index, slice_index_or, slice_set}
use Rattle.store.specs.declared.Layer.TheVariants.{Store}
use Rattle.store.specs.declared.Version.{Version}
use Rattle.store.specs.declared.Pending.{Pending}
use Rattle.store.specs.declared.Seen.{Seen}
use Rattle.store.specs.declared.Seen.TheVariants.{Own, Committed}
use Rattle.store.specs.declared.OpenFault.{OpenFault}
use Rattle.store.specs.declared.Refusal.{Refusal}
use Rattle.store.specs.declared.Code.{Code}
use Rattle.store.specs.Refusals.{Answer, answer_by, code_of, open_code, bad_table, no_console, no_record, shut, already_open, held, stale, no_room, day_full}
use Rattle.store.specs.Refusals.Answer.{gives, refuses}

-- the two rules that a kind of store states
pub record Rules : Type 0 where
  pub shown : List ℕ → ℕ → ℕ
  pub admits : ℕ → ℕ → Bool

-- the law of the read rule: the position lies inside any chain whose first stamp is at most the begin stamp
abbrev pub Inside : Rules → Type 0
Inside k = (stamps : List ℕ) (began : ℕ) → 0 < length stamps → slice_index stamps 0 ≤ began → k.shown stamps began < length stamps

-- an open console
pub record Console (E : Type 0) : Type 0 where
  pub began : ℕ
  pub pending : List (Pending E)

pub record State (E : Type 0) : Type 0 where
  pub first : E
  pub clock : ℕ
  pub next : ℕ
  pub room : ℕ
  pub chains : List (List (Version E))
  pub consoles : List (Option (Console E))

-- a call that goes on where a check gives something
abbrev pub onward : {A B : Type 0} → Answer A → (A → Answer B) → Answer B
onward (refuses c) f = refuses c
onward (gives a) f = f a

-- what a read shows: the console's own pending entry, or a version
pub data Shown (E : Type 0) : Type 0 where
  own : E → Shown E
  version : Version E → Shown E

module _ {E : Type 0} where
  -- the version that a record had at opening, but for its number
  abbrev pub origin : E → Version E
  origin e = record { number = 0; stamp = 0; entry = e }

  abbrev pub chain_at : State E → ℕ → List (Version E)
  chain_at s r = slice_index_or s.chains r []

  abbrev pub stamps_of : List (Version E) → List ℕ
  stamps_of c = map (λ v. v.stamp) c

  -- the version of a chain that the read rule shows
  abbrev pub picked : Rules → Version E → List (Version E) → ℕ → Version E
  picked rules d c began = slice_index_or c (rules.shown (stamps_of c) began) d

  abbrev pub newest_at : State E → ℕ → Version E
  newest_at s r = slice_index_or (chain_at s r) (length (chain_at s r) - 1) (origin s.first)

  abbrev pub console_at : State E → ℕ → Option (Console E)
  console_at s k = slice_index_or s.consoles k None

  -- the entry that is pending at record r
  abbrev pub own_at : List (Pending E) → ℕ → Option E
  own_at [] r = None
  own_at (p ∷ ps) r = cond (p.at == r) (Some p.entry) (own_at ps r)

  abbrev pub holds : List (Pending E) → ℕ → Bool
  holds [] r = false
  holds (p ∷ ps) r = p.at == r || holds ps r

  abbrev pub pending_list : Option (Console E) → List (Pending E)
  pending_list None = []
  pending_list (Some c) = c.pending

  abbrev pub any_holds : List (Option (Console E)) → ℕ → Bool
  any_holds [] r = false
  any_holds (c ∷ cs) r = holds (pending_list c) r || any_holds cs r

  abbrev pub pending_in : List (Option (Console E)) → ℕ
  pending_in [] = 0
  pending_in (c ∷ cs) = length (pending_list c) + pending_in cs

  abbrev pub versions_in : List (List (Version E)) → ℕ
  versions_in [] = 0
  versions_in (c ∷ cs) = length c + versions_in cs

  abbrev pub with_console : State E → ℕ → Option (Console E) → State E
  with_console s k c = record {
    first = s.first;
    clock = s.clock;
    next = s.next;
    room = s.room;
    chains = s.chains;
    consoles = slice_set s.consoles k c;
  }

  -- the console k, which must be one of sixteen and open
  abbrev pub open_or : Option (Console E) → Answer (Console E)
  open_or None = refuses (shut Store)
  open_or (Some c) = gives c

  abbrev pub live_at : List (Option (Console E)) → ℕ → Answer (Console E)
  live_at cs k = cond (nat_lt k 16) (open_or (slice_index_or cs k None)) (refuses (no_console Store))

  abbrev pub at_open : {A : Type 0} → State E → ℕ → (Console E → Answer A) → Answer A
  at_open s k f = onward (live_at s.consoles k) f

  -- the state after a call: changed where it gives something, else as it was
  abbrev pub answered : {A : Type 0} → State E → Answer A → (A → State E) → Answer A × State E
  answered s (refuses c) f = (refuses c, s)
  answered s (gives a) f = (gives a, f a)

  -- begin
  abbrev pub begin_answer : State E → ℕ → Answer ℕ
  begin_answer s k = cond (nat_lt k 16) (elim (console_at s k) [ None ↦ gives s.clock | Some c ↦ refuses (already_open Store) ]) (refuses (no_console Store))

  abbrev pub begin_of : State E → ℕ → Answer ℕ × State E
  begin_of s k = answered s (begin_answer s k) (λ b. with_console s k (Some (record { began = b; pending = [] })))

  -- read
  abbrev pub shown_at : Rules → State E → Console E → ℕ → Shown E
  shown_at rules s c r = elim (own_at c.pending r) [
    | Some e ↦ own e
    | None ↦ version (picked rules (origin s.first) (chain_at s r) c.began)
  ]

  abbrev pub read_of : Rules → State E → ℕ → ℕ → Answer (Shown E)
  read_of rules s k r = at_open s k (λ c. cond (nat_lt r (length s.chains)) (gives (shown_at rules s c r)) (refuses (no_record Store)))

  -- what each case of a read's answer stands for
  abbrev pub shown_by : Seen E → Shown E
  shown_by (Own e) = own e
  shown_by (Committed v) = version v

  abbrev pub read_answer : Result (Seen E) Refusal → Answer (Shown E)
  read_answer r = answer_by shown_by code_of r

  -- write
  abbrev pub replaced : List (Pending E) → ℕ → E → List (Pending E)
  replaced [] r e = record { at = r; entry = e } ∷ []
  replaced (p ∷ ps) r e = cond (p.at == r) (record { at = r; entry = e } ∷ ps) (p ∷ replaced ps r e)

  abbrev pub first_write : Rules → State E → Console E → ℕ → Answer ℕ
  first_write rules s c r =
      cond (any_holds s.consoles r) (refuses held)
      (cond (rules.admits (newest_at s r).stamp c.began)
      (cond (nat_lt (versions_in s.chains + pending_in s.consoles) s.room) (gives (newest_at s r).number) (refuses no_room))
      (refuses stale))

  abbrev pub write_answer : Rules → State E → ℕ → ℕ → Answer ℕ
  write_answer rules s k r =
      at_open s k (λ c. cond (nat_lt r (length s.chains))
      (cond (holds c.pending r) (gives (newest_at s r).number) (first_write rules s c r))
      (refuses (no_record Store)))

  abbrev pub wrote : Option (Console E) → ℕ → E → Option (Console E)
  wrote None r e = None
  wrote (Some c) r e = Some (record { began = c.began; pending = replaced c.pending r e })

  abbrev pub write_of : Rules → State E → ℕ → ℕ → E → Answer ℕ × State E
  write_of rules s k r e = answered s (write_answer rules s k r) (λ _. with_console s k (wrote (console_at s k) r e))

  -- commit
  abbrev pub appended : List (List (Version E)) → ℕ → ℕ → List (Pending E) → List (List (Version E))
  appended chains stamp next [] = chains
  appended chains stamp next (p ∷ ps) =
      appended (slice_set chains p.at (slice_index_or chains p.at [] ++ (record { number = next; stamp = stamp; entry = p.entry } ∷ []))) stamp (next + 1) ps

  abbrev pub pending_at : State E → ℕ → List (Pending E)
  pending_at s k = pending_list (console_at s k)

  abbrev pub committed : State E → ℕ → State E
  committed s k = record {
    first = s.first;
    clock = s.clock + 1;
    next = s.next + length (pending_at s k);
    room = s.room;
    chains = appended s.chains (s.clock + 1) s.next (pending_at s k);
    consoles = slice_set s.consoles k None;
  }

  abbrev pub commit_answer : State E → ℕ → Answer ℕ
  commit_answer s k = at_open s k (λ _. cond (nat_lt s.clock 4000) (gives (s.clock + 1)) (refuses (day_full Store)))

  abbrev pub commit_of : State E → ℕ → Answer ℕ × State E
  commit_of s k = answered s (commit_answer s k) (λ _. committed s k)

  -- drop
  abbrev pub drop_of : State E → ℕ → Answer Unit × State E
  drop_of s k = answered s (at_open s k (λ _. gives tt)) (λ _. with_console s k None)

  abbrev pub clock_of : State E → ℕ
  clock_of s = s.clock

  abbrev pub size_of : State E → ℕ
  size_of s = length s.chains

  -- opening
  abbrev pub shut_all : ℕ → List (Option (Console E))
  shut_all zero = []
  shut_all (suc n) = None ∷ shut_all n

  abbrev pub firsts : E → ℕ → ℕ → List (List (Version E))
  firsts e number zero = []
  firsts e number (suc n) = (record { number = number; stamp = 0; entry = e } ∷ []) ∷ firsts e (number + 1) n

  -- a fresh store of `size` records and `room` places
  abbrev pub opened : E → ℕ → ℕ → State E
  opened e size room = record {
    first = e;
    clock = 0;
    next = size;
    room = room;
    chains = firsts e 0 size;
    consoles = shut_all 16;
  }

-- the ranges of the number of records and of the number of places
abbrev pub Range : ℕ → ℕ → Type 0
Range size room = (1 ≤ size) × (size ≤ 256) × (size ≤ room) × (room ≤ 2048)

-- what opening answers: a fresh store; its refusal, exactly where a number is out of range; or that there is no memory
abbrev pub Unopened : ℕ → ℕ → Option Code → Type 0
Unopened size room (Some c) = (c ≡ bad_table) × (Range size room → ⊥)
Unopened size room None = Range size room

abbrev pub Opens : {S E : Type 0} → (S → State E) → ℕ → ℕ → E → Result S OpenFault → Type 0
Opens state size room first (Ok s) = Range size room × (state s ≡ opened first size room)
Opens state size room first (Err f) = Unopened size room (open_code f)
