-- Striking: without its refused calls and its transactions that never committed, a history answers as it did.
use Rattle.std.specs.Prelude.{◌≡◌, ℕ, Bool, true, false, cond, ◌&&◌, List, [], ◌∷◌, map, ◌==◌}
use Rattle.store.specs.Meaning.{Rules}
use Rattle.certifier.specs.declared.Call.{Call}
use Rattle.certifier.specs.Meaning.{LogState, Reply, opened, answers_of, after}
use Rattle.certifier.specs.Meaning.Reply.{begun, own, saw, overwrites, granted, dropped, refused}
use Rattle.runs.specs.History.{Event, console_of}

module _ {E : Type 0} where
  abbrev pub accepted : Reply E → Bool
  accepted (begun b) = true
  accepted (own e) = true
  accepted (saw v) = true
  accepted (overwrites n) = true
  accepted (granted g) = true
  accepted dropped = true
  accepted (refused c) = false

  abbrev pub is_granted : Reply E → Bool
  is_granted (begun b) = false
  is_granted (own e) = false
  is_granted (saw v) = false
  is_granted (overwrites n) = false
  is_granted (granted g) = true
  is_granted dropped = false
  is_granted (refused c) = false

  -- the answers that end a transaction: a granted commit, a drop, UNSAFE
  abbrev pub ends : Reply E → Bool
  ends (begun b) = false
  ends (own e) = false
  ends (saw v) = false
  ends (overwrites n) = false
  ends (granted g) = true
  ends dropped = true
  ends (refused c) = c.number == 11

  -- whether the transaction that is open at console k, or opens there next, commits: the first event of k that ends one is a granted commit
  abbrev pub fate : ℕ → List (Event E) → Bool
  fate k [] = false
  fate k (v ∷ rest) = cond (ends v.reply && console_of v.call == k) (is_granted v.reply) (fate k rest)

  -- the events that are left once each refused call and each call of a transaction that never committed is struck
  abbrev pub kept : List (Event E) → List (Event E)
  kept [] = []
  kept (v ∷ rest) = cond (accepted v.reply && fate (console_of v.call) (v ∷ rest)) (v ∷ kept rest) (kept rest)

  abbrev pub calls_of : List (Event E) → List (Call E)
  calls_of h = map (λ v. v.call) h

  abbrev pub answers_in : List (Event E) → List (Reply E)
  answers_in h = map (λ v. v.reply) h

-- the same as a rule: console k's transaction commits if the first event of k that ends one is a granted commit
pub data Commits {E : Type 0} (k : ℕ) : List (Event E) → Type 0 where
  now : {v : Event E} {rest : List (Event E)} → console_of v.call ≡ k → is_granted v.reply ≡ true → Commits k (v ∷ rest)
  later : {v : Event E} {rest : List (Event E)} → (console_of v.call ≡ k → ends v.reply ≡ false) → Commits k rest → Commits k (v ∷ rest)

-- left is what is left of a history: an accepted call stays if its console's transaction commits, and every other call is struck
pub data Left {E : Type 0} : List (Event E) → List (Event E) → Type 0 where
  end : Left [] []
  stays : {v : Event E} {rest left : List (Event E)} → accepted v.reply ≡ true → Commits (console_of v.call) (v ∷ rest) → Left rest left → Left (v ∷ rest) (v ∷ left)
  struck : {v : Event E} {rest left : List (Event E)} → (accepted v.reply ≡ true → Commits (console_of v.call) (v ∷ rest) → ⊥) → Left rest left → Left (v ∷ rest) left

-- two logs with equal clocks, equal versions and equal marks
pub record Alike {E : Type 0} (s t : LogState E) : Type 0 where
  pub clock : s.store.clock ≡ t.store.clock
  pub next : s.store.next ≡ t.store.next
  pub chains : s.store.chains ≡ t.store.chains
  pub marks : s.marks ≡ t.marks
  pub ranks : s.ranks ≡ t.ranks

-- what is left of the history h, played on a log opened alike, beside the log s that h led to
pub record Struck {E : Type 0} (rules : Rules) (size room : ℕ) (first : E) (s : LogState E) (h : List (Event E)) : Type 0 where
  -- what is left is left by the rule
  pub left : Left h (kept h)
  -- each call that is left gets the answer that it had
  pub answers : answers_of rules (opened size room first) (calls_of (kept h)) ≡ answers_in (kept h)
  -- and they leave equal versions, equal marks and equal ranks
  pub alike : Alike (after rules (opened size room first) (calls_of (kept h))) s
