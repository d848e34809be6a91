-- What holds of every history of a run, said of versions by number: each committed transaction fits those before it.
use Rattle.std.proofs.Common.{◌≡◌, ℕ, ◌+◌, ◌-◌, ◌<◌, ◌≤◌, cond, eqb, List, [], ◌∷◌, ◌++◌, length, get_or, Some, None}
use Rattle.store.specs.declared.Version.{Version}
use Rattle.store.specs.declared.Pending.{Pending}
use Rattle.store.specs.Meaning.{own_at, replaced, origin}
use Rattle.runs.specs.History.{Act, Transaction, grant_of, read_in, overwritten_in, records_in}
use Rattle.runs.specs.History.Act.{took_own, took_version, put}
use Rattle.runs.specs.Law.{Has}

module _ {E : Type 0} where
  -- the entries that a transaction's writes leave pending, one a record, by first write
  abbrev pub pending_after : List (Pending E) → List (Act E) → List (Pending E)
  pending_after ps [] = ps
  pending_after ps (took_own r e ∷ rest) = pending_after ps rest
  pending_after ps (took_version r v ∷ rest) = pending_after ps rest
  pending_after ps (put r e n ∷ rest) = pending_after (replaced ps r e) rest

  -- the versions of record r that pending entries become, at a stamp and from a number on
  abbrev pub added_by : ℕ → ℕ → List (Pending E) → ℕ → List (Version E)
  added_by c n [] r = []
  added_by c n (p ∷ ps) r = cond (eqb p.at r) (record { number = n; stamp = c; entry = p.entry } ∷ []) [] ++ added_by c (n + 1) ps r

  -- every version of record r that was ever made, oldest first
  abbrev pub chain_of : E → List (Transaction E) → ℕ → List (Version E)
  chain_of first [] r = record { number = r; stamp = 0; entry = first } ∷ []
  chain_of first (t ∷ ts) r = chain_of first ts r ++ added_by t.grant.stamp t.first (pending_after [] t.acts) r

  -- the newest version of a chain
  abbrev pub newest_of : E → List (Version E) → Version E
  newest_of first c = get_or c (length c - 1) (origin first)

  -- the next unused number after ts, from the number of records on
  abbrev pub next_of : ℕ → List (Transaction E) → ℕ
  next_of size [] = size
  next_of size (t ∷ ts) = next_of size ts + length (records_in t.acts)

  -- acts of a transaction after ts: of known records; an own entry was read exactly where one was pending, else a version
  -- that had been made; a write overwrites the newest version
  abbrev pub Valid : E → ℕ → List (Transaction E) → List (Pending E) → List (Act E) → Type 0
  Valid first size ts ps [] = Unit
  Valid first size ts ps (took_own r e ∷ rest) = (r < size) × (own_at ps r ≡ Some e) × Valid first size ts ps rest
  Valid first size ts ps (took_version r v ∷ rest) = (r < size) × (own_at ps r ≡ None) × Has v (chain_of first ts r) × Valid first size ts ps rest
  Valid first size ts ps (put r e n ∷ rest) = (r < size) × (n ≡ (newest_of first (chain_of first ts r)).number) × Valid first size ts (replaced ps r e) rest

  -- t came by a granted commit after ts
  pub record Fits (first : E) (size : ℕ) (t : Transaction E) (ts : List (Transaction E)) : Type 0 where
    pub grant : t.grant ≡ grant_of ts t.acts
    pub safe : t.grant.high < t.grant.low
    pub number : t.first ≡ next_of size ts
    pub valid : Valid first size ts [] t.acts
    pub near : t.console < 16
    pub few : (length (read_in t.acts) ≤ 64) × (length (overwritten_in t.acts) ≤ 16)
    pub even : length (overwritten_in t.acts) ≡ length (records_in t.acts)

  abbrev pub Good : E → ℕ → List (Transaction E) → Type 0
  Good first size [] = Unit {0}
  Good first size (t ∷ ts) = Fits first size t ts × Good first size ts
