-- The invariant of runs: what ties a log's state to its history, and that it is kept where one console changes.
use Rattle.std.proofs.lemmas.Grind.{common_steps}
use Rattle.std.proofs.Common.{◌≡◌, ℕ, ◌+◌, ◌<◌, ◌≤◌, Bool, true, List, [], ◌∷◌, length, get_or, set, Some, None, Option, sym, refl, ap, ◌∙◌, subst, ⊎_elim, arith}
use Rattle.std.proofs.lemmas.List.{get_or-set_same, get_or-set_other, length-set}
use Rattle.std.proofs.lemmas.Bool.{cases_eq}
use Rattle.store.specs.Meaning.{Console, holds, pending_list, pending_in, versions_in, console_at, chain_at}
use Rattle.certifier.specs.Marking.{Track, no_track, mark_at}
use Rattle.certifier.specs.Ranking.{Ranks, unranked, ranked}
use Rattle.certifier.specs.Meaning.{LogState, track_at}
use Rattle.runs.specs.History.{Act, Transaction, Summary, current_at, acts_at, with_current, mark_of}
use Rattle.runs.proofs.Goods.{chain_of, next_of, Good}
use Rattle.runs.proofs.Acts.{Row}

module _ {E : Type 0} where
  -- the commits by rank, as they came
  abbrev pub ranks_in : List (Transaction E) → Ranks
  ranks_in [] = unranked
  ranks_in (t ∷ ts) = ranked (ranks_in ts) t.grant.low

  abbrev pub console_holds : Option (Console E) → ℕ → Bool
  console_holds o q = holds (pending_list o) q

  -- a console of the store, the history's open transaction there, and its track
  abbrev pub Matches : E → ℕ → List (Transaction E) → Option (Console E) → Option (List (Act E)) → Track → Type 0
  Matches first size ts None None t = Unit {0}
  Matches first size ts None (Some acts) t = ⊥
  Matches first size ts (Some o) None t = ⊥
  Matches first size ts (Some o) (Some acts) t = Row first size ts o.pending acts t

  pub record Tied (first : E) (size : ℕ) (m : Summary E) (s : LogState E) : Type 0 where
    pub good : Good first size m.done
    pub next : m.next ≡ next_of size m.done
    pub entry : s.store.first ≡ first
    pub records : length s.store.chains ≡ size
    pub chains : (q : ℕ) → q < size → chain_at s.store q ≡ chain_of first m.done q
    pub clock : s.store.clock ≡ length m.done
    pub day : length m.done ≤ 4000
    pub unused : s.store.next ≡ next_of size m.done
    pub versions : versions_in s.store.chains ≡ s.store.next
    pub places : s.places ≡ s.store.room
    pub room : s.store.next + pending_in s.store.consoles ≤ s.store.room
    pub counted : length s.marks ≡ next_of size m.done
    pub marks : (v : ℕ) → v < next_of size m.done → mark_at s.marks v ≡ mark_of m.done v
    pub ranks : s.ranks ≡ ranks_in m.done
    pub consoles : length s.store.consoles ≡ 16
    pub tracks : length s.tracks ≡ 16
    pub current : length m.current ≡ 16
    pub rows : (k : ℕ) → Matches first size m.done (console_at s.store k) (current_at m k) (track_at s k)
    pub apart : (j k q : ℕ) → (j ≡ k → ⊥) → console_holds (console_at s.store j) q ≡ true → console_holds (console_at s.store k) q ≡ true → ⊥

  -- the log with other consoles and tracks
  abbrev pub inside : LogState E → List (Option (Console E)) → List Track → LogState E
  inside s cs ts = record {
    store = record { first = s.store.first; clock = s.store.clock; next = s.store.next; room = s.store.room; chains = s.store.chains; consoles = cs };
    places = s.places;
    marks = s.marks;
    tracks = ts;
    ranks = s.ranks;
  }

  pub matches_by : (first : E) (size : ℕ) (ts : List (Transaction E)) {o o' : Option (Console E)} {p p' : Option (List (Act E))} {t t' : Track}
      → o ≡ o' → p ≡ p' → t ≡ t' → Matches first size ts o p t → Matches first size ts o' p' t'
  matches_by first size ts {o} {o'} {p} {p'} {t} {t'} eo ep et h = grind (arith, common_steps)

  -- what console k's row has to be, and where its entries may stand, for consoles cs and tracks ts that differ there alone
  pub record Change (first : E) (size : ℕ) (m : Summary E) (s : LogState E) (k : ℕ) (cs : List (Option (Console E))) (ts : List Track) (p : Option (List (Act E))) : Type 0 where
    pub near : k < 16
    pub consoles : length cs ≡ 16
    pub tracks : length ts ≡ 16
    pub other_consoles : (j : ℕ) → (j ≡ k → ⊥) → get_or cs j None ≡ console_at s.store j
    pub other_tracks : (j : ℕ) → (j ≡ k → ⊥) → get_or ts j no_track ≡ track_at s j
    pub row : Matches first size m.done (get_or cs k None) p (get_or ts k no_track)
    pub free : (q j : ℕ) → (j ≡ k → ⊥) → console_holds (get_or cs k None) q ≡ true → console_holds (console_at s.store j) q ≡ true → ⊥
    pub room : s.store.next + pending_in cs ≤ s.store.room

  pub change : {first : E} {size : ℕ} {m : Summary E} {s : LogState E} {k : ℕ} {cs : List (Option (Console E))} {ts : List Track} {p : Option (List (Act E))}
      → Tied first size m s → Change first size m s k cs ts p → Tied first size (with_current m k p) (inside s cs ts)
  change {first} {size} {m} {s} {k} {cs} {ts} {p} h c = record {
    good = h.good;
    next = h.next;
    entry = h.entry;
    records = h.records;
    chains = h.chains;
    clock = h.clock;
    day = h.day;
    unused = h.unused;
    versions = h.versions;
    places = h.places;
    room = c.room;
    counted = h.counted;
    marks = h.marks;
    ranks = h.ranks;
    consoles = c.consoles;
    tracks = c.tracks;
    current = length-set m.current k p ∙ h.current;
    rows = λ j. ⊎_elim
        (λ e. let P : ℕ → Type 0 = λ i. Matches first size m.done (get_or cs i None) (get_or (set m.current k p) i None) (get_or ts i no_track) in
        subst P (sym e) (matches_by first size m.done refl (sym (get_or-set_same m.current k p None (omega (arith, h.current, c.near)))) refl c.row))
        (λ ne. matches_by first size m.done (sym (c.other_consoles j ne)) (sym (get_or-set_other m.current k j p None ne)) (sym (c.other_tracks j ne)) (h.rows j))
        (cases_eq j k);
    apart = apart';
  }
    where
      other : (j q : ℕ) → (j ≡ k → ⊥) → console_holds (get_or cs j None) q ≡ true → console_holds (console_at s.store j) q ≡ true
      other j q ne a = sym (ap (λ x. console_holds x q) (c.other_consoles j ne)) ∙ a

      same : (j q : ℕ) → j ≡ k → console_holds (get_or cs j None) q ≡ true → console_holds (get_or cs k None) q ≡ true
      same j q e a = sym (ap (λ i. console_holds (get_or cs i None) q) e) ∙ a

      apart' : (j i q : ℕ) → (j ≡ i → ⊥) → console_holds (get_or cs j None) q ≡ true → console_holds (get_or cs i None) q ≡ true → ⊥
      apart' j i q ne a b =
          ⊎_elim
          (λ ej. let ni : i ≡ k → ⊥ = λ ei. ne (ej ∙ sym ei) in c.free q i ni (same j q ej a) (other i q ni b))
          (λ nj. ⊎_elim
          (λ ei. c.free q j nj (same i q ei b) (other j q nj a))
          (λ ni. h.apart j i q ne (other j q nj a) (other i q ni b))
          (cases_eq i k))
          (cases_eq j k)

  -- an open console's row, and that a shut one has none
  pub row_at : {first : E} {size : ℕ} {m : Summary E} {s : LogState E} → Tied first size m s → (k : ℕ) (o : Console E) → console_at s.store k ≡ Some o
      → (current_at m k ≡ Some (acts_at m k)) × Row first size m.done o.pending (acts_at m k) (track_at s k)
  row_at {first} {size} {m} {s} h k o e = grind (arith, common_steps)

  pub shut_at : {first : E} {size : ℕ} {m : Summary E} {s : LogState E} → Tied first size m s → (k : ℕ) → console_at s.store k ≡ None → current_at m k ≡ None
  shut_at {first} {size} {m} {s} h k e = grind (arith, common_steps)
