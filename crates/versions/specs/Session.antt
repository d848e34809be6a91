-- What the consoles keep.
use Rattle.std.specs.Prelude.{◌≡◌, ℕ, ◌<◌, ◌≤◌, false, List, map, length, Some, None, Ok, Err, vec_items, vec_capacity, Option, Result, slice_index, slice_index_or}
use Rattle.std.specs.List.{All}
use Rattle.store.specs.declared.Refusal.{Refusal}
use Rattle.store.specs.declared.Pending.{Pending}
use Rattle.versions.specs.declared.session.Session.{Session}
use Rattle.versions.specs.declared.session.Hold.{Hold}
use Rattle.store.specs.Meaning.{Console, any_holds, live_at}
use Rattle.store.specs.Consoles.{pend_at, records_at, ats}
use Rattle.store.specs.Refusals.{code_of}
use Rattle.store.specs.Refusals.Answer.{refuses}

-- the console that the hold of record r names
abbrev pub console_held : List Hold → ℕ → ℕ
console_held holds r = slice_index (map (λ h. h.console.number) holds) r

-- the place that the hold of record r names
abbrev pub place_held : List Hold → ℕ → ℕ
place_held holds r = slice_index (map (λ h. h.place) holds) r

module _ {E : Type 0} where
  abbrev pub console_with : Option ℕ → List (Pending E) → Option (Console E)
  console_with None ps = None
  console_with (Some b) ps = Some (record { began = b; pending = ps })

  abbrev pub console_of : Session E → Option (Console E)
  console_of d = console_with d.began (vec_items d.pending)

  abbrev pub consoles_from : List (Session E) → List (Option (Console E))
  consoles_from sessions = map console_of sessions

  abbrev pub Reserved : ℕ → List (Session E) → Type 0
  Reserved room sessions = All (λ d. room ≤ vec_capacity d.pending) sessions

  -- a console that is shut has nothing pending
  abbrev pub spare : Option ℕ → List (Pending E) → ℕ
  spare None ps = length ps
  spare (Some b) ps = 0

  abbrev pub Empty : List (Session E) → Type 0
  Empty sessions = All (λ d. spare d.began (vec_items d.pending) ≡ 0) sessions

  -- each entry is of a record below n
  abbrev pub Within : ℕ → List (Pending E) → Type 0
  Within n ps = All (λ r. r < n) (ats ps)

  -- what is known of a console that a call asks for
  abbrev pub Live : List (Option (Console E)) → ℕ → Result ℕ Refusal → Type 0
  Live cs k (Err e) = live_at cs k ≡ refuses (code_of e)
  Live cs k (Ok b) = (k < 16) × (slice_index_or cs k None ≡ Some (record { began = b; pending = pend_at cs k }))

  -- an entry is pending at a record
  abbrev pub Listed : List Hold → List (Option (Console E)) → Type 0
  Listed holds cs = (k : ℕ) → Within (length holds) (pend_at cs k)

  -- every pending entry's record leads back to it: to its console, and to its place there
  abbrev pub Held : List Hold → List (Option (Console E)) → Type 0
  Held holds cs = (k j : ℕ) → j < length (records_at cs k) → console_held holds (slice_index (records_at cs k) j) ≡ k

  abbrev pub Placed : List Hold → List (Option (Console E)) → Type 0
  Placed holds cs = (k j : ℕ) → j < length (records_at cs k) → place_held holds (slice_index (records_at cs k) j) ≡ j

  -- where the pending entry of record r stands, if it has one
  abbrev pub Found : List (Option (Console E)) → ℕ → Option Hold → Type 0
  Found cs r None = any_holds cs r ≡ false
  Found cs r (Some h) = (h.place < length (records_at cs h.console.number)) × (slice_index (records_at cs h.console.number) h.place ≡ r)
