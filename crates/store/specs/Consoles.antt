-- What a console has pending.
use Rattle.std.specs.Prelude.{ℕ, List, map, None, Option, slice_index_or}
use Rattle.store.specs.declared.Pending.{Pending}
use Rattle.store.specs.Meaning.{Console, pending_list}

module _ {E : Type 0} where
  abbrev pub pend_at : List (Option (Console E)) → ℕ → List (Pending E)
  pend_at cs k = pending_list (slice_index_or cs k None)

  abbrev pub ats : List (Pending E) → List ℕ
  ats ps = map (λ p. p.at) ps

  -- the records at which a console has an entry pending, by first write
  abbrev pub records_at : List (Option (Console E)) → ℕ → List ℕ
  records_at cs k = map (λ p. p.at) (pend_at cs k)
