-- How a record's chain is read off the places. A version's depth is its number plus one, a free place has depth 0,
-- and a link leads to a lower depth: so the way from a place has as many steps as its depth, at most.
use Rattle.std.specs.Prelude.{◌≡◌, ◌≢◌, ℕ, zero, suc, ◌+◌, ◌<◌, ◌≤◌, List, [], ◌∷◌, ◌++◌, map, length, Some, None, Option, slice_index, slice_index_or}
use Rattle.std.specs.List.{All, AllPairs}
use Rattle.store.specs.declared.Version.{Version}
use Rattle.store.specs.Meaning.{origin, versions_in}
use Rattle.versions.specs.declared.row.Row.{Row}

module _ {E : Type 0} where
  abbrev pub depth_of : Option (Row E) → ℕ
  depth_of None = 0
  depth_of (Some r) = suc r.version.number

  abbrev pub link_of : Option (Row E) → Option ℕ
  link_of None = None
  link_of (Some r) = r.older

  abbrev pub record_of : Option (Row E) → ℕ
  record_of None = 0
  record_of (Some r) = r.owner

  abbrev pub version_of : E → Option (Row E) → Version E
  version_of e None = origin e
  version_of e (Some r) = r.version

  abbrev pub place_at : List (Option (Row E)) → ℕ → Option (Row E)
  place_at ps i = slice_index_or ps i None

  abbrev pub depth : List (Option (Row E)) → ℕ → ℕ
  depth ps i = depth_of (place_at ps i)

  abbrev pub link : List (Option (Row E)) → ℕ → Option ℕ
  link ps i = link_of (place_at ps i)

  abbrev pub walk : E → List (Option (Row E)) → ℕ → Option ℕ → List (Version E)
  walk e ps zero o = []
  walk e ps (suc n) None = []
  walk e ps (suc n) (Some i) = walk e ps n (link ps i) ++ (version_of e (place_at ps i) ∷ [])

  abbrev pub chain_from : E → List (Option (Row E)) → ℕ → List (Version E)
  chain_from e ps i = walk e ps (depth ps i) (Some i)

  abbrev pub chains_from : E → List (Option (Row E)) → List ℕ → List (List (Version E))
  chains_from e ps newest = map (chain_from e ps) newest

  abbrev pub Down : List (Option (Row E)) → Type 0
  Down ps = (i j : ℕ) → link ps i ≡ Some j → depth ps j < depth ps i

  abbrev pub Live : List (Option (Row E)) → Type 0
  Live ps = (i j : ℕ) → link ps i ≡ Some j → 0 < depth ps j

  abbrev pub Mine : List (Option (Row E)) → Type 0
  Mine ps = (i j : ℕ) → link ps i ≡ Some j → record_of (place_at ps j) ≡ record_of (place_at ps i)

  abbrev pub Headed : List (Option (Row E)) → List ℕ → Type 0
  Headed ps newest = All (λ i. 0 < depth ps i) newest

  abbrev pub Owned : List (Option (Row E)) → List ℕ → Type 0
  Owned ps newest = (r : ℕ) → r < length newest → record_of (place_at ps (slice_index newest r)) ≡ r

  -- the versions have numbers below how many there are
  abbrev pub Numbered : E → List (Option (Row E)) → List ℕ → Type 0
  Numbered e ps newest = (i : ℕ) → depth ps i ≤ versions_in (chains_from e ps newest)

  abbrev pub Inside : List (Option (Row E)) → List ℕ → Type 0
  Inside ps free = All (λ i. i < length ps) free

  -- the places in the stack are free
  abbrev pub Vacant : List (Option (Row E)) → List ℕ → Type 0
  Vacant ps free = All (λ i. place_at ps i ≡ None) free

  abbrev pub Counted : E → List (Option (Row E)) → List ℕ → List ℕ → Type 0
  Counted e ps newest free = versions_in (chains_from e ps newest) + length free ≡ length ps

-- no place stands twice in the stack
abbrev pub Apart : List ℕ → Type 0
Apart free = AllPairs (λ i j. i ≢ j) free
