-- The version that a read rule shows, found along the links from the newest.
use Rattle.std.proofs.Common.{◌≡◌, ℕ, ◌<◌, ◌≤◌, Bool, true, false, cond, List, [], ◌∷◌, ◌++◌, length, get_or, Some, None, Option, sym, refl, ap, ◌∙◌, arith}
use Rattle.std.proofs.lemmas.List.{get_or_append_left, get_or_push, length-map, map_push}
use Rattle.std.proofs.lemmas.Bool.{cond-true, cond-false}
use Rattle.store.specs.declared.Version.{Version}
use Rattle.versions.specs.declared.row.Row.{Row}
use Rattle.store.specs.Meaning.{Rules, picked, stamps_of}
use Rattle.versions.specs.Places.{depth_of, link_of, place_at, depth, walk, chain_from, Down, Live}
use Rattle.store.specs.Kinds.{last_passing, Tested}
use Rattle.store.specs.Lasts.{last_push, last_inside}
use Rattle.versions.proofs.Ways.{walk_spare, chain_used, walk_none, walk_some}

module _ {E : Type 0} where
  -- the chain up to a row
  abbrev pub chain_to : E → List (Option (Row E)) → Row E → List (Version E)
  chain_to e ps row = walk e ps row.version.number row.older ++ row.version ∷ []

  -- a row's link leads to a used place below it
  abbrev pub Linked : List (Option (Row E)) → Row E → Type 0
  Linked ps row = (j : ℕ) → row.older ≡ Some j → (0 < depth ps j) × (depth ps j ≤ row.version.number)

  pub linked_at : (ps : List (Option (Row E))) → Down ps → Live ps → (i : ℕ) (row : Row E) → Some row ≡ place_at ps i → Linked ps row
  linked_at ps down live i row is j older =
      let link = ap link_of (sym is) ∙ older in
      let here = ap depth_of is in
      let low = down i j link in
      (live i j link, omega arith)

  module _ (k : Rules) (test : ℕ → ℕ → Bool) (tested : Tested k test) (d : Version E) (front : List (Version E)) (v : Version E) (began : ℕ) where
    shown_push : k.shown (stamps_of (front ++ v ∷ [])) began ≡ cond (test v.stamp began) (length front) (last_passing (λ s. test s began) (stamps_of front))
    shown_push =
        let at = tested (stamps_of (front ++ v ∷ [])) began in
        let push = map_push (λ (x : Version E). x.stamp) front v in
        let last = last_push (λ s. test s began) 0 0 (stamps_of front) v.stamp in
        at ∙ ap (last_passing (λ s. test s began)) push ∙ last ∙ ap (λ n. cond (test v.stamp began) n (last_passing (λ s. test s began) (stamps_of front))) (simp length-map (omega arith))

    pub pick_last : test v.stamp began ≡ true → picked k d (front ++ v ∷ []) began ≡ v
    pick_last yes' = ap (λ n. get_or (front ++ v ∷ []) n d) (shown_push ∙ cond-true _ _ _ yes') ∙ get_or_push front v d (length front) refl

    pub pick_front : test v.stamp began ≡ false → 0 < length front → picked k d (front ++ v ∷ []) began ≡ picked k d front began
    pick_front no' some =
        let below = last_inside (λ s. test s began) (stamps_of front) (simp length-map some) in
        let long = length-map front (λ (x : Version E). x.stamp) in
        let old : k.shown (stamps_of front) began ≡ last_passing (λ s. test s began) (stamps_of front) = tested (stamps_of front) began in
        let at : k.shown (stamps_of (front ++ v ∷ [])) began ≡ k.shown (stamps_of front) began = shown_push ∙ cond-false _ _ _ no' ∙ sym old in
        ap (λ n. get_or (front ++ v ∷ []) n d) at ∙ get_or_append_left front (v ∷ []) d (k.shown (stamps_of front) began) (omega arith)

  pub pick_only : (k : Rules) (test : ℕ → ℕ → Bool) → Tested k test → (d v : Version E) (began : ℕ) → picked k d (v ∷ []) began ≡ v
  pick_only k test tested d v began =
      let at : k.shown (v.stamp ∷ []) began ≡ 0 = tested (v.stamp ∷ []) began ∙ (elim (test v.stamp began) as (λ t. ◌≡◌ {A = ℕ} (cond t 0 0) 0) [ true ↦ refl | false ↦ refl ]) in
      ap (λ n. get_or (v ∷ []) n d) at

  module _ (k : Rules) (test : ℕ → ℕ → Bool) (tested : Tested k test) (e : E) (ps : List (Option (Row E))) (d : Version E) (began : ℕ) (row : Row E) where
    pub pick_here : test row.version.stamp began ≡ true → picked k d (chain_to e ps row) began ≡ row.version
    pick_here yes' = pick_last k test tested d (walk e ps row.version.number row.older) row.version began yes'

    pub pick_first : row.older ≡ None → picked k d (chain_to e ps row) began ≡ row.version
    pick_first none =
        let front : walk e ps row.version.number row.older ≡ [] = ap (walk e ps row.version.number) none ∙ walk_none e ps row.version.number in
        ap (λ w. picked k d (w ++ row.version ∷ []) began) front ∙ pick_only k test tested d row.version began

    pub pick_older : Down ps → Live ps → Linked ps row → (j : ℕ) → test row.version.stamp began ≡ false → row.older ≡ Some j → (next : Row E) → Some next ≡ place_at ps j
        → picked k d (chain_to e ps row) began ≡ picked k d (chain_to e ps next) began
    pick_older down live linked j no' older next is =
        let up = linked j older in
        let spare = walk_spare e ps down live row.version.number (depth ps j) (Some j) (λ m q. let z : depth ps j ≡ depth ps m = cc in (omega arith, omega arith, omega arith)) in
        let front : walk e ps row.version.number row.older ≡ chain_from e ps j = ap (walk e ps row.version.number) older ∙ spare in
        let some : 0 < length (walk e ps row.version.number row.older) = rw front (walk_some e ps (depth ps j) j up.0) in
        pick_front k test tested d (walk e ps row.version.number row.older) row.version began no' some
        ∙ ap (λ c. picked k d c began) (front ∙ chain_used e ps j next is)
