-- The chains that the places stand for, when a free place is taken.
use Rattle.std.proofs.Common.{◌≡◌, ℕ, zero, suc, ◌+◌, ◌<◌, ◌≤◌, ◌≢◌, List, [], ◌∷◌, ◌++◌, length, get_or, set, Some, None, vec_items, Option, sym, refl, ap, ◌∙◌, inl, inr, arith}
use Rattle.std.proofs.lemmas.List.{get_or-set_same, get_or-set_other, length-set, length-map, get_or-map, map-set, length_push, get_or_push, get_or_append_left, get_or_read}
use Rattle.std.proofs.lemmas.List.Elements.{All-set, All-weaker}
use Rattle.std.proofs.lemmas.Bool.{cases_eq}
use Rattle.store.specs.declared.Version.{Version}
use Rattle.store.specs.Meaning.{versions_in}
use Rattle.versions.specs.declared.row.Row.{Row}
use Rattle.versions.specs.Places.{depth_of, link_of, record_of, version_of, place_at, depth, link, walk, chain_from, chains_from, Down, Live, Mine, Headed, Owned, Numbered, Inside, Vacant, Apart, Counted}
use Rattle.versions.specs.declared.table.Table.{Table}
use Rattle.versions.specs.Tables.{chains_of, next_of, Grows}
use Rattle.store.proofs.Lists.{map_same, versions_set}

module _ {E : Type 0} where
  -- steps to spare change nothing
  pub walk_spare : (e : E) (ps : List (Option (Row E))) → Down ps → Live ps → (m n : ℕ) (o : Option ℕ) → ((j : ℕ) → o ≡ Some j → (0 < depth ps j) × (depth ps j ≤ m) × (depth ps j ≤ n)) → walk e ps m o ≡ walk e ps n o
  walk_spare e ps down live zero zero o h = refl
  walk_spare e ps down live zero (suc n) None h = refl
  walk_spare e ps down live zero (suc n) (Some i) h = let l = h i refl in absurd (omega arith)
  walk_spare e ps down live (suc m) zero None h = refl
  walk_spare e ps down live (suc m) zero (Some i) h = let l = h i refl in absurd (omega arith)
  walk_spare e ps down live (suc m) (suc n) None h = refl
  walk_spare e ps down live (suc m) (suc n) (Some i) h =
      let l = h i refl in
      ap (λ w. w ++ (version_of e (place_at ps i) ∷ [])) (walk_spare e ps down live m n (link ps i) (λ j q. let d = down i j q in (live i j q, omega arith, omega arith)))

  -- the newest version of a chain stands at its end
  pub chain_used : (e : E) (ps : List (Option (Row E))) (i : ℕ) (row : Row E) → Some row ≡ place_at ps i → chain_from e ps i ≡ walk e ps row.version.number row.older ++ row.version ∷ []
  chain_used e ps i row q = ap (λ p. walk e ps (depth_of p) (Some i)) (sym q) ∙ ap (λ p. walk e ps row.version.number (link_of p) ++ (version_of e p ∷ [])) (sym q)

  pub walk_none : (e : E) (ps : List (Option (Row E))) (n : ℕ) → walk e ps n None ≡ []
  walk_none e ps zero = refl
  walk_none e ps (suc n) = refl

  pub walk_some : (e : E) (ps : List (Option (Row E))) (n i : ℕ) → 0 < n → 0 < length (walk e ps n (Some i))
  walk_some e ps zero i h = absurd (omega arith)
  walk_some e ps (suc n) i h = let l = length_push (walk e ps n (link ps i)) (version_of e (place_at ps i)) in omega arith

  module _ (ps : List (Option (Row E))) (i : ℕ) (x : Option (Row E)) (free : place_at ps i ≡ None) where
    pub apart : (j : ℕ) → 0 < depth ps j → place_at (set ps i x) j ≡ place_at ps j
    apart j h = get_or-set_other ps i j x None (λ e. let z = ap (depth ps) e ∙ ap depth_of free in omega arith)

    -- a free place that is written leaves the ways along used ones as they are
    pub walk_set : (e : E) → Live ps → (n : ℕ) (o : Option ℕ) → ((j : ℕ) → o ≡ Some j → 0 < depth ps j) → walk e (set ps i x) n o ≡ walk e ps n o
    walk_set e live zero o h = refl
    walk_set e live (suc n) None h = refl
    walk_set e live (suc n) (Some j) h =
        let same = apart j (h j refl) in
        let rest = walk_set e live n (link ps j) (λ m q. live j m q) in
        rw same (ap (λ w. w ++ (version_of e (place_at ps j) ∷ [])) rest)

  -- what a table keeps of its places, its newest versions and its free places
  pub record TableKept (e : E) (ps : List (Option (Row E))) (newest free : List ℕ) : Type 0 where
    pub down : Down ps
    pub live : Live ps
    pub mine : Mine ps
    pub headed : Headed ps newest
    pub owned : Owned ps newest
    pub numbered : Numbered e ps newest
    pub inside : Inside ps free
    pub vacant : Vacant ps free
    pub apart : Apart free
    pub counted : Counted e ps newest free

  module _ (a : Table E) (r : ℕ) (l : r < length (chains_of a)) where
    abbrev ps : List (Option (Row E))
    ps = vec_items a.places

    abbrev ns : List ℕ
    ns = vec_items a.newest

    pub record-within : r < length ns
    record-within = let n = length-map ns (chain_from a.first ps) in omega arith

    module _ (h : ℕ) (is : h ≡ get_or ns r h) where
      head_is : h ≡ get_or ns r 0
      head_is = get_or_read ns r h record-within is 0

      pub head_used : 0 < depth ps h
      head_used = let u = a.headed r 0 record-within in let e = ap (depth ps) head_is in omega arith

      pub head_chain : get_or (chains_of a) r [] ≡ chain_from a.first ps h
      head_chain = get_or-map (chain_from a.first ps) ns r 0 [] record-within ∙ ap (chain_from a.first ps) (sym head_is)

      head_mine : record_of (place_at ps h) ≡ r
      head_mine = ap (λ x. record_of (place_at ps x)) head_is ∙ a.owned r record-within

      -- place i, the last of the free ones, takes version v as the newest of record r, above the newest there
      module _ (i : ℕ) (rest : List ℕ) (q : vec_items a.free ≡ rest ++ i ∷ []) (v : Version E) (number : v.number ≡ next_of a) where
        abbrev new : Option (Row E)
        new = Some (record { version = v; owner = r; older = Some h })

        abbrev qs : List (Option (Row E))
        qs = set ps i new

        abbrev ms : List ℕ
        ms = set ns r i

        long : length (vec_items a.free) ≡ length rest + 1
        long = ap length q ∙ length_push rest i

        free_at : (k d : ℕ) → k < length rest → get_or (vec_items a.free) k d ≡ get_or rest k d
        free_at k d m = ap (λ f. get_or f k d) q ∙ get_or_append_left rest (i ∷ []) d k m

        top_at : (d : ℕ) → get_or (vec_items a.free) (length rest) d ≡ i
        top_at d = ap (λ f. get_or f (length rest) d) q ∙ get_or_push rest i d (length rest) refl

        free : place_at ps i ≡ None
        free = let n = long in sym (ap (place_at ps) (top_at 0)) ∙ a.vacant (length rest) 0 (omega arith)

        pub top_inside : i < length ps
        top_inside = let n = long in let t = top_at 0 in let u = a.inside (length rest) 0 (omega arith) in omega arith

        at_new : place_at qs i ≡ new
        at_new = get_or-set_same ps i new None top_inside

        chains_before : chains_from a.first qs ns ≡ chains_from a.first ps ns
        chains_before = map_same (chain_from a.first qs) (chain_from a.first ps) ns (λ k m.
            (let j = get_or ns k 0 in
            let u = a.headed k 0 m in
            ap (λ n. walk a.first qs n (Some j)) (ap depth_of (apart ps i new free j u)) ∙ walk_set ps i new free a.first a.live (depth ps j) (Some j) (λ o s. let z : depth ps j ≡ depth ps o = cc in omega arith)))

        chain_new : chain_from a.first qs i ≡ chain_from a.first ps h ++ v ∷ []
        chain_new =
            let n = a.numbered h in
            let u = head_used in
            let old = walk_set ps i new free a.first a.live v.number (Some h) (λ o s. let z : depth ps h ≡ depth ps o = cc in omega arith) in
            let spare = walk_spare a.first ps a.down a.live v.number (depth ps h) (Some h) (λ o s. let z : depth ps h ≡ depth ps o = cc in (omega arith, omega arith, omega arith)) in
            chain_used a.first qs i (record { version = v; owner = r; older = Some h }) (sym at_new) ∙ ap (λ w. w ++ v ∷ []) (old ∙ spare)

        table_chains : chains_from a.first qs ms ≡ set (chains_of a) r (get_or (chains_of a) r [] ++ v ∷ [])
        table_chains =
            map-set (chain_from a.first qs) ns r i
            ∙ ap (λ cs. set cs r (chain_from a.first qs i)) chains_before
            ∙ ap (set (chains_of a) r) (chain_new ∙ ap (λ c. c ++ v ∷ []) (sym head_chain))

        table_next : versions_in (chains_from a.first qs ms) ≡ next_of a + 1
        table_next = ap versions_in table_chains ∙ versions_set (chains_of a) r v l

        link_new : (j m : ℕ) → link qs j ≡ Some m → (0 < depth ps m) × (depth ps m < depth qs j) × (record_of (place_at ps m) ≡ record_of (place_at qs j))
        link_new j m e = elim (cases_eq j i) [
          | inl here ↦
              (let at : place_at qs j ≡ new = ap (place_at qs) here ∙ at_new in
              let t = ap link_of at in
              let s : h ≡ m = cc in
              let d = ap depth_of at in
              let b = ap (depth ps) s in
              let n = a.numbered h in
              let u = head_used in
              (omega arith, omega arith, ap (λ x. record_of (place_at ps x)) (sym s) ∙ head_mine ∙ sym (ap record_of at)))
          | inr there ↦
              (let at : place_at qs j ≡ place_at ps j = get_or-set_other ps i j new None there in
              let s : link ps j ≡ Some m = sym (ap link_of at) ∙ e in
              let n = ap depth_of at in
              let d = a.down j m s in
              (a.live j m s, omega arith, a.mine j m s ∙ sym (ap record_of at)))
        ]

        linked : (j m : ℕ) → link qs j ≡ Some m → (0 < depth qs m) × (depth qs m < depth qs j) × (record_of (place_at qs m) ≡ record_of (place_at qs j))
        linked j m e = let f = link_new j m e in rw (apart ps i new free m f.0) f

        -- the newest version of record k is where it was, or is the new one
        headed_push : Headed qs ms
        headed_push = All-set (λ j. 0 < depth qs j) ns r i (let d = ap depth_of at_new in omega arith) (All-weaker (λ j. 0 < depth ps j) (λ j. 0 < depth qs j) (λ j u. rw (apart ps i new free j u) u) ns a.headed)

        owned_push : Owned qs ms
        owned_push k m =
            let n = length-set ns r i in
            elim (cases_eq k r) [
              | inl here ↦
                  (let at : get_or ms k 0 ≡ i = ap (λ x. get_or ms x 0) here ∙ get_or-set_same ns r i 0 record-within in
                  ap (λ x. record_of (place_at qs x)) at ∙ ap record_of at_new ∙ sym here)
              | inr there ↦
                  (let old : k < length ns = omega arith in
                  ap (λ x. record_of (place_at qs x)) (get_or-set_other ns r k i 0 there) ∙ ap record_of (apart ps i new free (get_or ns k 0) (a.headed k 0 old)) ∙ a.owned k old)
            ]

        numbered_push : Numbered a.first qs ms
        numbered_push j =
            let more = table_next in
            elim (cases_eq j i) [
              | inl here ↦ (let d = ap (depth qs) here ∙ ap depth_of at_new in omega arith)
              | inr there ↦ (let d = ap depth_of (get_or-set_other ps i j new None there) in let n = a.numbered j in omega arith)
            ]

        vacant_push : Vacant qs rest
        vacant_push k d m =
            let n = long in
            let ne : get_or rest k d ≢ i = (λ e. a.apart k (length rest) d m (omega arith) (free_at k d m ∙ e ∙ sym (top_at d))) in
            get_or-set_other ps i (get_or rest k d) new None ne ∙ ap (place_at ps) (sym (free_at k d m)) ∙ a.vacant k d (omega arith)

        pub table_kept : TableKept a.first qs ms rest
        table_kept =
            let n = long in
            let places = length-set ps i new in record {
              down = λ j m e. (linked j m e).1;
              live = λ j m e. (linked j m e).0;
              mine = λ j m e. (linked j m e).2;
              headed = headed_push;
              owned = owned_push;
              numbered = numbered_push;
              inside = λ k d m. (let f = free_at k d m in let u = a.inside k d (omega arith) in omega arith);
              vacant = vacant_push;
              apart = λ j k d m o e. a.apart j k d m (omega arith) (free_at j d (omega arith) ∙ e ∙ sym (free_at k d o));
              counted = (let more = table_next in let c = a.counted in omega arith);
            }

        -- the table b that the places and the newest versions make
        pub table_grown : (b : Table E) → b.first ≡ a.first → vec_items b.places ≡ qs → vec_items b.newest ≡ ms
            → Grows a b (set (chains_of a) r (get_or (chains_of a) r [] ++ record { number = next_of a; stamp = v.stamp; entry = v.entry } ∷ [])) 1
        table_grown b first places newest =
            let same : chains_of b ≡ chains_from a.first qs ms = ap (λ e. chains_from e (vec_items b.places) (vec_items b.newest)) first ∙ ap (λ x. chains_from a.first x (vec_items b.newest)) places ∙ ap (chains_from a.first qs) newest in
            let as' = ap (λ n. set (chains_of a) r (get_or (chains_of a) r [] ++ record { number = n; stamp = v.stamp; entry = v.entry } ∷ [])) number in
            record {
              chains = same ∙ table_chains ∙ as';
              next = ap versions_in same ∙ table_next;
              size = ap length (same ∙ table_chains) ∙ length-set (chains_of a) r _;
              room = ap length places ∙ length-set ps i new;
              first = first;
            }
