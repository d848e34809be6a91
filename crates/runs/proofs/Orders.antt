-- The commits as they are kept by low mark are the history's rank.
use Rattle.std.proofs.lemmas.Grind.{common_steps}
use Rattle.std.proofs.Common.{◌≡◌, ℕ, zero, suc, ◌+◌, ◌<◌, ◌≤◌, true, false, ltb, List, [], ◌∷◌, ◌++◌, map, length, get_or, set, replicate, sym, refl, ap, ◌∙◌, subst, inl, inr, arith}
use Rattle.std.proofs.lemmas.List.{length-set, length-replicate}
use Rattle.std.proofs.lemmas.Bool.{lt-ltb, cond-true, cond-false}
use Rattle.certifier.specs.Ranking.{Ranks, joined}
use Rattle.runs.specs.History.{Transaction, is_before, inserted, in_rank}
use Rattle.runs.specs.Law.{Has}
use Rattle.runs.proofs.Goods.{Good}
use Rattle.runs.proofs.Chains.{stamped}
use Rattle.runs.proofs.Forward.{low_stamp, ranked_has}
use Rattle.runs.proofs.Ties.{ranks_in}

module _ {E : Type 0} where
  abbrev stamps_by : List (Transaction E) → List ℕ
  stamps_by us = map (λ t. t.grant.stamp) us

  -- the transactions us by their low marks, from i on, stand as the lists of stamps do
  abbrev Filed : ℕ → List (List ℕ) → List (Transaction E) → Type 0
  Filed i [] us = us ≡ []
  Filed i (b ∷ bs) us =
      (xs : List (Transaction E)) × (ys : List (Transaction E)) × (us ≡ xs ++ ys) × (stamps_by xs ≡ b) × ((u : Transaction E) → Has u xs → u.grant.low ≡ i) × Filed (i + 1) bs ys

  filed_joined : (i : ℕ) (bs : List (List ℕ)) (us : List (Transaction E)) → Filed i bs us → joined bs ≡ stamps_by us
  filed_joined i [] us f = sym (ap stamps_by f)
  filed_joined i (b ∷ bs) us (xs, ys, e, s, l, f) = grind (arith, common_steps, filed_joined (i + 1) bs ys f)

  filed_none : (us : List (Transaction E)) → us ≡ [] → (i n : ℕ) → Filed i (replicate n []) us
  filed_none us e i zero = e
  filed_none us e i (suc n) = ([], us, refl, refl, (λ u h. absurd h), filed_none us e (i + 1) n)

  filed_low : (i : ℕ) (bs : List (List ℕ)) (us : List (Transaction E)) → Filed i bs us → (u : Transaction E) → Has u us → i ≤ u.grant.low
  filed_low i [] us f u h = absurd (subst (Has u) f h)
  filed_low i (b ∷ bs) us (xs, ys, e, s, l, f) u h = go xs l (subst (Has u) e h) (filed_low (i + 1) bs ys f u)
    where
      go : (zs : List (Transaction E)) → ((w : Transaction E) → Has w zs → w.grant.low ≡ i) → Has u (zs ++ ys) → (Has u ys → i + 1 ≤ u.grant.low) → i ≤ u.grant.low
      go [] a k rest = omega (arith, rest k)
      go (z ∷ zs) a (inl k) rest = omega (arith, a u (inl k))
      go (z ∷ zs) a (inr k) rest = go zs (λ w m. a w (inr m)) k rest

  module _ (t : Transaction E) where
    before_later : (u : Transaction E) → t.grant.low ≤ u.grant.low → u.grant.stamp < t.grant.stamp → is_before t u ≡ true
    before_later u l s = grind (arith, common_steps)

    before_none : (u : Transaction E) → u.grant.low < t.grant.low → is_before t u ≡ false
    before_none u l = grind (arith, common_steps)

    -- t goes in front of those that have at least its low mark, and behind those that have less
    in_front : (us : List (Transaction E)) → ((u : Transaction E) → Has u us → t.grant.low ≤ u.grant.low) → ((u : Transaction E) → Has u us → u.grant.stamp < t.grant.stamp) → inserted t us ≡ t ∷ us
    in_front [] l s = refl
    in_front (u ∷ us) l s = cond-true (is_before t u) _ _ (before_later u (l u (inl refl)) (s u (inl refl)))

    behind : (xs ys : List (Transaction E)) → ((u : Transaction E) → Has u xs → u.grant.low < t.grant.low) → inserted t (xs ++ ys) ≡ xs ++ inserted t ys
    behind [] ys l = refl
    behind (x ∷ xs) ys l = cond-false (is_before t x) _ _ (before_none x (l x (inl refl))) ∙ ap (λ (zs : List (Transaction E)). x ∷ zs) (behind xs ys (λ u h. l u (inr h)))

    filed_more : (i k : ℕ) (bs : List (List ℕ)) (us : List (Transaction E)) → k < length bs → t.grant.low ≡ i + k → ((u : Transaction E) → Has u us → u.grant.stamp < t.grant.stamp)
        → Filed i bs us → Filed i (set bs k (t.grant.stamp ∷ get_or bs k [])) (inserted t us)
    filed_more i k [] us l e s f = absurd (omega arith)
    filed_more i zero (b ∷ bs) us l e s (xs, ys, q, c, low, f) = (
      t ∷ xs,
      ys,
      in_front us (λ u h. omega (arith, filed_low i (b ∷ bs) us (xs, ys, q, c, low, f) u h)) s ∙ ap (λ (zs : List (Transaction E)). t ∷ zs) q,
      ap (λ (ns : List ℕ). t.grant.stamp ∷ ns) c,
      (λ u h. elim h [ inl k ↦ ap (λ (x : Transaction E). x.grant.low) k ∙ omega arith | inr m ↦ low u m ]),
      f,
    )
    filed_more i (suc k) (b ∷ bs) us l e s (xs, ys, q, c, low, f) = (
      xs,
      inserted t ys,
      ap (inserted t) q ∙ behind xs ys (λ u h. omega (arith, low u h)),
      c,
      low,
      filed_more (i + 1) k bs ys (omega arith) (omega arith) (λ u h. s u (subst (Has u) (sym q) (has_behind u xs ys h))) f,
    )
      where
        has_behind : (u : Transaction E) (zs ws : List (Transaction E)) → Has u ws → Has u (zs ++ ws)
        has_behind u [] ws h = h
        has_behind u (z ∷ zs) ws h = inr (has_behind u zs ws h)

  -- the tables after a day's commits
  record Filing (done : List (Transaction E)) : Type 0 where
    count : (ranks_in done).count ≡ length done
    rows : length (ranks_in done).by_low ≡ 4001
    filed : Filed 0 (ranks_in done).by_low (in_rank done)

  filing : (f : E) (size : ℕ) (done : List (Transaction E)) → Good f size done → length done ≤ 4000 → Filing done
  filing f size [] g l = record { count = refl; rows = length-replicate {A = List ℕ} 4001 []; filed = filed_none [] refl 0 4001 }
  filing f size (t ∷ ts) g l =
      let w = filing f size ts g.1 (omega arith) in
      let st : t.grant.stamp ≡ length ts + 1 = ap (λ q. q.stamp) g.0.grant in
      let next : (ranks_in ts).count + 1 ≡ t.grant.stamp = omega (arith, w.count) in
      let low : t.grant.low ≤ t.grant.stamp = low_stamp f size (t ∷ ts) g t (inl refl) in
      let is : ranks_in (t ∷ ts) ≡ record { count = (ranks_in ts).count + 1; by_low = set (ranks_in ts).by_low t.grant.low (((ranks_in ts).count + 1) ∷ get_or (ranks_in ts).by_low t.grant.low []) } =
      cond-true (ltb (ranks_in ts).count 4000) _ _ (lt-ltb (ranks_in ts).count 4000 (omega (arith, w.count))) in
      let P : Ranks → Type 0 = λ x. Filed 0 x.by_low (in_rank (t ∷ ts)) in
      let Q : ℕ → Type 0 = λ c. Filed 0 (set (ranks_in ts).by_low t.grant.low (c ∷ get_or (ranks_in ts).by_low t.grant.low [])) (in_rank (t ∷ ts)) in
      record {
        count = ap (λ x. x.count) is ∙ ap (λ n. n + 1) w.count ∙ omega arith;
        rows = ap (λ x. length x.by_low) is ∙ (length-set (ranks_in ts).by_low t.grant.low _ ∙ w.rows);
        filed = subst P (sym is) (subst Q (sym next)
            (filed_more t 0 t.grant.low (ranks_in ts).by_low (in_rank ts) (omega (arith, w.rows)) (omega arith)
            (λ u h. omega (arith, stamped f size ts g.1 u (ranked_has u ts h))) w.filed));
      }

  pub counted : (f : E) (size : ℕ) (done : List (Transaction E)) → Good f size done → length done ≤ 4000 → (ranks_in done).count ≡ length done
  counted f size done g l = (filing f size done g l).count

  pub order : (f : E) (size : ℕ) (done : List (Transaction E)) → Good f size done → length done ≤ 4000 → joined (ranks_in done).by_low ≡ map (λ t. t.grant.stamp) (in_rank done)
  order f size done g l = filed_joined 0 (ranks_in done).by_low (in_rank done) (filing f size done g l).filed
