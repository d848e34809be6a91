-- What is kept of the commits of a run fits a day file.
use Rattle.std.proofs.Common.{◌≡◌, ℕ, suc, ◌+◌, ◌<◌, ◌≤◌, true, eqb, ltb, List, [], ◌∷◌, ◌++◌, length, get_or, sym, refl, ap, ◌∙◌, subst, arith}
use Rattle.std.proofs.lemmas.Bool.{and_parts, and_from, or_left, or_right, eq-eqb, lt-ltb, le-leb}
use Rattle.std.proofs.lemmas.List.{length-map}
use Rattle.store.specs.Meaning.{Rules}
use Rattle.certifier.specs.Marking.{member}
use Rattle.certifier.specs.Meaning.{LogState}
use Rattle.certifier.specs.Entries.{Entry}
use Rattle.runs.specs.History.{Transaction, Event, read_in, overwritten_in, entry_of, entries_in, summary_of}
use Rattle.runs.specs.Law.{InRange, AllInRange, Lawful, made_in}
use Rattle.dayfile.specs.Format.{Commit, below, fits, sound}
use Rattle.filing.specs.Filing.{commit_of, commits_of}

-- how many versions there are after some entries
abbrev made_after : ℕ → List Commit → ℕ
made_after b [] = b
made_after b (e ∷ es) = made_after (b + length e.writes) es

-- one entry more at the end
sound_push : (es : List Commit) (e : Commit) (n b : ℕ) → sound n b es ≡ true → fits (n + length es) (made_after b es) e ≡ true → sound n b (es ++ (e ∷ [])) ≡ true
sound_push [] e n b s f =
    let P : ℕ → Type 0 = λ p. fits p b e ≡ true in
    and_from (fits n b e) true (subst P (omega arith) f) refl
sound_push (x ∷ xs) e n b s f =
    let h = and_parts (fits n b x) (sound (n + 1) (b + length x.writes) xs) s in
    let P : ℕ → Type 0 = λ p. fits p (made_after (b + length x.writes) xs) e ≡ true in
    and_from (fits n b x) _ h.0 (sound_push xs e (n + 1) (b + length x.writes) h.1 (subst P (omega arith) f))

made_push : (es : List Commit) (e : Commit) (b : ℕ) → made_after b (es ++ (e ∷ [])) ≡ made_after b es + length e.writes
made_push [] e b = refl
made_push (x ∷ xs) e b = made_push xs e (b + length x.writes)

push_commit : (es : List Entry) (e : Entry) → commits_of (es ++ (e ∷ [])) ≡ commits_of es ++ (commit_of e ∷ [])
push_commit [] e = refl
push_commit (x ∷ xs) e = ap (λ (l : List Commit). commit_of x ∷ l) (push_commit xs e)

length_push : (es : List Commit) (e : Commit) → length (es ++ (e ∷ [])) ≡ length es + 1
length_push [] e = refl
length_push (x ∷ xs) e = let h = length_push xs e in omega arith

-- numbers that are each below b
all_below : (b : ℕ) (ns : List ℕ) → ((v : ℕ) → member v ns ≡ true → v < b) → below b ns ≡ true
all_below b [] h = refl
all_below b (n ∷ ns) h =
    and_from (ltb n b) (below b ns) (lt-ltb n b (h n (or_left (eqb n n) (member n ns) (eq-eqb n n refl))))
    (all_below b ns (λ v a. h v (or_right (eqb n v) (member v ns) a)))

module _ {E : Type 0} where
  abbrev kept : List (Transaction E) → List Commit
  kept done = commits_of (entries_in done)

  made_kept : (size : ℕ) (done : List (Transaction E)) → made_after size (kept done) ≡ made_in size done
  made_kept size [] = refl
  made_kept size (t ∷ ts) =
      ap (made_after size) (push_commit (entries_in ts) (entry_of t)) ∙ (made_push (kept ts) (commit_of (entry_of t)) size
      ∙ ap (λ n. n + length (overwritten_in t.acts)) (made_kept size ts))

  pub length_kept : (done : List (Transaction E)) → length (kept done) ≡ length done
  length_kept [] = refl
  length_kept (t ∷ ts) =
      let h = length_kept ts in
      let p = ap length (push_commit (entries_in ts) (entry_of t)) ∙ length_push (kept ts) (commit_of (entry_of t)) in
      omega arith

  entry_fits : (made n : ℕ) (t : Transaction E) → InRange made t → t.grant.stamp ≡ n → fits n made (commit_of (entry_of t)) ≡ true
  entry_fits made n t h e =
      and_from _ _
      (and_from _ _ (lt-ltb _ 16 h.console)
      (and_from _ _ (le-leb _ 64 h.reads)
      (and_from _ _ (le-leb _ 16 h.writes)
      (and_from _ _ (le-leb 1 _ h.low.0) (le-leb _ n (let l = h.low.1 in omega arith))))))
      (and_from _ _ (all_below made (read_in t.acts) h.read) (all_below made (overwritten_in t.acts) h.overwritten))

  -- what is kept of committed transactions fits a day file
  pub kept_sound : (size : ℕ) (done : List (Transaction E)) → AllInRange size done
      → ((i : ℕ) (d : Transaction E) → i < length done → (get_or done i d).grant.stamp + i ≡ length done) → sound 1 size (kept done) ≡ true
  kept_sound size [] h stamps = refl
  kept_sound size (t ∷ ts) h stamps =
      let s = kept_sound size ts h.1 (λ i d l. let p = stamps (suc i) d (omega arith) in omega arith) in
      let at : t.grant.stamp ≡ 1 + length (kept ts) = let p = stamps 0 t (omega arith) in let q = length_kept ts in omega arith in
      let f = entry_fits (made_in size ts) (1 + length (kept ts)) t h.0 at in
      let P : ℕ → Type 0 = λ b. fits (1 + length (kept ts)) b (commit_of (entry_of t)) ≡ true in
      let Q : List Commit → Type 0 = λ l. sound 1 size l ≡ true in
      subst Q (sym (push_commit (entries_in ts) (entry_of t))) (sound_push (kept ts) (commit_of (entry_of t)) 1 size s (subst P (sym (made_kept size ts)) f))

  -- what is kept of a lawful history is no longer than a day, and fits a day file
  pub day_kept : {rules : Rules} {size room : ℕ} {first : E} {s : LogState E} {h : List (Event E)} (es : List Entry) → Lawful rules size room first s h
      → es ≡ entries_in (summary_of size h).done → (length es ≤ 4000) × (sound 1 size (commits_of es) ≡ true)
  day_kept {size = size} {h = h} es law e =
      let done = (summary_of size h).done in
      let long = ap (λ (l : List Entry). length (commits_of l)) e ∙ length_kept done in
      let same = length-map es commit_of in
      let P : List Entry → Type 0 = λ l. sound 1 size (commits_of l) ≡ true in
      (omega (arith, long, same, law.day), subst P (sym e) (kept_sound size done law.entries law.rank.stamps))
