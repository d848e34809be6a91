-- Steps of the loops that print a day file.
use Rattle.std.proofs.Common.{◌≡◌, ℕ, ◌+◌, true, false, List, ◌∷◌, ◌++◌, is_some, Some, None, codes, decimal, Option, sym, refl, ap, ◌∙◌, append_assoc, arith}
use Rattle.std.proofs.lemmas.Bool.{both_ways}
use Rattle.dayfile.specs.Format.{Commit}
use Rattle.dayfile.specs.Reading.{Shape, Walk, Whole, entries_of, onto, walk_at, step_of}
use Rattle.dayfile.proofs.Walks.{to_come, some_of, step_gives, step_ends}
use Rattle.filing.specs.Showing.{newline, numbers_text, entry_text, entries_text, said_text}
use Rattle.filing.proofs.Appends.{append_more, append_all}

-- a line put together from its pieces
pub entry_line : (n : ℕ) (e : Commit) (had a b c d g : List ℕ) → a ≡ had ++ (decimal n ++ (codes " console " ++ (decimal e.console ++ (codes " low " ++ (decimal e.low ++ codes " reads")))))
    → b ≡ a ++ numbers_text e.reads → c ≡ b ++ codes " writes" → d ≡ c ++ numbers_text e.writes → g ≡ d ++ newline → g ≡ had ++ entry_text n e
entry_line n e had a b c d g pa pb pc pd pg =
    let R = numbers_text e.reads in
    let W = numbers_text e.writes in
    pg ∙ ap (λ l. l ++ newline) (pd ∙ ap (λ l. l ++ W) (pc ∙ ap (λ l. l ++ codes " writes") (pb ∙ ap (λ l. l ++ R) pa)))
    ∙ simp append_assoc

-- what is there where something is
pub some_is : {A : Type 0} (o : Option A) → is_some o ≡ true → (x : A) × (o ≡ Some x)
some_is None h = absurd (both_ways false refl h)
some_is (Some x) h = (x, refl)

-- an entry in front of those to come
onto_some : (e : Commit) (o : Option (List Commit)) (es : List Commit) → onto e o ≡ Some es → (rest : List Commit) × (o ≡ Some rest) × (es ≡ e ∷ rest)
onto_some e None es h = let z : ◌≡◌ {A = ℕ} 0 1 = cc in absurd (omega arith)
onto_some e (Some rest) es h = (rest, refl, sym (some_of (e ∷ rest) es h))

-- the lines so far, and those of the entries to come from place n on, are all the lines
abbrev pub Lines : Walk → ℕ → List ℕ → List ℕ → Type 0
Lines w n had all = (es : List Commit) × (to_come w ≡ Some es) × (had ++ entries_text n es ≡ all)

-- one turn of the lines of entries
pub entries_more : (w v : Walk) (e : Commit) (p n m : ℕ) (had has all : List ℕ) → p ≡ n → m ≡ n + 1 → (Some e, v) ≡ step_of w → has ≡ had ++ entry_text p e → Lines w n had all → Lines v m has all
entries_more w v e p n m had has all same next h grows inv =
    let s = onto_some e (to_come v) inv.0 (sym (step_gives w v e h).come ∙ inv.1) in
    let text = grows ∙ ap (λ k. had ++ entry_text k e) same in
    (s.0, s.1, ap (λ k. has ++ entries_text k s.0) next ∙ append_more had has (entry_text n e) (entries_text n inv.0) (entries_text (n + 1) s.0) all text (ap (entries_text n) s.2) inv.2)

-- the walk at its start
pub entries_none : (s : Shape) (w : Walk) (n : ℕ) (had : List ℕ) → Whole s → w ≡ walk_at s → n ≡ 1 → Lines w n had (had ++ said_text (entries_of s))
entries_none s w n had whole e one =
    let es = some_is (entries_of s) whole.full in
    (es.0, ap to_come e ∙ es.1, ap (λ k. had ++ entries_text k es.0) one ∙ ap (λ (o : Option (List Commit)). had ++ said_text o) (sym es.1))

-- and at its end
pub entries_all : (w v : Walk) (n : ℕ) (had all : List ℕ) → (None, v) ≡ step_of w → Lines w n had all → had ≡ all
entries_all w v n had all h inv = append_all had (entries_text n inv.0) all (ap (entries_text n) (step_ends w v inv.0 h inv.1)) inv.2
