-- A file under writing after the entries that it took.
use Rattle.std.proofs.Common.{◌≡◌, ℕ, suc, ◌+◌, ◌-◌, ◌/◌, ◌<◌, ◌≤◌, min, true, cond, ◌&&◌, ltb, leb, List, [], ◌∷◌, ◌++◌, map, length, get_or, take, drop, is_some, Some, None, Option, sym, refl, ap, ◌∙◌, subst, append_assoc, append-nil, add-zero, arith, ltb-false, ltb-true, lt-ltb, le-leb, leb-true}
use Rattle.std.proofs.lemmas.Bool.{and_parts, and_from, cond-true}
use Rattle.std.proofs.lemmas.List.{length-append, take_at, take_all, take_more, map-append, at_drop_more}
use Rattle.store.specs.declared.Code.{Code}
use Rattle.store.specs.Refusals.{Answer}
use Rattle.store.specs.Refusals.Answer.{gives, refuses}
use Rattle.dayfile.specs.Refusals.{too_short, bad_pointer, bad_entry, file_full}
use Rattle.dayfile.specs.Format.{Commit, pairs, entry_bytes, body_bytes, trailer_bytes, file_bytes, fits, sound}
use Rattle.dayfile.specs.Reading.{Shape, Whole, Walk, read_of, entries_of, walk_at, step_of, onto}
use Rattle.dayfile.proofs.Walks.{to_come, fits_came, step_gives, step_ends, none_is}
use Rattle.dayfile.proofs.Bytes.{length_pairs}
use Rattle.dayfile.proofs.Back.{read_back, entries_of_file}
use Rattle.dayfile.proofs.Again.{past_first, past_last, refused_gives}
use Rattle.daywriter.specs.Writing.{over, FitsBytes, Extent, Writer, started, start_of, has_room, taking, after, added, close_of}
use Rattle.daywriter.specs.Files.{and_then, taken_all, check_all, Reads, Rewritten}
use Rattle.daywriter.specs.declared.NewEntry.{NewEntry}
use Rattle.daywriter.specs.Stands.{wrote}
use Rattle.daywriter.proofs.Overs.{over_more, over_none, length_over, below_wider}

-- how many versions entries make
abbrev pub writes_in : List Commit → ℕ
writes_in [] = 0
writes_in (e ∷ es) = length e.writes + writes_in es

body_push : (es : List Commit) (e : Commit) → body_bytes (es ++ e ∷ []) ≡ body_bytes es ++ entry_bytes e
body_push [] e = append-nil (entry_bytes e)
body_push (x ∷ es) e = ap (λ l. entry_bytes x ++ l) (body_push es e) ∙ sym (append_assoc (entry_bytes x) (body_bytes es) (entry_bytes e))

writes_push : (es : List Commit) (e : Commit) → writes_in (es ++ e ∷ []) ≡ writes_in es + length e.writes
writes_push [] e = omega arith
writes_push (x ∷ es) e = omega (arith, writes_push es e)

sound_push : (p b : ℕ) (es : List Commit) (e : Commit) → sound p b es ≡ true → fits (p + length es) (b + writes_in es) e ≡ true → sound p b (es ++ e ∷ []) ≡ true
sound_push p b [] e s f = let P = λ (n m : ℕ). fits n m e ≡ true in and_from _ _ (subst (λ n. P n b) (add-zero p) (subst (λ m. P (p + 0) m) (add-zero b) f)) refl
sound_push p b (x ∷ es) e s f =
    let h = and_parts (fits p b x) (sound (p + 1) (b + length x.writes) es) s in
    let one : p + suc (length es) ≡ p + 1 + length es = omega arith in
    let two : b + (length x.writes + writes_in es) ≡ b + length x.writes + writes_in es = omega arith in
    and_from _ _ h.0 (sound_push (p + 1) (b + length x.writes) es e h.1 (subst (λ n. fits n (b + length x.writes + writes_in es) e ≡ true) one (subst (λ m. fits (p + suc (length es)) m e ≡ true) two f)))

-- what is known of an entry that is taken
pub record Taken (room : ℕ) (x : Extent) (e : Commit) : Type 0 where
  pub fit : fits (x.count + 1) x.made e ≡ true
  pub more : x.count < 4000
  pub within : x.at + length (entry_bytes e) + 10 ≤ room

pub taken_from : (room : ℕ) (x : Extent) (e : Commit) → taking room x e ≡ gives tt → Taken room x e
taken_from room x e ok =
    let a = past_last (fits (x.count + 1) x.made e) bad_entry (cond (has_room room x (length (entry_bytes e))) (gives tt) (refuses file_full)) tt ok in
    let c = past_last (has_room room x (length (entry_bytes e))) file_full (gives tt) tt a.1 in
    let d = and_parts (ltb x.count 4000) (leb (x.at + length (entry_bytes e) + 10) room) c.0 in
    record { fit = a.0; more = ltb-true x.count 4000 d.0; within = leb-true (x.at + length (entry_bytes e) + 10) room d.1 }

-- its fields fit their bytes, where few entries and few versions came before it
pub taken_bytes : (room : ℕ) (x : Extent) (e : Commit) → x.count ≤ 4000 → x.made ≤ 65536 → taking room x e ≡ gives tt → FitsBytes e
taken_bytes room x e few made ok =
    let came = fits_came (x.count + 1) x.made e (taken_from room x e ok).fit in
    record {
      console = omega (arith, came.console);
      reads = omega (arith, came.reads);
      writes = omega (arith, came.writes);
      low = omega (arith, came.high);
      read = below_wider x.made 65536 e.reads made came.old;
      written = below_wider x.made 65536 e.writes made came.over;
    }

pub taken_to : (room : ℕ) (x : Extent) (e : Commit) → Taken room x e → taking room x e ≡ gives tt
taken_to room x e t =
    cond-true _ _ _ t.fit ∙ cond-true _ _ _ (and_from _ _ (lt-ltb x.count 4000 t.more) (le-leb (x.at + length (entry_bytes e) + 10) room t.within))

-- a buffer b in which a file of r records has taken the entries es
pub record Holds (b : List ℕ) (r : ℕ) (es : List Commit) (w : Writer) : Type 0 where
  pub records : w.extent.records ≡ r
  pub count : w.extent.count ≡ length es
  pub made : w.extent.made ≡ r + writes_in es
  pub at : w.extent.at ≡ length (body_bytes es)
  pub bytes : w.bytes ≡ over b 0 (body_bytes es)
  pub good : sound 1 r es ≡ true
  pub few : length es ≤ 4000
  pub room : length (body_bytes es) + 10 ≤ length b

pub holds_start : (b : List ℕ) (r : ℕ) → 10 ≤ length b → Holds b r [] (record { extent = started r; bytes = b })
holds_start b r h = record { records = refl; count = refl; made = omega arith; at = refl; bytes = sym (over_none b 0); good = refl; few = omega arith; room = omega arith }

pub holds_length : (b : List ℕ) (r : ℕ) (es : List Commit) (w : Writer) → Holds b r es w → length w.bytes ≡ length b
holds_length b r es w h = let room : length (body_bytes es) + 10 ≤ length b = h.room in ap length h.bytes ∙ length_over b 0 (body_bytes es) (omega arith)

pub holds_added : (b : List ℕ) (r : ℕ) (es : List Commit) (w : Writer) (e : Commit) → Holds b r es w → taking (length w.bytes) w.extent e ≡ gives tt → Holds b r (es ++ e ∷ []) (added w e)
holds_added b r es w e h ok =
    let B = body_bytes es in
    let E = entry_bytes e in
    let t = taken_from (length w.bytes) w.extent e ok in
    let push = body_push es e in
    let lb : length (body_bytes (es ++ e ∷ [])) ≡ length B + length E = ap length push ∙ length-append B E in
    let le : length (es ++ e ∷ []) ≡ length es + 1 = length-append es (e ∷ []) in
    let same = holds_length b r es w h in
    let at : w.extent.at ≡ length B = h.at in
    let place : w.extent.at ≡ 0 + length B = omega arith in
    let next : w.extent.count + 1 ≡ 1 + length es = omega (arith, h.count) in
    record {
      records = h.records;
      count = omega (arith, h.count);
      made = omega (arith, h.made, writes_push es e);
      at = omega arith;
      bytes = ap (λ x. over x w.extent.at E) h.bytes ∙ ap (λ k. over (over b 0 B) k E) place ∙ over_more b 0 B E (omega arith) ∙ ap (over b 0) (sym push);
      good = sound_push 1 r es e h.good (subst (λ n. fits n (r + writes_in es) e ≡ true) next (subst (λ m. fits (w.extent.count + 1) m e ≡ true) h.made t.fit));
      few = omega (arith, h.count, t.more);
      room = omega (arith, t.within);
    }

pub length_file : (r : ℕ) (es : List Commit) → length (file_bytes r es) ≡ length (body_bytes es) + 10
length_file r es = length-append (body_bytes es) (trailer_bytes r (length es) (length (body_bytes es)))

-- the file when it is closed
pub holds_closed : (b : List ℕ) (r : ℕ) (es : List Commit) (w : Writer) → Holds b r es w → close_of w ≡ record { bytes = over b 0 (file_bytes r es); len = length (file_bytes r es) }
holds_closed b r es w h =
    let B = body_bytes es in
    let T = trailer_bytes r (length es) (length B) in
    let at : w.extent.at ≡ length B = h.at in
    let place : w.extent.at ≡ 0 + length B = omega arith in
    let same = holds_length b r es w h in
    let room : w.extent.at + 10 ≤ length w.bytes = omega (arith, h.room) in
    let all : over w.bytes w.extent.at (trailer_bytes w.extent.records w.extent.count w.extent.at) ≡ over b 0 (file_bytes r es) =
    (λ i. over (h.bytes i) w.extent.at (trailer_bytes (h.records i) (h.count i) (h.at i))) ∙ ap (λ k. over (over b 0 B) k T) place ∙ over_more b 0 B T (omega arith) in
    let len : w.extent.at + 10 ≡ length (file_bytes r es) = ap (λ k. k + 10) at ∙ sym (length_file r es) in
    cond-true _ _ _ (le-leb (w.extent.at + 10) (length w.bytes) room) ∙ (λ i. record { bytes = all i; len = len i })

-- reading a file that was written
pub reads_back : (b : List ℕ) (r : ℕ) (es : List Commit) (w : Writer) → 1 ≤ r → r ≤ 256 → Holds b r es w → Reads (take (length (file_bytes r es)) (over b 0 (file_bytes r es))) r es
reads_back b r es w lo hi h =
    let F = file_bytes r es in
    let cut : take (length F) (over b 0 F) ≡ F = take_at F (drop (0 + length F) b) (length F) refl in
    subst (λ bs. Reads bs r es) (sym cut) (record { read = read_back [] r es lo hi h.few h.good; entries = entries_of_file 0 r es h.good })

-- starting, past its checks
pub record Started (room r : ℕ) : Type 0 where
  pub long : 10 ≤ room
  pub some : 1 ≤ r
  pub few : r ≤ 256

pub started_from : (room r : ℕ) (x : Extent) → start_of room r ≡ gives x → Started room r
started_from room r x h =
    let a = past_first (ltb room 10) too_short (cond (leb 1 r && leb r 256) (gives (started r)) (refuses bad_pointer)) x h in
    let c = past_last (leb 1 r && leb r 256) bad_pointer (gives (started r)) x a.1 in
    let d = and_parts (leb 1 r) (leb r 256) c.0 in
    record { long = ltb-false room 10 a.0; some = leb-true 1 r d.0; few = leb-true r 256 d.1 }

pub started_to : (room r : ℕ) (x : Extent) → start_of room r ≡ gives x → x ≡ started r
started_to room r x h =
    let a = past_first (ltb room 10) too_short (cond (leb 1 r && leb r 256) (gives (started r)) (refuses bad_pointer)) x h in
    let c = past_last (leb 1 r && leb r 256) bad_pointer (gives (started r)) x a.1 in
    let same : gives (started r) ≡ gives x = c.1 in cc

-- a first answer that let the next come
pub and_then_lem : {A B : Type 0} (a : Answer A) (f : A → Answer B) (y : B) → and_then a f ≡ gives y → (x : A) × (a ≡ gives x) × (f x ≡ gives y)
and_then_lem (gives x) f y h = (x, refl, h)
and_then_lem (refuses c) f y h = absurd (refused_gives y c h)

-- entries that are all taken
pub record Took (room : ℕ) (x : Extent) (e : Commit) (es : List Commit) (y : Extent) : Type 0 where
  pub first : taking room x e ≡ gives tt
  pub rest : taken_all room (after x e) es ≡ gives y

pub took : (room : ℕ) (x : Extent) (e : Commit) (es : List Commit) (y : Extent) → taken_all room x (e ∷ es) ≡ gives y → Took room x e es y
took room x e es y h = let a = and_then_lem (taking room x e) (λ u. taken_all room (after x e) es) y h in record { first = a.1; rest = a.2 }

pub all_from : (room r : ℕ) (es : List Commit) (y : Extent) → check_all room r es ≡ gives y → Started room r × (taken_all room (started r) es ≡ gives y)
all_from room r es y h =
    let a = and_then_lem (start_of room r) (λ x. taken_all room x es) y h in
    (started_from room r a.0 a.1, subst (λ x. taken_all room x es ≡ gives y) (started_to room r a.0 a.1) a.2)

-- the entry that a loop over entries reads past their end
abbrev pub blank : NewEntry
blank = record { console = 0; low = 0; reads = record { ref_ptr = (0, 0); now = [] }; writes = record { ref_ptr = (0, 0); now = [] } }

-- one turn of a loop over entries
module _ (xs : List NewEntry) (i : ℕ) (h : i < length xs) where
  pub rest_at : map wrote (drop i xs) ≡ wrote (get_or xs i blank) ∷ map wrote (drop (i + 1) xs)
  rest_at = at_drop_more (map wrote) xs i blank h

  pub front_at : map wrote (take (i + 1) xs) ≡ map wrote (take i xs) ++ wrote (get_or xs i blank) ∷ []
  front_at = ap (map wrote) (take_more xs i blank h) ∙ map-append wrote (take i xs) (get_or xs i blank ∷ [])

-- a check of entries stops at one that is refused
module _ (room : ℕ) (x : Extent) (e : Commit) (es : List Commit) where
  pub take_not : (c : Code) → refuses c ≡ taking room x e → refuses c ≡ taken_all room x (e ∷ es)
  take_not c h = ap (λ a. and_then a (λ u. taken_all room (after x e) es)) h

-- a file that has some entries in it, and takes the others too
pub record Filling (b : List ℕ) (r : ℕ) (done left : List Commit) (w : Writer) : Type 0 where
  pub holds : Holds b r done w
  pub last : Extent
  pub rest : taken_all (length b) w.extent left ≡ gives last

pub filling_start : (w : Writer) (r : ℕ) (es : List Commit) (y : Extent) → w.extent ≡ started r → check_all (length w.bytes) r es ≡ gives y → Filling w.bytes r [] es w
filling_start w r es y e h =
    let b = w.bytes in
    let a = all_from (length b) r es y h in
    subst (λ (x : Extent). Filling b r [] es (record { extent = x; bytes = b })) (sym e) (record { holds = holds_start b r a.0.long; last = y; rest = a.1 })

module _ (b : List ℕ) (r : ℕ) (done left : List Commit) (w : Writer) (e : Commit) (f : Filling b r done (e ∷ left) w) where
  pub filling_takes : taking (length w.bytes) w.extent e ≡ gives tt
  filling_takes = ap (λ n. taking n w.extent e) (holds_length b r done w f.holds) ∙ (took (length b) w.extent e left f.last f.rest).first

  pub filling_more : (v : Writer) → v ≡ added w e → Filling b r (done ++ e ∷ []) left v
  filling_more v h =
      subst (Filling b r (done ++ e ∷ []) left) (sym h)
      (record { holds = holds_added b r done w e f.holds filling_takes; last = f.last; rest = (took (length b) w.extent e left f.last f.rest).rest })

-- a file on its way from the reader to the writer
pub record Copied (b : List ℕ) (s : Shape) (w : Writer) (walk : Walk) : Type 0 where
  pub done : List Commit
  pub rest : List Commit
  pub come : to_come walk ≡ Some rest
  pub all : entries_of s ≡ Some (done ++ rest)
  pub holds : Holds b s.records done w
  pub left : walk.left + w.extent.count ≡ s.count
  pub place : walk.place ≡ w.extent.count + 1
  pub bound : walk.bound ≡ w.extent.made

list_of : (o : Option (List Commit)) → is_some o ≡ true → (es : List Commit) × (o ≡ Some es)
list_of None h = let z : ◌≡◌ {A = ℕ} 0 1 = cc in absurd (omega arith)
list_of (Some es) h = (es, refl)

pub copied_start : (b : List ℕ) (s : Shape) → Whole s → length s.part ≤ length b → Copied b s (record { extent = started s.records; bytes = b }) (walk_at s)
copied_start b s whole room =
    let l = list_of (entries_of s) whole.full in
    record { done = []; rest = l.0; come = l.1; all = l.1; holds = holds_start b s.records (omega (arith, whole.long)); left = omega arith; place = refl; bound = refl }

onto_of : (e : Commit) (rest : List Commit) (o : Option (List Commit)) → Some rest ≡ onto e o → (ts : List Commit) × (o ≡ Some ts) × (rest ≡ e ∷ ts)
onto_of e rest None h = absurd (none_is rest (sym h))
onto_of e rest (Some ts) h = (ts, refl, cc)

body_append : (xs ys : List Commit) → length (body_bytes (xs ++ ys)) ≡ length (body_bytes xs) + length (body_bytes ys)
body_append [] ys = omega arith
body_append (x ∷ xs) ys = omega (arith, length-append (entry_bytes x) (body_bytes (xs ++ ys)), length-append (entry_bytes x) (body_bytes xs), body_append xs ys)

-- one entry of the walk
module _ (b : List ℕ) (s : Shape) (w : Writer) (walk next : Walk) (e : Commit) (whole : Whole s) (room : length s.part ≤ length b) (c : Copied b s w walk) (step : (Some e, next) ≡ step_of walk) where
  pub copied_takes : taking (length w.bytes) w.extent e ≡ gives tt
  copied_takes =
      let g = step_gives walk next e step in
      let t = onto_of e c.rest (to_come next) (sym c.come ∙ g.come) in
      let D = c.done in
      let part : s.part ≡ file_bytes s.records (D ++ (e ∷ t.0)) = whole.again (D ++ (e ∷ t.0)) (c.all ∙ ap (λ l. Some (D ++ l)) t.2) in
      let len = ap length part ∙ length_file s.records (D ++ (e ∷ t.0)) in
      let one = body_append D (e ∷ t.0) in
      let two = length-append (entry_bytes e) (body_bytes t.0) in
      let same = holds_length b s.records D w c.holds in
      taken_to (length w.bytes) w.extent e (record {
        fit = subst (λ n. fits n w.extent.made e ≡ true) c.place (subst (λ m. fits walk.place m e ≡ true) c.bound g.good);
        more = omega (arith, g.left, c.left, whole.short);
        within = omega (arith, c.holds.at);
      })

  pub copied_more : Copied b s (added w e) next
  copied_more =
      let g = step_gives walk next e step in
      let t = onto_of e c.rest (to_come next) (sym c.come ∙ g.come) in
      record {
        done = c.done ++ e ∷ [];
        rest = t.0;
        come = t.1;
        all = c.all ∙ ap (λ l. Some (c.done ++ l)) t.2 ∙ ap Some (sym (append_assoc c.done (e ∷ []) t.0));
        holds = holds_added b s.records c.done w e c.holds copied_takes;
        left = omega (arith, g.left, c.left);
        place = omega (arith, g.place, c.place);
        bound = omega (arith, g.bound, c.bound);
      }

pub copied_end : (b : List ℕ) (s : Shape) (w : Writer) (walk next : Walk) → Whole s → Copied b s w walk → (None, next) ≡ step_of walk
    → close_of w ≡ record { bytes = over b 0 s.part; len = length s.part }
copied_end b s w walk next whole c step =
    let none : c.rest ≡ [] = step_ends walk next c.rest step c.come in
    let part = whole.again c.done (c.all ∙ ap Some (ap (λ l. c.done ++ l) none ∙ append-nil c.done)) in
    holds_closed b s.records c.done w c.holds ∙ (λ i. record { bytes = over b 0 (sym part i); len = length (sym part i) })

-- a file that was written again is that of the entries that were read
pub written_again : (input b bs : List ℕ) (len : ℕ) (s : Shape) → Whole s → gives s ≡ read_of input → bs ≡ over b 0 s.part → len ≡ length s.part → Rewritten input (take len bs)
written_again input b bs len s whole a e l =
    let es = list_of (entries_of s) whole.full in
    record {
      shape = s;
      es = es.0;
      read = sym a;
      entries = es.1;
      bytes = (λ i. take (l i) (e i)) ∙ take_at s.part (drop (0 + length s.part) b) (length s.part) refl ∙ whole.again es.0 es.1;
    }

-- what unpacking gives where the list has room
pub unpacked : (bytes out : List ℕ) (n room : ℕ) → n ≡ min (length bytes / 2) room → length (pairs bytes) ≤ room → take n out ≡ take n (pairs bytes) → take (n - 0) out ≡ pairs bytes
unpacked bytes out n room e h f =
    let len = length_pairs bytes in
    let none : n - 0 ≡ n = omega arith in
    ap (λ k. take k out) none ∙ f ∙ take_all n (pairs bytes) (omega arith)

pub taking_same : (room : ℕ) (x : Extent) (e d : Commit) → e ≡ d → taking room x d ≡ gives tt → taking room x e ≡ gives tt
taking_same room x e d same h = ap (taking room x) same ∙ h
