-- How the answers of the store lead to the steps of the log.
use Rattle.std.proofs.lemmas.Grind.{common_steps}
use Rattle.std.proofs.Common.{◌≡◌, ℕ, ◌<◌, ◌≤◌, Bool, true, false, cond, not, ◌&&◌, ltb, leb, List, [], ◌∷◌, map, length, get_or, set, is_some, Some, None, Option, sym, refl, ap, ◌∙◌, arith}
use Rattle.std.proofs.lemmas.Bool.{ltb-true, cond-true, cond-false}
use Rattle.std.proofs.Math.Bool.{and-false}
use Rattle.std.proofs.lemmas.List.{map-set, get_or-map, set-get_or}
use Rattle.store.specs.declared.Code.{Code}
use Rattle.store.specs.declared.Pending.{Pending}
use Rattle.store.specs.declared.Version.{Version}
use Rattle.store.specs.Refusals.{Answer}
use Rattle.store.specs.Refusals.Answer.{gives, refuses}
use Rattle.store.specs.Meaning as store
use Rattle.store.specs.Meaning.{State, Console, Rules, Shown}
use Rattle.store.specs.Meaning.Shown.{own as own_entry, version}
use Rattle.certifier.specs.declared.Mark.{Mark}
use Rattle.certifier.specs.declared.track.Track as code
use Rattle.certifier.specs.Refusals.{passed, writes_full}
use Rattle.certifier.specs.Marking.{Track, no_track, notes, noted, written, mark_at, low_or, low_mark}
use Rattle.certifier.specs.Entries.{track_of}
use Rattle.certifier.specs.Meaning.{LogState, Reply, is_open, track_at, writing, full, write_step}
use Rattle.certifier.specs.Meaning.Reply.{overwrites, refused}

-- a refused call of a store leaves its state
pub refused_same : {A E : Type 0} (s st : State E) (c : Code) (x : Answer A) (f : A → State E) → (refuses c, st) ≡ store.answered s x f → st ≡ s
refused_same s st c (gives a) f e = absurd (let z = ap (λ p. p.0) e in cc)
refused_same s st c (refuses d) f e = ap (λ p. p.1) e

module _ {E : Type 0} where
  own_holds : (ps : List (Pending E)) (r : ℕ) → is_some (store.own_at ps r) ≡ store.holds ps r
  own_holds [] r = refl
  own_holds (p ∷ ps) r = grind (arith, common_steps, own_holds ps r)

  -- what a read that is granted tells of the console and of the record
  record Granted-read (rules : Rules) (s : State E) (k r : ℕ) (x : Shown E) : Type 0 where
    console : Console E
    near : ltb k 16 ≡ true
    held : store.console_at s k ≡ Some console
    inside : ltb r (length s.chains) ≡ true
    seen : x ≡ store.shown_at rules s console r

  read_tells : (rules : Rules) (s : State E) (k r : ℕ) (x : Shown E) → gives x ≡ store.read_of rules s k r → Granted-read rules s k r x
  read_tells rules s k r x a = grind (arith, common_steps)

  -- a commit that the store grants is not past the end of the day
  pub commit_tells : (s : State E) (k n : ℕ) (st : State E) → (gives n, st) ≡ store.commit_of s k → s.clock < 4000
  commit_tells s k n st a = grind (arith, common_steps)

  own_held : (rules : Rules) (s : State E) (c : Console E) (r : ℕ) (x : E) → own_entry x ≡ store.shown_at rules s c r → store.holds c.pending r ≡ true
  own_held rules s c r x e = go (store.own_at c.pending r) refl
    where
      go : (o : Option E) → store.own_at c.pending r ≡ o → store.holds c.pending r ≡ true
      go None q = absurd (let z = rw (store.shown_at, q) at e in cc)
      go (Some y) q = sym (own_holds c.pending r) ∙ ap is_some q

  none_held : (rules : Rules) (s : State E) (c : Console E) (r : ℕ) (v : Version E) → version v ≡ store.shown_at rules s c r → store.holds c.pending r ≡ false
  none_held rules s c r v e = go (store.own_at c.pending r) refl
    where
      go : (o : Option E) → store.own_at c.pending r ≡ o → store.holds c.pending r ≡ false
      go None q = sym (own_holds c.pending r) ∙ ap is_some q
      go (Some y) q = absurd (let z = rw (store.shown_at, q) at e in cc)

  module _ (rules : Rules) (s : LogState E) (k r : ℕ) where
    -- a write that is not to a 17th record is the store's
    pub write_is : (e : E) → (k < 16 → full s k r ≡ false) → writing s k r (store.write_of rules s.store k r e) ≡ write_step rules s k r e
    write_is e h = go (ltb k 16) refl (store.console_at s.store k) refl (ltb r (length s.store.chains)) refl
      where
        go : (b : Bool) → ltb k 16 ≡ b → (o : Option (Console E)) → store.console_at s.store k ≡ o → (d : Bool) → ltb r (length s.store.chains) ≡ d
            → writing s k r (store.write_of rules s.store k r e) ≡ write_step rules s k r e
        go false l o q d f = rw l
        go true l None q d f = rw (l, q)
        go true l (Some c) q false f = rw (l, q, f)
        go true l (Some c) q true f =
            sym (cond-false (full s k r) _ _ (h (ltb-true k 16 l))) ∙ (sym (cond-true (ltb r (length s.store.chains)) _ _ f)
            ∙ (sym (cond-true (is_open s k) _ _ (ap is_some q)) ∙ sym (cond-true (ltb k 16) _ _ l)))

    pub write_ok : (e : E) (n : ℕ) (st : State E) (ts : List Track) → (k < 16 → full s k r ≡ false) → (gives n, st) ≡ store.write_of rules s.store k r e
        → ts ≡ set s.tracks k (written (track_at s k) r n)
        → ◌≡◌ {A = Reply E × LogState E} (overwrites n, record { store = st; places = s.places; marks = s.marks; tracks = ts; ranks = s.ranks }) (write_step rules s k r e)
    write_ok e n st ts h a t =
        let f : List Track → Reply E × LogState E = λ u. (overwrites n, record { store = st; places = s.places; marks = s.marks; tracks = u; ranks = s.ranks }) in
        ap f t ∙ (ap (writing s k r) a ∙ write_is e h)

    pub write_refused : (e : E) (c : Code) (st : State E) → (k < 16 → full s k r ≡ false) → (refuses c, st) ≡ store.write_of rules s.store k r e
        → ◌≡◌ {A = Reply E × LogState E} (refused (passed c), record { store = st; places = s.places; marks = s.marks; tracks = s.tracks; ranks = s.ranks }) (write_step rules s k r e)
    write_refused e c st h a =
        let same = refused_same s.store st c (store.write_answer rules s.store k r) _ a in
        let f : State E → Reply E × LogState E = λ u. (refused (passed c), record { store = u; places = s.places; marks = s.marks; tracks = s.tracks; ranks = s.ranks }) in
        ap f same ∙ (ap (writing s k r) a ∙ write_is e h)

    pub few_written : (t : Track) (b : Bool) → t ≡ track_at s k → b ≡ leb 16 (length t.writes) → b ≡ false → full s k r ≡ false
    few_written t b e q f = grind (arith, common_steps)

    pub own_written : (x : E) → gives (own_entry x) ≡ store.read_of rules s.store k r → full s k r ≡ false
    own_written x a =
        let g = read_tells rules s.store k r (own_entry x) a in
        let h = ap (λ (o : Option (Console E)). store.holds (store.pending_list o) r) g.held ∙ own_held rules s.store g.console r x g.seen in
        ap (λ (b : Bool). leb 16 (length (track_at s k).writes) && not b) h ∙ and-false (leb 16 (length (track_at s k).writes))

    pub write_full : (e : E) (t : Track) (b : Bool) (v : Version E) → t ≡ track_at s k → b ≡ leb 16 (length t.writes) → b ≡ true
        → gives (version v) ≡ store.read_of rules s.store k r → (refused writes_full, s) ≡ write_step rules s k r e
    write_full e t b v te q f a =
        let g = read_tells rules s.store k r (version v) a in
        let h : store.holds (store.pending_at s.store k) r ≡ false =
        ap (λ (o : Option (Console E)). store.holds (store.pending_list o) r) g.held ∙ none_held rules s.store g.console r v g.seen in
        let w : leb 16 (length (track_at s k).writes) ≡ true = ap (λ (u : Track). leb 16 (length u.writes)) (sym te) ∙ (sym q ∙ f) in
        let z : full s k r ≡ true = ap (λ (x : Bool). x && not (store.holds (store.pending_at s.store k) r)) w ∙ ap not h in
        sym (cond-true (full s k r) _ _ z) ∙ (sym (cond-true (ltb r (length s.store.chains)) _ _ g.inside)
        ∙ (sym (cond-true (is_open s k) _ _ (ap is_some g.held)) ∙ sym (cond-true (ltb k 16) _ _ g.near)))

pub tracks_set : (ts : List code.Track) (k : ℕ) (t : code.Track) (u : Track) → track_of t ≡ u → map track_of (set ts k t) ≡ set (map track_of ts) k u
tracks_set ts k t u e = map-set track_of ts k t ∙ ap (set (map track_of ts) k) e

pub tracks_get : (ts : List code.Track) (k : ℕ) (d : code.Track) → k < length ts → get_or (map track_of ts) k no_track ≡ track_of (get_or ts k d)
tracks_get ts k d lt = get_or-map track_of ts k d no_track lt

-- a version noted at the track u of console k, where it can be
pub tracks_note : (ts : List code.Track) (k : ℕ) (t : code.Track) (u : Track) (n : ℕ) → get_or (map track_of ts) k no_track ≡ u → track_of t ≡ cond (notes u n) (noted u n) u
    → map track_of (set ts k t) ≡ cond (notes (get_or (map track_of ts) k no_track) n) (set (map track_of ts) k (noted (get_or (map track_of ts) k no_track) n)) (map track_of ts)
tracks_note ts k t u n e f = rw e (go (notes u n) f)
  where
    go : (b : Bool) → track_of t ≡ cond b (noted u n) u → map track_of (set ts k t) ≡ cond b (set (map track_of ts) k (noted u n)) (map track_of ts)
    go true f = tracks_set ts k t _ f
    go false f = tracks_set ts k t _ (f ∙ sym e) ∙ set-get_or (map track_of ts) k no_track

-- a transaction's low mark is at most its stamp
pub low_le : (ms : List Mark) (c : ℕ) (ns : List ℕ) → low_mark ms c ns ≤ c
low_le ms c [] = omega arith
low_le ms c (n ∷ ns) = grind (arith, common_steps, low_le ms (low_or c (mark_at ms n).low) ns)
