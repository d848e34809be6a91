-- One view of a step of the log: which of its cases it is, what it was asked, and what it answers and leaves.
use Rattle.std.proofs.lemmas.Grind.{common_steps}
use Rattle.std.proofs.Common.{arith, ◌≡◌, ℕ, ◌+◌, ◌<◌, ◌≤◌, Bool, true, false, cond, ◌||◌, eqb, ltb, [], length, Some, None, Option, sym, refl, subst}
use Rattle.std.proofs.lemmas.Bool.{lt-ltb, ltb-true, ltb-false, cond_both, both_ways}
use Rattle.store.specs.declared.Code.{Code}
use Rattle.store.specs.declared.Version.{Version}
use Rattle.store.specs.Refusals.{Answer}
use Rattle.store.specs.Refusals.Answer.{gives}
use Rattle.store.specs.Meaning as store
use Rattle.store.specs.Meaning.{Rules, State, Console, console_at, chain_at, newest_at, picked, origin, own_at, holds, any_holds, pending_in, versions_in, with_console, replaced, committed}
use Rattle.certifier.specs.declared.Call.{Call}
use Rattle.certifier.specs.declared.Call.TheVariants.{Begin, Read, Write, Commit, Drop}
use Rattle.certifier.specs.Refusals.{unsafe}
use Rattle.certifier.specs.Marking.{Track, no_track, notes, noted, written}
use Rattle.certifier.specs.Meaning.{LogState, Reply, track_at, tracking, full, grant_at, settled, when_open, when_record, seeing, writing, judging, begin_step, read_step, write_step, commit_step, drop_step, step}
use Rattle.certifier.specs.Meaning.Reply.{begun, own, saw, overwrites, granted, dropped, refused}
use Rattle.runs.specs.Striking.{accepted, ends}

module _ {E : Type 0} where
  -- the log with console k at c, and its track at t
  abbrev pub put_at : LogState E → ℕ → Option (Console E) → Track → LogState E
  put_at s k c t = tracking s k (with_console s.store k c) t

  -- the version of record r that the console o is shown
  abbrev pub shown_to : Rules → LogState E → Console E → ℕ → Version E
  shown_to rules s o r = picked rules (origin s.store.first) (chain_at s.store r) o.began

  -- console k is one of sixteen, and open
  pub record Live (s : LogState E) (k : ℕ) (o : Console E) : Type 0 where
    pub near : k < 16
    pub console : console_at s.store k ≡ Some o

  -- a write to record r is let through: a second one, or a first one
  pub data Lets (rules : Rules) (s : LogState E) (o : Console E) (r : ℕ) : Type 0 where
    second : holds o.pending r ≡ true → Lets rules s o r
    first : holds o.pending r ≡ false → any_holds s.store.consoles r ≡ false → rules.admits (newest_at s.store r).stamp o.began ≡ true
        → versions_in s.store.chains + pending_in s.store.consoles < s.store.room → Lets rules s o r

  -- a call, what it answers, and what it leaves of the log s
  pub data Step (rules : Rules) (s : LogState E) : Call E → Reply E → LogState E → Type 0 where
    refusal : (c : Call E) (x : Code) → eqb x.number 11 ≡ false → Step rules s c (refused x) s
    begins : (k : ℕ) → k < 16 → console_at s.store k ≡ None
        → Step rules s (Begin k) (begun s.store.clock) (put_at s k (Some (record { began = s.store.clock; pending = [] })) no_track)
    owns : (k r : ℕ) (o : Console E) (e : E) → Live s k o → r < length s.store.chains → own_at o.pending r ≡ Some e → Step rules s (Read k r) (own e) s
    sees : (k r : ℕ) (o : Console E) → Live s k o → r < length s.store.chains → own_at o.pending r ≡ None → notes (track_at s k) (shown_to rules s o r).number ≡ true
        → Step rules s (Read k r) (saw (shown_to rules s o r)) (tracking s k s.store (noted (track_at s k) (shown_to rules s o r).number))
    writes : (k r : ℕ) (e : E) (o : Console E) → Live s k o → r < length s.store.chains → full s k r ≡ false → Lets rules s o r
        → Step rules s (Write k r e) (overwrites (newest_at s.store r).number)
        (put_at s k (Some (record { began = o.began; pending = replaced o.pending r e })) (written (track_at s k) r (newest_at s.store r).number))
    commits : (k : ℕ) (o : Console E) → Live s k o → s.store.clock < 4000 → (grant_at s k).high < (grant_at s k).low
        → Step rules s (Commit k) (granted (grant_at s k)) (settled s k (grant_at s k) (committed s.store k))
    fails : (k : ℕ) (o : Console E) → Live s k o → s.store.clock < 4000 → (grant_at s k).low ≤ (grant_at s k).high → Step rules s (Commit k) (refused unsafe) (put_at s k None no_track)
    drops : (k : ℕ) (o : Console E) → Live s k o → Step rules s (Drop k) dropped (put_at s k None no_track)

  -- what the step does in each case
  begin_plays : (s : LogState E) (k : ℕ) → k < 16 → console_at s.store k ≡ None
      → begin_step s k ≡ (begun s.store.clock, put_at s k (Some (record { began = s.store.clock; pending = [] })) no_track)
  begin_plays s k l e = rw (lt-ltb k 16 l, e)

  own_plays : (rules : Rules) (s : LogState E) (k r : ℕ) (o : Console E) (e : E) → Live s k o → r < length s.store.chains → own_at o.pending r ≡ Some e
      → read_step rules s k r ≡ (own e, s)
  own_plays rules s k r o e a l q = grind (arith, common_steps)

  sees_plays : (rules : Rules) (s : LogState E) (k r : ℕ) (o : Console E) → Live s k o → r < length s.store.chains → own_at o.pending r ≡ None
      → notes (track_at s k) (shown_to rules s o r).number ≡ true
      → read_step rules s k r ≡ (saw (shown_to rules s o r), tracking s k s.store (noted (track_at s k) (shown_to rules s o r).number))
  sees_plays rules s k r o a l q n = grind (arith, common_steps)

  drop_plays : (s : LogState E) (k : ℕ) (o : Console E) → Live s k o → drop_step s k ≡ (dropped, put_at s k None no_track)
  drop_plays s k o a = rw (lt-ltb k 16 a.near, a.console)

  commit_is : (s : LogState E) (k : ℕ) (o : Console E) → Live s k o → s.store.clock < 4000 → store.commit_of s.store k ≡ (gives (s.store.clock + 1), committed s.store k)
  commit_is s k o a d = grind (arith, common_steps)

  commit_plays : (s : LogState E) (k : ℕ) (o : Console E) → Live s k o → s.store.clock < 4000 → (grant_at s k).high < (grant_at s k).low
      → commit_step s k ≡ (granted (grant_at s k), settled s k (grant_at s k) (committed s.store k))
  commit_plays s k o a d g = grind (arith, common_steps)

  fail_plays : (s : LogState E) (k : ℕ) (o : Console E) → Live s k o → s.store.clock < 4000 → (grant_at s k).low ≤ (grant_at s k).high
      → commit_step s k ≡ (refused unsafe, put_at s k None no_track)
  fail_plays s k o a d g = grind (arith, common_steps)

  -- what the store answers to a write at a record that it has
  abbrev write_at : Rules → LogState E → Console E → ℕ → Answer ℕ
  write_at rules s o r = cond (holds o.pending r) (gives (newest_at s.store r).number) (store.first_write rules s.store o r)

  write_is : (rules : Rules) (s : LogState E) (k r : ℕ) (o : Console E) → Live s k o → r < length s.store.chains → store.write_answer rules s.store k r ≡ write_at rules s o r
  write_is rules s k r o a l = grind (arith, common_steps)

  write_plays : (rules : Rules) (s : LogState E) (k r : ℕ) (e : E) (o : Console E) → Live s k o → r < length s.store.chains → full s k r ≡ false → Lets rules s o r
      → write_step rules s k r e ≡ (
        overwrites (newest_at s.store r).number,
        put_at s k (Some (record { began = o.began; pending = replaced o.pending r e })) (written (track_at s k) r (newest_at s.store r).number),
      )
  write_plays rules s k r e o a l f w = grind (arith, common_steps)

  -- what the view says is what the step does, but for a refusal that ends nothing, of which the view does not say when it comes
  pub plays : {rules : Rules} {s : LogState E} {c : Call E} {x : Reply E} {t : LogState E} → Step rules s c x t → (accepted x || ends x) ≡ true → step rules s c ≡ (x, t)
  plays (refusal c x n) m = absurd (both_ways (eqb x.number 11) n m)
  plays {rules} {s} (begins k l e) m = begin_plays s k l e
  plays {rules} {s} (owns k r o e a l q) m = own_plays rules s k r o e a l q
  plays {rules} {s} (sees k r o a l q n) m = sees_plays rules s k r o a l q n
  plays {rules} {s} (writes k r e o a l f w) m = write_plays rules s k r e o a l f w
  plays {rules} {s} (commits k o a d g) m = commit_plays s k o a d g
  plays {rules} {s} (fails k o a d g) m = fail_plays s k o a d g
  plays {rules} {s} (drops k o a) m = drop_plays s k o a

  module _ (rules : Rules) (s : LogState E) where
    abbrev Views : Call E → Reply E × LogState E → Type 0
    Views c p = Step rules s c p.0 p.1

    view_open : (c : Call E) (k : ℕ) (p : Reply E × LogState E) → ((o : Console E) → Live s k o → Views c p) → Views c (when_open s k p)
    view_open c k p h = go (ltb k 16) refl (console_at s.store k) refl
      where
        go : (b : Bool) → ltb k 16 ≡ b → (o : Option (Console E)) → console_at s.store k ≡ o → Views c (when_open s k p)
        go false e o q = rw e (refusal c _ refl)
        go true e None q = rw (e, q) (refusal c _ refl)
        go true e (Some o) q = rw (e, q) (h o (record { near = ltb-true k 16 e; console = q }))

    view_record : (c : Call E) (r : ℕ) (p : Reply E × LogState E) → (r < length s.store.chains → Views c p) → Views c (when_record s r p)
    view_record c r p h =
        cond_both (ltb r (length s.store.chains)) _ _ (Views c) (λ e. h (ltb-true r (length s.store.chains) e)) (λ _. refusal c _ refl)

    view_begin : (k : ℕ) → Views (Begin k) (begin_step s k)
    view_begin k = go (ltb k 16) refl (console_at s.store k) refl
      where
        go : (b : Bool) → ltb k 16 ≡ b → (o : Option (Console E)) → console_at s.store k ≡ o → Views (Begin k) (begin_step s k)
        go false e o q = rw e (refusal (Begin k) _ refl)
        go true e None q = subst (Views (Begin k)) (sym (begin_plays s k (ltb-true k 16 e) q)) (begins k (ltb-true k 16 e) q)
        go true e (Some o) q = rw (e, q) (refusal (Begin k) _ refl)

    view_drop : (k : ℕ) → Views (Drop k) (drop_step s k)
    view_drop k = view_open (Drop k) k _ (λ o a. rw (lt-ltb k 16 a.near, a.console) (drops k o a))

    view_commit : (k : ℕ) → Views (Commit k) (commit_step s k)
    view_commit k =
        view_open (Commit k) k _ (λ o a.
        cond_both (ltb s.store.clock 4000) _ _ (Views (Commit k))
        (λ d. judged o a (ltb-true s.store.clock 4000 d))
        (λ _. refusal (Commit k) _ refl))
      where
        judged : (o : Console E) → Live s k o → s.store.clock < 4000 → Views (Commit k) (judging s k (grant_at s k))
        judged o a d =
            cond_both (ltb (grant_at s k).high (grant_at s k).low) _ _ (Views (Commit k))
            (λ g. subst (λ (p : Answer ℕ × State E). Views (Commit k) (granted (grant_at s k), settled s k (grant_at s k) p.1)) (sym (commit_is s k o a d))
            (commits k o a d (ltb-true (grant_at s k).high (grant_at s k).low g)))
            (λ g. rw (lt-ltb k 16 a.near, a.console) (fails k o a d (ltb-false (grant_at s k).high (grant_at s k).low g)))

    view_read : (k r : ℕ) → Views (Read k r) (read_step rules s k r)
    view_read k r = view_open (Read k r) k _ (λ o a. view_record (Read k r) r _ (λ l. shows o a l (own_at o.pending r) refl))
      where
        shows : (o : Console E) → Live s k o → r < length s.store.chains → (x : Option E) → own_at o.pending r ≡ x
            → Views (Read k r) (seeing s k (store.read_of rules s.store k r))
        shows o a l (Some e) q = rw (lt-ltb k 16 a.near, a.console, lt-ltb r (length s.store.chains) l, store.shown_at, q) (owns k r o e a l q)
        shows o a l None q =
            rw (lt-ltb k 16 a.near, a.console, lt-ltb r (length s.store.chains) l, store.shown_at, q)
            (cond_both (notes (track_at s k) (shown_to rules s o r).number) _ _ (Views (Read k r))
            (λ n. sees k r o a l q n)
            (λ _. refusal (Read k r) _ refl))

    view_write : (k r : ℕ) (e : E) → Views (Write k r e) (write_step rules s k r e)
    view_write k r e =
        view_open (Write k r e) k _ (λ o a. view_record (Write k r e) r _ (λ l.
        cond_both (full s k r) _ _ (Views (Write k r e))
        (λ _. refusal (Write k r e) _ refl)
        (λ f. subst P (sym (write_is rules s k r o a l)) (lets o a l f))))
      where
        P : Answer ℕ → Type 0
        P x = Views (Write k r e) (writing s k r (store.answered s.store x (λ _. with_console s.store k (store.wrote (console_at s.store k) r e))))

        put : (o : Console E) → Live s k o → r < length s.store.chains → full s k r ≡ false → Lets rules s o r → P (gives (newest_at s.store r).number)
        put o a l f w = rw a.console (writes k r e o a l f w)

        lets : (o : Console E) → Live s k o → r < length s.store.chains → full s k r ≡ false → P (write_at rules s o r)
        lets o a l f =
            cond_both (holds o.pending r) _ _ P
            (λ h. put o a l f (second h))
            (λ h. cond_both (any_holds s.store.consoles r) _ _ P
            (λ _. refusal (Write k r e) _ refl)
            (λ n. cond_both (rules.admits (newest_at s.store r).stamp o.began) _ _ P
            (λ d. cond_both (ltb (versions_in s.store.chains + pending_in s.store.consoles) s.store.room) _ _ P
            (λ g. put o a l f (first h n d (ltb-true _ _ g)))
            (λ _. refusal (Write k r e) _ refl))
            (λ _. refusal (Write k r e) _ refl)))

    -- each step is one of the cases
    pub view : (c : Call E) → Step rules s c (step rules s c).0 (step rules s c).1
    view (Begin k) = view_begin k
    view (Read k r) = view_read k r
    view (Write k r e) = view_write k r e
    view (Commit k) = view_commit k
    view (Drop k) = view_drop k
