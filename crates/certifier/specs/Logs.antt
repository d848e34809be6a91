-- What a log of the code stands for, and what each case of its answers does.
use Rattle.std.specs.Prelude.{◌≡◌, ℕ, Ok, Err, vec_items, Result}
use Rattle.store.specs.declared.Seen.{Seen}
use Rattle.store.specs.declared.Seen.TheVariants as seen
use Rattle.store.specs.declared.OpenFault.{OpenFault}
use Rattle.store.specs.Refusals.{Answer, answer_by, open_code}
use Rattle.store.specs.Meaning.{State, Range, Unopened}
use Rattle.certifier.specs.declared.log.Log.{Log}
use Rattle.certifier.specs.declared.Accepted.{Accepted}
use Rattle.certifier.specs.declared.Accepted.TheVariants as accepted
use Rattle.certifier.specs.declared.Grant.{Grant}
use Rattle.certifier.specs.declared.LogRefusal.{LogRefusal}
use Rattle.certifier.specs.Refusals.{code_of}
use Rattle.certifier.specs.Rankings.{ranks_of}
use Rattle.certifier.specs.Meaning.{LogState, Reply, opened}
use Rattle.certifier.specs.Meaning.Reply.{begun, own, saw, overwrites, granted, dropped, refused}

abbrev pub log_state : {S E : Type 0} → (S → State E) → Log S E → LogState E
log_state state log = record {
  store = state log.store;
  places = log.marks.places;
  marks = vec_items log.marks.rows;
  tracks = log.tracks;
  ranks = ranks_of log.ranks;
}

abbrev pub answer_of : {A : Type 0} → Result A LogRefusal → Answer A
answer_of r = answer_by (λ a. a) code_of r

module _ {E : Type 0} where
  abbrev pub reply_by : {A : Type 0} → (A → Reply E) → Result A LogRefusal → Reply E
  reply_by f (Ok a) = f a
  reply_by f (Err e) = refused (code_of e)

  abbrev pub begin_reply : Result ℕ LogRefusal → Reply E
  begin_reply r = reply_by begun r

  abbrev pub seen_reply : Seen E → Reply E
  seen_reply (seen.Own e) = own e
  seen_reply (seen.Committed v) = saw v

  abbrev pub read_reply : Result (Seen E) LogRefusal → Reply E
  read_reply r = reply_by seen_reply r

  abbrev pub write_reply : Result ℕ LogRefusal → Reply E
  write_reply r = reply_by overwrites r

  abbrev pub commit_reply : Result Grant LogRefusal → Reply E
  commit_reply r = reply_by granted r

  abbrev pub drop_reply : Result Unit LogRefusal → Reply E
  drop_reply r = reply_by (λ _. dropped) r

  -- of any call
  abbrev pub accepted_reply : Accepted E → Reply E
  accepted_reply (accepted.Begun b) = begun b
  accepted_reply (accepted.Own e) = own e
  accepted_reply (accepted.Saw v) = saw v
  accepted_reply (accepted.Overwrites n) = overwrites n
  accepted_reply (accepted.Granted g) = granted g
  accepted_reply accepted.Dropped = dropped

  abbrev pub reply_of : Result (Accepted E) LogRefusal → Reply E
  reply_of r = reply_by accepted_reply r

-- what opening a log answers
abbrev pub OpensLog : {S E : Type 0} → (S → State E) → ℕ → ℕ → E → Result (Log S E) OpenFault → Type 0
OpensLog state size room first (Ok log) = Range size room × (log_state state log ≡ opened size room first)
OpensLog state size room first (Err f) = Unopened size room (open_code f)
