-- Stretches of lines, played on one log, print what the lines print one by one.
use Rattle.std.proofs.Common.{◌≡◌, ℕ, suc, ◌+◌, length, not, Bool, true, false, cond, List, [], ◌∷◌, ◌++◌, map, is_some, Some, None, Ok, Err, Option, sym, refl, ap, ◌∙◌, ap₂, append_assoc, append-nil, arith}
use Rattle.std.specs.List.{filter_map, cons_option, position_or_len}
use Rattle.std.specs.Option.{option_map}
use Rattle.store.specs.Meaning.{Rules}
use Rattle.store.specs.Refusals.{bad_table}
use Rattle.certifier.specs.declared.Call as certifier
use Rattle.runs.specs.History.{Event, history_of, summary_of, entries_in}
use Rattle.certifier.specs.Entries.{Entry}
use Rattle.certifier.specs.Meaning.{LogState, Reply, opened, step, answers_of, after}
use Rattle.sheet.specs.declared.request.LogKind.{LogKind}
use Rattle.sheet.specs.declared.request.Request.TheVariants.{Open, Call}
use Rattle.sheet.specs.declared.response.Success.TheVariants.{Done}
use Rattle.sheet.specs.Answers.{Item, Response, OpenLog, Log, rules_of, fresh, after_call, replied, accepted, answered, responses_of, log_after}
use Rattle.sheet.specs.Faults.{no_log, passed}
use Rattle.sheet.specs.Stretches.{Final, final_of, sizes_of, opens, Opens, until_open, from_open, call_in, calls_in, beside}
use Rattle.sheet.specs.Printing.{stamps_by_rank}
use Rattle.std.proofs.lemmas.List.{take-append-drop}
use Rattle.sheet.proofs.Untils.{all_before, calm}

-- one part of the lines after another
pub responses_append : (s : Log) (is js : List Item) → responses_of s (is ++ js) ≡ responses_of s is ++ responses_of (log_after s is) js
responses_append s [] js = refl
responses_append s (i ∷ is) js = ap (λ l. (answered s i).0 ∷ l) (responses_append (answered s i).1 is js)

pub after_append : (s : Log) (is js : List Item) → log_after s (is ++ js) ≡ log_after (log_after s is) js
after_append s [] js = refl
after_append s (i ∷ is) js = after_append (answered s i).1 is js

-- what the calls print, and the log that they leave
abbrev pub replies : Log → List (certifier.Call ℕ) → List Response
replies None cs = []
replies (Some s) cs = map replied (answers_of s.rules s.state cs)

abbrev pub left : OpenLog → List (certifier.Call ℕ) → OpenLog
left s cs = record {
  rules = s.rules;
  size = s.size;
  state = after s.rules s.state cs;
  history = s.history ++ history_of cs (answers_of s.rules s.state cs);
}

abbrev pub leaves : Log → List (certifier.Call ℕ) → Log
leaves None cs = None
leaves (Some s) cs = Some (left s cs)

left_none : (s : OpenLog) → s ≡ left s []
left_none s = let F : List (Event ℕ) → OpenLog = λ h. record { rules = s.rules; size = s.size; state = s.state; history = h } in ap F (sym (append-nil s.history))

left_more : (s : OpenLog) (c : certifier.Call ℕ) (cs : List (certifier.Call ℕ)) → left (after_call s c) cs ≡ left s (c ∷ cs)
left_more s c cs =
    let F : List (Event ℕ) → OpenLog = λ h. record { rules = s.rules; size = s.size; state = after s.rules s.state (c ∷ cs); history = h } in
    ap F (append_assoc s.history (record { call = c; reply = (step s.rules s.state c).0 } ∷ []) (history_of cs (answers_of s.rules (step s.rules s.state c).1 cs)))

-- the lines print the replies to their calls beside what no log answers
abbrev pub Played : List Item → Log → Type 0
Played is s = (responses_of s is ≡ beside is (replies s (calls_in is))) × (log_after s is ≡ leaves s (calls_in is))

played_one : (i : Item) (is : List Item) → is_some (sizes_of i) ≡ false → ((s : Log) → Played is s) → (s : Log) → Played (i ∷ is) s
played_one (Err f) is e rest s = (ap (λ l. Err f ∷ l) (rest s).0, (rest s).1)
played_one (Ok (Open r l k)) is e rest s = go (accepted r l) e
  where
    go : (t : Bool) → is_some {T = ℕ × ℕ × LogKind} (cond t (Some (r, l, k)) None) ≡ false
        → let after' = cond {A = Response × Log} t (Ok Done, Some (fresh (rules_of k) r l)) (Err (passed bad_table), s) in
        (after'.0 ∷ responses_of after'.1 is ≡ Err (passed bad_table) ∷ beside is (replies s (calls_in is))) × (log_after after'.1 is ≡ leaves s (calls_in is))
    go true e = let z : ◌≡◌ {A = ℕ} 0 1 = cc in absurd (omega arith)
    go false e = (ap (λ l. Err (passed bad_table) ∷ l) (rest s).0, (rest s).1)
played_one (Ok (Call c)) is e rest None = (ap (λ l. Err no_log ∷ l) (rest None).0, (rest None).1)
played_one (Ok (Call c)) is e rest (Some s) =
    let next = rest (Some (after_call s c)) in
    (ap (λ l. replied (step s.rules s.state c).0 ∷ l) next.0, next.1 ∙ ap Some (left_more s c (calls_in is)))

all_played : (is : List Item) (s : Log) → position_or_len opens is ≡ length is → Played is s
all_played [] None q = (refl, refl)
all_played [] (Some s) q = (refl, ap Some (left_none s))
all_played (i ∷ is) s q = go (opens i) refl q (all_played is)
  where
    go : (t : Bool) → opens i ≡ t → cond (not t) (1 + position_or_len opens is) 0 ≡ suc (length is) → ((u : Log) → position_or_len opens is ≡ length is → Played is u) → Played (i ∷ is) s
    go true e q rest = absurd (omega arith)
    go false e q rest = played_one i is e (λ u. rest u (omega arith)) s

pub played : (is : List Item) (s : Log) → until_open is ≡ is → Played is s
played is s q = all_played is s (all_before is q)

-- a stretch from an accepted open on: what the log answered, beside what it was not asked
module _ (rules : Rules) (size room : ℕ) (is : List Item) (calm : until_open is ≡ is) (calls : List (certifier.Call ℕ)) (asked : calls ≡ calls_in is) where
  pub stretch_responses : (had pushed has : List Response) (answers : List (Reply ℕ)) → answers ≡ answers_of rules (opened size room 0) calls
      → pushed ≡ had ++ Ok Done ∷ [] → has ≡ pushed ++ beside is (map replied answers) → has ≡ had ++ Ok Done ∷ responses_of (Some (fresh rules size room)) is
  stretch_responses had pushed has answers told opens adds =
      let line = λ (cs : List (certifier.Call ℕ)). map replied (answers_of rules (opened size room 0) cs) in
      adds ∙ ap (λ l. l ++ beside is (map replied answers)) opens ∙ append_assoc had (Ok Done ∷ []) (beside is (map replied answers))
      ∙ ap (λ l. had ++ Ok Done ∷ beside is (map replied l)) told ∙ ap (λ l. had ++ Ok Done ∷ beside is (line l)) asked
      ∙ ap (λ l. had ++ Ok Done ∷ l) (sym (played is (Some (fresh rules size room)) calm).0)

  -- what is left of the log
  pub stretch_final : (state : LogState ℕ) (answers : List (Reply ℕ)) (stamps : List ℕ) (entries : List Entry) → state ≡ after rules (opened size room 0) calls
      → answers ≡ answers_of rules (opened size room 0) calls → stamps ≡ stamps_by_rank state → entries ≡ entries_in (summary_of size (history_of calls answers)).done
      → Some (record { size = size; stamps = stamps; entries = entries }) ≡ option_map final_of (log_after (Some (fresh rules size room)) is)
  stretch_final state answers stamps entries left told ranked kept =
      let F : List ℕ → List Entry → Option Final = λ x y. Some (record { size = size; stamps = x; entries = y }) in
      let same = λ (cs : List (certifier.Call ℕ)). option_map final_of (leaves (Some (fresh rules size room)) cs) in
      ap₂ F (ranked ∙ ap stamps_by_rank left) (kept ∙ ap (λ (a : List (Reply ℕ)). entries_in (summary_of size (history_of calls a)).done) told)
      ∙ (ap same asked ∙ sym (ap (option_map final_of) (played is (Some (fresh rules size room)) calm).1))

-- lines cut at the next accepted open
module _ (is front back : List Item) (f : front ≡ until_open is) (b : back ≡ from_open is) where
  split_responses : (s : Log) → responses_of s is ≡ responses_of s front ++ responses_of (log_after s front) back
  split_responses s = ap (responses_of s) (sym (take-append-drop (position_or_len opens is) is)) ∙ responses_append s (until_open is) (from_open is) ∙ (λ i. responses_of s (sym f i) ++ responses_of (log_after s (sym f i)) (sym b i))

  split_log : (s : Log) → log_after s is ≡ log_after (log_after s front) back
  split_log s = ap (log_after s) (sym (take-append-drop (position_or_len opens is) is)) ∙ after_append s (until_open is) (from_open is) ∙ (λ i. log_after (log_after s (sym f i)) (sym b i))

  -- the lines before any log is open
  pub before_responses : responses_of None is ≡ beside front [] ++ responses_of None back
  before_responses = let p = played front None (calm front is f) in split_responses None ∙ (λ i. p.0 i ++ responses_of (p.1 i) back)

  pub before_log : log_after None is ≡ log_after None back
  before_log = split_log None ∙ ap (λ s. log_after s back) (played front None (calm front is f)).1

  -- lines that begin with an accepted open, before these, whatever log was open
  module _ (s : Log) (all : List Item) (r l : ℕ) (k : LogKind) (o : Opens all r l k is) where
    abbrev answer : Bool → Response × Log
    answer t = cond t (Ok Done, Some (fresh (rules_of k) r l)) (Err (passed bad_table), s)

    pub turn_responses : responses_of s all ≡ (Ok Done ∷ responses_of (Some (fresh (rules_of k) r l)) front) ++ responses_of (log_after (Some (fresh (rules_of k) r l)) front) back
    turn_responses =
        ap (responses_of s) o.0 ∙ ap (λ t. (answer t).0 ∷ responses_of (answer t).1 is) o.1 ∙ ap (λ x. Ok Done ∷ x) (split_responses (Some (fresh (rules_of k) r l)))

    pub turn_log : log_after s all ≡ log_after (log_after (Some (fresh (rules_of k) r l)) front) back
    turn_log = ap (log_after s) o.0 ∙ ap (λ t. log_after (answer t).1 is) o.1 ∙ split_log (Some (fresh (rules_of k) r l))

-- the calls of lines, as the code finds them
pub calls_found : {X : Type 0} (g : X → Item) (xs : List X) → calls_in (map g xs) ≡ filter_map (λ x. call_in (g x)) xs
calls_found g [] = refl
calls_found g (x ∷ xs) = ap (cons_option (call_in (g x))) (calls_found g xs)
