-- What the lines of a sheet are answered, and the log that they leave.
use Rattle.std.specs.Prelude.{ℕ, Bool, cond, ◌&&◌, List, [], ◌∷◌, ◌++◌, Some, None, Ok, Err, Option, Result, nat_le}
use Rattle.store.specs.Refusals.{bad_table}
use Rattle.store.specs.Meaning.{Rules}
use Rattle.store.specs.Kinds.{newest_rules, snapshot_rules}
use Rattle.certifier.specs.declared.Call as certifier
use Rattle.certifier.specs.Meaning.{LogState, Reply, opened, step}
use Rattle.certifier.specs.Meaning.Reply.{begun, own, saw, overwrites, granted, dropped, refused}
use Rattle.runs.specs.History.{Event}
use Rattle.sheet.specs.declared.request.LogKind.{LogKind}
use Rattle.sheet.specs.declared.request.LogKind.TheVariants.{Newest, Snapshot}
use Rattle.sheet.specs.declared.request.Request.{Request}
use Rattle.sheet.specs.declared.request.Request.TheVariants.{Open, Call}
use Rattle.sheet.specs.declared.response.Success.{Success}
use Rattle.sheet.specs.declared.response.Success.TheVariants.{Done, One, Granted, Version, Own}
use Rattle.sheet.specs.Faults.{Flaw, no_log, passed}

-- what a line comes to: a request, or its fault
abbrev pub Item : Type 0
Item = Result Request Flaw

-- what a line is answered
abbrev pub Response : Type 0
Response = Result Success Flaw

-- an open log: the rules of its store, the number of its records, its state, and what was called on it with the answers
pub record OpenLog : Type 0 where
  pub rules : Rules
  pub size : ℕ
  pub state : LogState ℕ
  pub history : List (Event ℕ)

-- no log yet, or one
abbrev pub Log : Type 0
Log = Option OpenLog

abbrev pub rules_of : LogKind → Rules
rules_of Newest = newest_rules
rules_of Snapshot = snapshot_rules

-- a fresh log of r records at the entry 0, in l places
abbrev pub fresh : Rules → ℕ → ℕ → OpenLog
fresh rules r l = record { rules = rules; size = r; state = opened r l 0; history = [] }

-- the log after a call
abbrev pub after_call : OpenLog → certifier.Call ℕ → OpenLog
after_call s c = record {
  rules = s.rules;
  size = s.size;
  state = (step s.rules s.state c).1;
  history = s.history ++ (record { call = c; reply = (step s.rules s.state c).0 } ∷ []);
}

-- a reply of a log; a refusal keeps its number and its layer
abbrev pub replied : Reply ℕ → Response
replied (begun b) = Ok (One b)
replied (own e) = Ok (Own e)
replied (saw v) = Ok (Version v)
replied (overwrites n) = Ok (One n)
replied (granted g) = Ok (Granted g)
replied dropped = Ok Done
replied (refused c) = Err (passed c)

-- whether an open is accepted: 1 to 256 records, and places for that many versions to 2,048
abbrev pub accepted : ℕ → ℕ → Bool
accepted r l = (nat_le 1 r && nat_le r 256) && (nat_le r l && nat_le l 2048)

-- a call on the log, where one is open
abbrev pub called : Log → certifier.Call ℕ → Response × Log
called None c = (Err no_log, None)
called (Some s) c = (replied (step s.rules s.state c).0, Some (after_call s c))

-- what a line is answered, and the log that it leaves: an accepted open starts a fresh one
abbrev pub answered : Log → Item → Response × Log
answered s (Err f) = (Err f, s)
answered s (Ok (Open r l k)) = cond (accepted r l) (Ok Done, Some (fresh (rules_of k) r l)) (Err (passed bad_table), s)
answered s (Ok (Call c)) = called s c

-- every line in turn
abbrev pub responses_of : Log → List Item → List Response
responses_of s [] = []
responses_of s (i ∷ is) = (answered s i).0 ∷ responses_of (answered s i).1 is

abbrev pub log_after : Log → List Item → Log
log_after s [] = s
log_after s (i ∷ is) = log_after (answered s i).1 is
