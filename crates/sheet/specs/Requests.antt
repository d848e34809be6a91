-- What a line asks for, or its leftmost fault.
use Rattle.std.specs.Prelude.{ℕ, ◌+◌, cond, List, [], ◌∷◌, length, Some, None, Ok, Err, codes, Option, Result, ◌==◌}
use Rattle.std.specs.Str.{bytes_eq}
use Rattle.certifier.specs.declared.Call.TheVariants.{Begin, Read, Write, Commit, Drop}
use Rattle.sheet.specs.declared.request.Verb.{Verb}
use Rattle.sheet.specs.declared.request.Verb.TheVariants as verb
use Rattle.sheet.specs.declared.request.LogKind.{LogKind}
use Rattle.sheet.specs.declared.request.LogKind.TheVariants.{Newest, Snapshot}
use Rattle.sheet.specs.declared.request.Request.{Request}
use Rattle.sheet.specs.declared.request.Request.TheVariants.{Open, Call}
use Rattle.sheet.specs.Cuts.{Placed, words_of, behind}
use Rattle.sheet.specs.Faults.{Flaw, word_at, numeral_at}
use Rattle.sheet.specs.Numerals.{numeral}

-- the verb that a word names
abbrev pub verb_of : List ℕ → Option Verb
verb_of w =
    cond (bytes_eq w (codes "open")) (Some verb.Open)
    (cond (bytes_eq w (codes "begin")) (Some verb.Begin)
    (cond (bytes_eq w (codes "read")) (Some verb.Read)
    (cond (bytes_eq w (codes "write")) (Some verb.Write)
    (cond (bytes_eq w (codes "commit")) (Some verb.Commit)
    (cond (bytes_eq w (codes "drop")) (Some verb.Drop) None)))))

abbrev pub kind_of : List ℕ → Option LogKind
kind_of w = cond (bytes_eq w (codes "newest")) (Some Newest) (cond (bytes_eq w (codes "snapshot")) (Some Snapshot) None)

-- what stands where a number is wanted; e is the column past the line's end
abbrev pub number_at : Placed → ℕ → Result ℕ Flaw
number_at [] e = Err (numeral_at e)
number_at (w ∷ ws) e =
    cond (length w.0 == 0) (Err (word_at w.1))
    (elim (numeral w.0) [ None ↦ Err (numeral_at w.1) | Some n ↦ Ok n ])

-- what stands where the verb is wanted
abbrev pub verb_at : Placed → ℕ → Result Verb Flaw
verb_at [] e = Err (word_at e)
verb_at (w ∷ ws) e = elim (verb_of w.0) [ None ↦ Err (word_at w.1) | Some v ↦ Ok v ]

-- what stands where the kind is wanted: `newest`, or nothing
abbrev pub kind_at : Placed → Result LogKind Flaw
kind_at [] = Ok Newest
kind_at (w ∷ ws) = elim (kind_of w.0) [ None ↦ Err (word_at w.1) | Some k ↦ Ok k ]

-- no word may follow
abbrev pub end_at : Placed → Result Unit Flaw
end_at [] = Ok tt
end_at (w ∷ ws) = Err (word_at w.1)

-- the first fault ends it
abbrev pub after : {X Y : Type 0} → Result X Flaw → (X → Result Y Flaw) → Result Y Flaw
after (Ok x) f = f x
after (Err e) f = Err e

-- one number, two or three, and no more
abbrev pub one_of : (ℕ → Request) → Placed → ℕ → Result Request Flaw
one_of f ws e = after (number_at ws e) (λ a. after (end_at (behind ws)) (λ _. Ok (f a)))

abbrev pub two_of : (ℕ → ℕ → Request) → Placed → ℕ → Result Request Flaw
two_of f ws e = after (number_at ws e) (λ a. one_of (f a) (behind ws) e)

abbrev pub three_of : (ℕ → ℕ → ℕ → Request) → Placed → ℕ → Result Request Flaw
three_of f ws e = after (number_at ws e) (λ a. two_of (f a) (behind ws) e)

-- two numbers, perhaps a kind, and no more
abbrev pub open_of : Placed → ℕ → Result Request Flaw
open_of ws e =
    after (number_at ws e) (λ r.
    after (number_at (behind ws) e) (λ l.
    after (kind_at (behind (behind ws))) (λ k.
    after (end_at (behind (behind (behind ws)))) (λ _. Ok (Open r l k)))))

-- the arguments that a verb wants: a console, a record and an entry, as far as it wants them
abbrev pub args_of : Verb → Placed → ℕ → Result Request Flaw
args_of verb.Open ws e = open_of ws e
args_of verb.Begin ws e = one_of (λ k. Call (Begin k)) ws e
args_of verb.Read ws e = two_of (λ k r. Call (Read k r)) ws e
args_of verb.Write ws e = three_of (λ k r n. Call (Write k r n)) ws e
args_of verb.Commit ws e = one_of (λ k. Call (Commit k)) ws e
args_of verb.Drop ws e = one_of (λ k. Call (Drop k)) ws e

-- a line's request, or its leftmost fault
abbrev pub request_of : List ℕ → Result Request Flaw
request_of line =
    after (verb_at (words_of line) (length line + 1)) (λ v. args_of v (behind (words_of line)) (length line + 1))
