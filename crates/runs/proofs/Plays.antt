-- Calls of a run one after another: what holds amid them, and what one call more and the last one make of it.
use Rattle.std.proofs.lemmas.Grind.{common_steps}
use Rattle.std.proofs.Common.{arith, ◌≡◌, ℕ, ◌+◌, ◌<◌, ◌≤◌, List, [], ◌∷◌, ◌++◌, length, get_or, drop, Result}
use Rattle.store.specs.Meaning.{Rules}
use Rattle.certifier.specs.declared.Call.{Call}
use Rattle.certifier.specs.Marking.{Track}
use Rattle.certifier.specs.Meaning.{LogState, Reply, step, answers_of, after}
use Rattle.certifier.specs.Entries.{Entry}
use Rattle.certifier.specs.declared.Accepted.{Accepted}
use Rattle.certifier.specs.declared.LogRefusal.{LogRefusal}
use Rattle.certifier.specs.Logs.{reply_of}
use Rattle.runs.specs.Outcomes.{replies_of, entry_for, track_for, filed_in, Plays}

module _ {E : Type 0} (rules : Rules) (start : LogState E) (calls : List (Call E)) where
  -- the replies xs and the entries es so far, and those of the calls from the i-th on at the state s, are those of all the calls
  abbrev pub Amid : LogState E → ℕ → List (Reply E) → List Entry → Type 0
  Amid s i xs es =
      (xs ++ answers_of rules s (drop i calls) ≡ answers_of rules start calls)
      × (after rules s (drop i calls) ≡ after rules start calls)
      × (es ++ filed_in rules s (drop i calls) ≡ filed_in rules start calls)

  pub turn : (s s' : LogState E) (i : ℕ) (d : Call E) (a : Result (Accepted E) LogRefusal) (t : Track) (before more : List (Result (Accepted E) LogRefusal)) (es fs : List Entry)
      → i < length calls → d ≡ get_or calls i d → (reply_of a, s') ≡ step rules s d → t ≡ track_for s d
      → more ≡ before ++ (a ∷ []) → fs ≡ es ++ entry_for d (reply_of a) t → Amid s i (replies_of before) es → Amid s' (i + 1) (replies_of more) fs
  turn s s' i d a t before more es fs lt at e told pushed kept h = grind (arith, common_steps)

  pub ended : (s : LogState E) (i : ℕ) (xs : List (Reply E)) (es : List Entry) → length calls ≤ i → Amid s i xs es → Plays rules start calls s xs es
  ended s i xs es le h = grind (arith, common_steps)
