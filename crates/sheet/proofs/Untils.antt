-- The lines before an accepted open, and those from it on.
use Rattle.std.proofs.Common.{◌≡◌, ◌+◌, ◌≤◌, not, List, [], length, take, drop, get_or, Err, sym, ap, ◌∙◌, arith, length-take, length-drop}
use Rattle.std.specs.List.{position_or_len}
use Rattle.std.proofs.lemmas.List.{take_all, get_or-drop, get_or-take}
use Rattle.std.proofs.lemmas.List.Sums.{prefix_len-le-length, position_or_len_is, fails_before_first, passes_at_first}
use Rattle.sheet.specs.Answers.{Item}
use Rattle.sheet.specs.Faults.{no_log}
use Rattle.sheet.specs.Stretches.{opens, until_open, from_open}

pub place_within : (is : List Item) → position_or_len opens is ≤ length is
place_within is = prefix_len-le-length (λ i. not (opens i)) is

-- of lines none of which opens a log, all stand before the first that does
pub all_before : (is : List Item) → until_open is ≡ is → position_or_len opens is ≡ length is
all_before is q = omega (arith, place_within is, length-take (position_or_len opens is) is, ap length q)

-- none of the lines before an accepted open is one
pub calm : (front is : List Item) → front ≡ until_open is → until_open front ≡ front
calm front is f =
    let n = position_or_len opens is in
    let within = place_within is in
    let len = length-take n is in
    let same : position_or_len opens (take n is) ≡ n =
    position_or_len_is opens (take n is) n (Err no_log) (omega arith) (λ k l. ap opens (get_or-take n is k (Err no_log) l) ∙ fails_before_first opens is k (Err no_log) l) (λ l. absurd (omega arith)) in
    ap until_open f ∙ ap (λ k. take k (take n is)) same ∙ take_all n (take n is) (omega arith) ∙ sym f

-- no line stands before an accepted open that is the first
pub until_none : (is : List Item) → until_open (from_open is) ≡ []
until_none is =
    let n = position_or_len opens is in
    let len = length-drop n is in
    let place : n + 0 ≡ n = omega arith in
    let at : get_or (drop n is) 0 (Err no_log) ≡ get_or is n (Err no_log) = get_or-drop n is 0 (Err no_log) ∙ ap (λ k. get_or is k (Err no_log)) place in
    let first : position_or_len opens (drop n is) ≡ 0 =
    position_or_len_is opens (drop n is) 0 (Err no_log) (omega arith) (λ k l. absurd (omega arith)) (λ l. ap opens at ∙ passes_at_first opens is (Err no_log) (omega arith)) in
    ap (λ k. take k (drop n is)) first
