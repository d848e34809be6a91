use Rattle.std.proofs.Common.{◌≡◌, ℕ, ◌<◌, List, length, get_or, ap, arith}
use Rattle.std.proofs.lemmas.List.{length-map, get_or-map}
use Rattle.store.specs.declared.Pending.{Pending}
use Rattle.versions.specs.Session.{Within}
use Rattle.versions.specs.Tables.{chains_of}
use Rattle.versions.proofs.table.Table.append.Goals as goal

item_within : {E : Type 0} (n : ℕ) (ps : List (Pending E)) (i : ℕ) (p : Pending E) → Within n ps → i < length ps → p ≡ get_or ps i p → p.at < n
item_within {E} n ps i p within l is =
    let long = length-map ps (λ (q : Pending E). q.at) in
    let at = get_or-map (λ (q : Pending E). q.at) ps i p 0 l in
    let same = ap (λ q. q.at) is in
    let low = within i 0 (omega arith) in
    omega arith

pub push-requires-clause-within : goal.push-requires-clause-within
push-requires-clause-within g c =
    let low = item_within (length (chains_of c.args.self.now)) c.args.pending.now c.loop-p.p-index c.p-item.result c.requires.within c.loop-p-test.true c.p-item.is in
    omega (arith, c.loop-p.invariant.0.size)
