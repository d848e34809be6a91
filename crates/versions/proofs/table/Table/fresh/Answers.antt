use Rattle.std.proofs.Common.{◌-◌, ◌++◌, length, vec_items, rules, refl, ap, ◌∙◌, arith}
use Rattle.std.specs.List.{range_with_len}
use Rattle.std.proofs.lemmas.List.FromFn.{length-range_with_len, length-map-range_with_len}
use Rattle.std.proofs.lemmas.Iterator.{YieldsList-from_range, YieldsList-from_map, items_from_collect}
use Rattle.std.proofs.lemmas.Iterator.Adapters.{items_from_extend}
use Rattle.store.specs.Meaning.{versions_in}
use Rattle.store.proofs.Lists.{firsts_many}
use Rattle.versions.specs.Places.{chains_from}
use Rattle.versions.proofs.Starts.{first_place, first_places, first_chains, first_kept}
use Rattle.versions.proofs.table.Table.fresh.Goals as goal

pub invariant_of-result : goal.invariant_of-result
invariant_of-result g c =
    let e = c.args.first in
    let n = c.args.size.records in
    let m = c.args.size.places in
    let p = items_from_collect c.collect.result c.collect.ensures.ran (YieldsList-from_map _ (first_place e n) (YieldsList-from_range 0 m m c.map.ensures.source (omega arith)) c.map.ensures.closure (λ x r q k. search rules)) in
    let a = items_from_collect c.collect-2.result c.collect-2.ensures.ran (YieldsList-from_range 0 n n refl (omega arith)) in
    let f = items_from_extend c.extend.result c.extend.ensures.ran (YieldsList-from_range n m (m - n) refl refl) in
    let places = rw c.in_ok-places.was at p in
    let newest = rw c.in_ok-newest.was at a in
    let free = rw c.in_ok-extend.was at f in
    let none = c.in_ok-free.ensures in
    let kept = first_kept e n m (omega arith) (vec_items c.in_ok-places.places) (vec_items c.in_ok-newest.newest) (vec_items c.extend.new.self) places newest (free.0 ∙ ap (λ xs. xs ++ range_with_len n (m - n)) none.items) in
    let long = ap length places ∙ length-map-range_with_len (first_place e n) 0 m in
    let heads = ap length newest ∙ length-range_with_len 0 n in
    search rules

pub returns : goal.returns
returns g c =
    let e = c.args.first in
    let n = c.args.size.records in
    let m = c.args.size.places in
    let p = items_from_collect c.collect.result c.collect.ensures.ran (YieldsList-from_map _ (first_place e n) (YieldsList-from_range 0 m m c.map.ensures.source (omega arith)) c.map.ensures.closure (λ x r q k. search rules)) in
    let a = items_from_collect c.collect-2.result c.collect-2.ensures.ran (YieldsList-from_range 0 n n refl (omega arith)) in
    let places = rw c.in_ok-places.was at p in
    let newest = rw c.in_ok-newest.was at a in
    let chains = ap (λ ps. chains_from e ps (vec_items c.in_ok-newest.newest)) places ∙ ap (chains_from e (first_places e n m)) newest ∙ first_chains e n m (omega arith) in
    (chains, ap length places ∙ length-map-range_with_len (first_place e n) 0 m, refl, ap versions_in chains ∙ firsts_many e 0 n)
