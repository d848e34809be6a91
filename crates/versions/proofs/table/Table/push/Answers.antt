use Rattle.std.proofs.Common.{◌≡◌, ℕ, List, [], ◌∷◌, ◌++◌, Some, Option, vec_items, refl, ap, ◌∙◌, rules}
use Rattle.std.specs.Option.{option_to_list}
use Rattle.versions.proofs.Ways.{table_grown, table_kept}
use Rattle.versions.proofs.table.Table.push.Goals as goal

-- the place that was popped stood at the end
popped : (free rest : List ℕ) (o : Option ℕ) (i : ℕ) → free ≡ rest ++ option_to_list o → o ≡ Some i → free ≡ rest ++ i ∷ []
popped free rest o i q is = q ∙ ap (λ x. rest ++ option_to_list x) is

pub invariant_of-self : goal.invariant_of-self
invariant_of-self g c =
    let a = c.args.self.now in
    let f = a.fits in
    let top = popped (vec_items a.free) (vec_items c.pop.new.self) c.pop.result c.unwrap-place.result c.pop.ensures.items c.unwrap-place.ensures in
    let kept = table_kept a c.args.at c.requires.within c.index.result.now c.index.ensures c.unwrap-place.result (vec_items c.pop.new.self) top
    (record { number = c.count.result; stamp = c.args.stamp; entry = c.args.entry }) c.count.ensures in
    search rules

pub returns : goal.returns
returns g c =
    let a = c.args.self.now in
    let top = popped (vec_items a.free) (vec_items c.pop.new.self) c.pop.result c.unwrap-place.result c.pop.ensures.items c.unwrap-place.ensures in
    table_grown a c.args.at c.requires.within c.index.result.now c.index.ensures c.unwrap-place.result (vec_items c.pop.new.self) top
    (record { number = c.count.result; stamp = c.args.stamp; entry = c.args.entry }) c.count.ensures _ refl refl refl
