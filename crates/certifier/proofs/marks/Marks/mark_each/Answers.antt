use Rattle.std.proofs.Common.{◌≡◌, ℕ, List, map, Some, ap, ◌∙◌, rules}
use Rattle.std.specs.List.{fold}
use Rattle.std.proofs.lemmas.List.Folds.{fold-map}
use Rattle.std.proofs.lemmas.Iterator.{YieldsList-from_slice, YieldsList-from_map}
use Rattle.std.proofs.lemmas.Iterator.Consumers.{YieldsList-at, YieldsList-from_copied}
use Rattle.certifier.specs.declared.Mark.{Mark}
use Rattle.certifier.specs.declared.Over.{Over}
use Rattle.certifier.specs.Entries.{track_of}
use Rattle.certifier.specs.Marking.{changed, raised, lowered}
use Rattle.certifier.proofs.Folds.{drained}
use Rattle.certifier.proofs.marks.Marks.mark_each.Goals as goal

abbrev highs : ℕ → Mark → Mark
highs c m = record { stamp = m.stamp; high = c; low = m.low }

abbrev lows : ℕ → Mark → Mark
lows l m = record { stamp = m.stamp; high = m.high; low = Some l }

both : (c l : ℕ) (ns xs ys : List ℕ) (ws : List Over) (ms ms' end : List Mark) → xs ≡ ns → ys ≡ map (λ w. w.version) ws
    → ms' ≡ fold (changed (highs c)) ms xs → end ≡ fold (changed (lows l)) ms' ys → end ≡ lowered (raised ms c ns) l ws
both c l ns xs ys ws ms ms' end a b d e =
    e ∙ (ap (fold (changed (lows l)) ms') b ∙ (fold-map (changed (lows l)) (λ w. w.version) ms' ws ∙ ap (λ (rows : List Mark). lowered rows l ws) (d ∙ ap (fold (changed (highs c)) ms) a)))

pub returns-clause-rows : goal.returns-clause-rows
returns-clause-rows c =
    let noted = drained c.change_each.ensures.rows.0 c.change_each.ensures.rows.1 (YieldsList-from_copied (YieldsList-at c.copied.ensures.source (YieldsList-from_slice _ c.iter.ensures.rest))) in
    let over = drained c.change_each-2.ensures.rows.0 c.change_each-2.ensures.rows.1
    (YieldsList-from_map _ (λ w. w.version) (YieldsList-at c.map.ensures.source (YieldsList-from_slice _ c.iter-2.ensures.rest)) c.map.ensures.closure (λ x r q k. search rules)) in
    let high = c.change_each.ensures.rows.2 (highs c.args.grant.stamp) (λ m m' k. search rules) in
    let low = c.change_each-2.ensures.rows.2 (lows c.args.grant.low) (λ m m' k. search rules) in
    let t = track_of c.args.track.now in
    both c.args.grant.stamp c.args.grant.low t.noted c.change_each.ensures.rows.0 c.change_each-2.ensures.rows.0 t.writes c.args.self.now.rows.items c.change_each.new.self.rows.items c.change_each-2.new.self.rows.items
    (noted ∙ search rules) (over ∙ search rules) high low
