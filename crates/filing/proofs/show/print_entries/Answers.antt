use Rattle.std.proofs.Common.{◌+◌, string_bytes, ap, ◌∙◌}
use Rattle.dayfile.specs.Said.{said, shape_of, walk_of}
use Rattle.filing.proofs.Shows.{entries_none, entries_more, entries_all}
use Rattle.filing.proofs.show.print_entries.Goals as goal

pub loop-i-init : goal.loop-i-init
loop-i-init c =
    let same = c.into_iter-i-iterator.ensures.into_iter_gives in
    let walk = ap (λ x. walk_of x.iter) same ∙ ap walk_of c.enumerate-i-items.ensures.source ∙ c.entries.ensures in
    let none = ap (λ x. x.count + 1) same ∙ ap (λ n. n + 1) c.enumerate-i-items.ensures.count in
    entries_none (shape_of c.args.file.now) (walk_of c.into_iter-i-iterator.result.iter) (c.into_iter-i-iterator.result.count + 1) (string_bytes c.args.text.now) c.requires walk none

pub loop-i-preserved : goal.loop-i-preserved
loop-i-preserved c =
    let turn = c.in-Some.ensures.steps in
    entries_more (walk_of c.loop-i.i-iterator.iter) (walk_of c.next.new.self.iter) (said c.in-Some.entry) (c.in-Some.i + 1) (c.loop-i.i-iterator.count + 1) (c.next.new.self.count + 1)
    (string_bytes c.loop-i.text) _ _ (ap (λ n. n + 1) turn.1) (ap (λ n. n + 1) turn.2) turn.0 c.in_ok-print_entry.ensures c.loop-i.invariant

pub returns : goal.returns
returns c =
    entries_all (walk_of c.loop-i.i-iterator.iter) (walk_of c.next.new.self.iter) (c.loop-i.i-iterator.count + 1) (string_bytes c.loop-i.text) _ c.in-None.ensures.steps.0 c.loop-i.invariant
