use Rattle.std.proofs.Common.{sym, ap, ◌∙◌, subst}
use Rattle.dayfile.specs.Said.{said, shape_of, walk_of}
use Rattle.daywriter.specs.Writing.{Extent, Closed, started}
use Rattle.daywriter.specs.Stands.{writer}
use Rattle.daywriter.proofs.Runs.{Copied, copied_start, copied_takes, copied_more, copied_end}
use Rattle.daywriter.proofs.whole.rewrite.Goals as goal

pub loop-e-init : goal.loop-e-init
loop-e-init c =
    let s = shape_of c.args.file.now in
    let b = c.args.buf.now in
    let walk = ap walk_of c.into_iter-e-iterator.ensures.into_iter_gives ∙ c.entries-e-items.ensures in
    let extent = c.fresh-progress.ensures ∙ ap started c.from.ensures in
    subst (λ (x : Extent). Copied b s (record { extent = x; bytes = b }) (walk_of c.into_iter-e-iterator.result)) (sym extent)
    (subst (Copied b s (record { extent = started s.records; bytes = b })) (sym walk) (copied_start b s c.requires.whole c.requires.room))

pub put_read-requires : goal.put_read-requires
put_read-requires c =
    copied_takes c.args.buf.now (shape_of c.args.file.now) (writer c.loop-e.progress c.loop-e.buf) (walk_of c.loop-e.e-iterator) (walk_of c.next.new.self) (said c.in-Some.e)
    c.requires.whole c.requires.room c.loop-e.invariant c.in-Some.ensures.steps

pub loop-e-preserved : goal.loop-e-preserved
loop-e-preserved c =
    let s = shape_of c.args.file.now in
    let b = c.args.buf.now in
    let next = walk_of c.next.new.self in
    subst (λ w. Copied b s w next) (sym c.put_read.ensures)
    (copied_more b s (writer c.loop-e.progress c.loop-e.buf) (walk_of c.loop-e.e-iterator) next (said c.in-Some.e) c.requires.whole c.requires.room c.loop-e.invariant c.in-Some.ensures.steps)

pub returns : goal.returns
returns c =
    let closed = c.close.ensures ∙ copied_end c.args.buf.now (shape_of c.args.file.now) (writer c.loop-e.progress c.loop-e.buf) (walk_of c.loop-e.e-iterator) (walk_of c.next.new.self)
    c.requires.whole c.loop-e.invariant c.in-None.ensures.steps in
    record { bytes = ap (λ (x : Closed). x.bytes) closed; len = ap (λ (x : Closed). x.len) closed }
