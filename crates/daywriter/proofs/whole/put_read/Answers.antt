use Rattle.std.proofs.Common.{◌+◌, length, ap, ◌∙◌}
use Rattle.dayfile.specs.Said.{said}
use Rattle.dayfile.proofs.Walks.{fits_came}
use Rattle.daywriter.specs.Writing.{added}
use Rattle.daywriter.specs.Stands.{writer, extent_of}
use Rattle.daywriter.proofs.Overs.{commit_same}
use Rattle.daywriter.proofs.Runs.{taken_from, taking_same, unpacked}
use Rattle.daywriter.proofs.whole.put_read.Goals as goal

pub put-requires : goal.put-requires
put-requires c =
    let e = c.args.e.now in
    let x = extent_of c.args.progress.now in
    let room = length c.args.buf.now in
    let came = fits_came (x.count + 1) x.made (said e) (taken_from room x (said e) c.requires).fit in
    let reads = unpacked e.reads.now c.unpack-nr.new.out c.unpack-nr.result 64 c.unpack-nr.ensures.count came.reads c.unpack-nr.ensures.front in
    let writes = unpacked e.writes.now c.unpack-nw.new.out c.unpack-nw.result 16 c.unpack-nw.ensures.count came.writes c.unpack-nw.ensures.front in
    taking_same room x _ (said e) (commit_same _ (said e) c.from.ensures c.from-2.ensures reads writes) c.requires

pub returns : goal.returns
returns c =
    let e = c.args.e.now in
    let x = extent_of c.args.progress.now in
    let room = length c.args.buf.now in
    let came = fits_came (x.count + 1) x.made (said e) (taken_from room x (said e) c.requires).fit in
    let reads = unpacked e.reads.now c.unpack-nr.new.out c.unpack-nr.result 64 c.unpack-nr.ensures.count came.reads c.unpack-nr.ensures.front in
    let writes = unpacked e.writes.now c.unpack-nw.new.out c.unpack-nw.result 16 c.unpack-nw.ensures.count came.writes c.unpack-nw.ensures.front in
    c.put.ensures ∙ ap (added (writer c.args.progress.now c.args.buf.now)) (commit_same _ (said e) c.from.ensures c.from-2.ensures reads writes)
