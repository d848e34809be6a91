use Rattle.std.proofs.Common.{[], ◌∷◌, length, get_or, ap, ◌∙◌, arith}
use Rattle.daywriter.specs.Writing.{over}
use Rattle.daywriter.specs.Stands.{wrote}
use Rattle.daywriter.proofs.Overs.{length_entry, be_two, entry_over}
use Rattle.daywriter.proofs.put.put_entry.Goals as goal

pub put_list-requires-clause-room : goal.put_list-requires-clause-room
put_list-requires-clause-room c = omega (arith, length_entry (wrote c.args.e.now))

pub put_list-requires-2-clause-room : goal.put_list-requires-2-clause-room
put_list-requires-2-clause-room c = omega (arith, length_entry (wrote c.args.e.now))

pub returns : goal.returns
returns c =
    let e = c.args.e.now in
    let two = c.to_be_bytes.ensures ∙ be_two e.low c.requires.fits.low in
    let head = c.put.ensures ∙ ap (λ l. over c.args.buf.now c.args.at (e.console ∷ length e.reads.now ∷ length e.writes.now ∷ get_or l 0 0 ∷ get_or l 1 0 ∷ [])) two in
    entry_over c.args.buf.now c.args.at (wrote e) c.put.new.buf c.put_list.new.buf c.put_list-2.new.buf c.requires.room head c.put_list.ensures c.put_list-2.ensures
