use Rattle.std.proofs.Common.{ℕ, ◌+◌, ◌*◌, ◌≤◌, List, map, length, vec_items, sym, refl, ap, ◌∙◌, subst, arith}
use Rattle.std.proofs.lemmas.List.{take_all}
use Rattle.certifier.specs.Entries.{entry_by}
use Rattle.dayfile.specs.Format.{Commit}
use Rattle.daywriter.specs.Writing.{Writer, Closed}
use Rattle.daywriter.specs.Files.{check_all}
use Rattle.daywriter.specs.Stands.{writer_of}
use Rattle.daywriter.proofs.Runs.{Holds, filling_start, started_to, holds_closed}
use Rattle.filing.specs.Days.{records_of, entries_of}
use Rattle.filing.specs.Filing.{commits_of}
use Rattle.filing.proofs.Writes.{day_taken, commits_long, turn_more}
use Rattle.filing.proofs.write.fill_day.Goals as goal

pub loop-kept-init : goal.loop-kept-init
loop-kept-init c =
    let day = c.args.day.now in
    let r = day.records in
    let es = commits_of (entries_of day) in
    let xs = c.deref-kept-items.result.now in
    let state = c.open-file.ensures.state in
    let w = writer_of c.open-file.result in
    let same = ap (λ (x : Writer). x.bytes) state in
    let room : 165 * length es + 10 ≤ length w.bytes = omega (arith, commits_long entry_by (vec_items day.entries), day.entries.ok.0, ap length same, c.requires) in
    let short : length es ≤ 4000 = omega (arith, commits_long entry_by (vec_items day.entries), day.entries.ok.0, day.short) in
    let all = day_taken (length w.bytes) r es day.some day.few short day.fits room in
    let began = ap (λ (x : Writer). x.extent) state ∙ started_to _ r _ (sym c.in-Ok.ensures) in
    (refl, filling_start w r (commits_of (map entry_by xs)) all.0 began (ap (λ (l : List _). check_all (length w.bytes) r (commits_of (map entry_by l))) c.deref-kept-items.ensures.value ∙ all.1))

pub loop-kept-preserved : goal.loop-kept-preserved
loop-kept-preserved c = (
  c.add_entry.ensures.lent ∙ c.loop-kept.invariant.0,
  turn_more entry_by c.deref-kept-items.result.now c.open-file.result.buf.now (records_of c.args.day.now) c.loop-kept.kept-index c.kept-item.result c.loop-kept-test.true
      (writer_of c.loop-kept.file) c.kept-item.result c.kept-item.is c.loop-kept.invariant.1 (writer_of c.add_entry.new.file) c.add_entry.ensures.does,
)

pub returns : goal.returns
returns c =
    let day = c.args.day.now in
    let r = day.records in
    let es = commits_of (entries_of day) in
    let xs = c.deref-kept-items.result.now in
    let w = writer_of c.loop-kept.file in
    let P : List Commit → Type 0 = λ l. Holds c.open-file.result.buf.now r l w in
    let Q : List ℕ → Type 0 = λ b. Holds b r es w in
    let ended = ap (λ (l : List _). commits_of (map entry_by l)) (take_all c.loop-kept.kept-index xs (omega arith) ∙ c.deref-kept-items.ensures.value) in
    let holds : Holds c.args.buf.now r es w = subst Q (ap (λ (x : Writer). x.bytes) c.open-file.ensures.state) (subst P ended c.loop-kept.invariant.1.holds) in
    let closed = c.close.ensures.does ∙ holds_closed c.args.buf.now r es w holds in
    record {
      bytes = c.bytes.ensures.bytes.0 ∙ ap (λ (x : Closed). x.bytes) closed;
      len = c.bytes.ensures.bytes.1 ∙ ap (λ (x : Closed). x.len) closed;
      lent = c.bytes.ensures.lent ∙ (c.close.ensures.lent ∙ (c.loop-kept.invariant.0 ∙ c.open-file.ensures.lent));
    }
