use Rattle.std.proofs.Common.{◌≡◌, ◌-◌, true, is_some, ap, ◌∙◌, length, take, drop, sym, arith}
use Rattle.std.proofs.lemmas.Grind.{common_steps}
use Rattle.store.specs.Refusals.Answer.{gives}
use Rattle.dayfile.specs.Reading.{Shape, read_of, points, entries_in, body_of}
use Rattle.std.proofs.lemmas.List.{take_rest}
use Rattle.dayfile.proofs.Walks.{to_come}
use Rattle.dayfile.proofs.Again.{whole_from, read_pointed, filled_not}
use Rattle.dayfile.proofs.file.DayFile.read.Goals as goal

pub returns-clause-whole : goal.returns-clause-whole
returns-clause-whole c =
    let bs = c.args.input.now in
    let t = c.in_ok-trailer.trailer in
    let at = length c.in_ok-front.front.now - t.len in
    let s : Shape = record { offset = at; records = t.records; count = t.count; part = take (length bs - at) (drop at bs) } in
    let a : gives s ≡ read_of bs = grind (arith, common_steps) in
    whole_from bs s (λ i. let h = c.type_inv.input i in omega arith) (sym a)

pub returns-then-not-fill-clause-answer : goal.returns-then-not-fill-clause-answer
returns-then-not-fill-clause-answer c =
    let bs = c.args.input.now in
    let t = c.in_ok-trailer.trailer in
    let front = c.in_ok-front.front.now in
    let tail = c.in_ok-front.tail.now in
    let cut = rw c.in_ok-front.ensures.ok_part at c.split_last_chunk.ensures.cases in
    let says = rw c.in_ok-trailer.ensures.ok_part at c.read.ensures in
    let long : length front ≡ length bs - 10 = omega (arith, cut.2) in
    let ok : points t.records t.count t.len (length bs - 10) ≡ true = ap (points t.records t.count t.len) (sym long) ∙ sym c.well_pointed.ensures ∙ c.if-not-well_pointed.false in
    let part : take (length bs - (length front - t.len)) (drop (length front - t.len) bs) ≡ drop (length bs - 10 - t.len) bs = take_rest bs (length front - t.len) ∙ ap (λ k. drop (k - t.len) bs) long in
    let none = ap (λ p. is_some (entries_in t.count 1 t.records (body_of p))) (sym part) ∙ sym (ap (λ w. is_some (to_come w)) c.entries.ensures) ∙ sym c.fill.ensures ∙ c.if-not-fill.true in
    sym (read_pointed bs tail t.records t.count t.len (omega (arith, cut.2)) cut.1 says ok ∙ filled_not _ _ none)
