use Rattle.std.proofs.Common.{◌≡◌, ◌++◌, codes, decimal, string_bytes, sym, ap, ◌∙◌}
use Rattle.std.proofs.iter.runs.Made.{run_of_exit}
use Rattle.filing.specs.Showing.{numbers_text}
use Rattle.filing.proofs.Appends.{append_number}
use Rattle.filing.proofs.numbers.print_each.Goals as goal

pub loop-number-preserved : goal.loop-number-preserved
loop-number-preserved g c =
    let was = string_bytes c.args.text.now in
    let before = string_bytes c.loop-number.text in
    let after = string_bytes c.write.new.self in
    let n = c.in-Some.number in
    let so_far = c.loop-number.yielded in
    let wrote : after ≡ before ++ (codes " " ++ decimal n) = c.in_ok-write.ensures.bytes in
    append_number was before after so_far n c.loop-number.invariant wrote

pub returns : goal.returns
returns g c =
    let run = run_of_exit _ _ c.loop-number.yielded _ c.loop-number.yielded_by c.next.new.self c.in-None.ensures.steps in
    (run.0, run.1 ∙ c.into_iter-number-iterator.ensures.into_iter_gives, run.2, c.loop-number.invariant ∙ ap (λ l. string_bytes c.args.text.now ++ numbers_text l) (sym run.3.0))
