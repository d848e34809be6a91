use Rattle.std.proofs.Common.{◌++◌, string_bytes, ap, ◌∙◌}
use Rattle.dayfile.specs.Said.{said, numbers_of}
use Rattle.filing.specs.Showing.{numbers_text}
use Rattle.filing.proofs.Shows.{entry_line}
use Rattle.filing.proofs.show.print_entry.Goals as goal

pub returns : goal.returns
returns c =
    let e = said c.args.entry.now in
    let noted = c.in_ok-print_each.ensures in
    let overwrote = c.in_ok-print_each-2.ensures in
    let reads = (c.noted.ensures.runs noted.0 noted.0.seen).4 noted.2 ∙ ap numbers_of noted.1 ∙ c.noted.ensures.numbers in
    let writes = (c.overwritten.ensures.runs overwrote.0 overwrote.0.seen).4 overwrote.2 ∙ ap numbers_of overwrote.1 ∙ c.overwritten.ensures.numbers in
    entry_line c.args.place e (string_bytes c.args.text.now) _ _ _ _ _ c.in_ok-write.ensures.bytes (noted.3 ∙ ap (λ l. string_bytes c.write.new.self ++ numbers_text l) reads)
    c.in_ok-push_str.ensures.bytes (overwrote.3 ∙ ap (λ l. string_bytes c.push_str.new.self ++ numbers_text l) writes) c.in_ok-push_str-2.ensures.bytes
