use Rattle.dayfile.specs.Said.{shape_of}
use Rattle.daywriter.proofs.Runs.{written_again}
use Rattle.daywriter.proofs.whole.copy_file.Goals as goal

pub returns-clause-again : goal.returns-clause-again
returns-clause-again c =
    written_again c.args.input.now c.args.buf.now c.rewrite.new.buf c.rewrite.result (shape_of c.in_ok-file.file) c.in_ok-file.ensures.whole c.in_ok-file.ensures.answer c.rewrite.ensures.bytes c.rewrite.ensures.len
