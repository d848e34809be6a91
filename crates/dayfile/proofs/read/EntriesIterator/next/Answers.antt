use Rattle.std.proofs.Common.{arith}
use Rattle.dayfile.specs.Said.{walk_of}
use Rattle.dayfile.proofs.Walks.{few_writes, step_read}
use Rattle.dayfile.proofs.read.EntriesIterator.next.Goals as goal

pub invariant_of-self : goal.invariant_of-self
invariant_of-self c = let w = c.args.self.now in let few = few_writes w.spot.place w.spot.bound w.rest.now c.in_ok-entry.entry c.in_ok-entry.after.now c.in_ok-entry.ensures in record { placed = omega arith; bounded = omega arith }

pub returns-clause-steps : goal.returns-clause-steps
returns-clause-steps c = step_read (walk_of c.args.self.now) c.in_ok-entry.entry c.in_ok-entry.after.now (omega arith) c.in_ok-entry.ensures
