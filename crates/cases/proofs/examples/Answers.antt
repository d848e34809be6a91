-- Each example by computation.
use Rattle.std.proofs.Common.{refl}
use Rattle.std.specs.Fmt.{digits}
use Rattle.cases.specs.Examples.{WriteSkew, FalseAlarm, GrantedOnSnapshot, EqualMarks, BackEdge, EmptyTransaction, StaleOnSnapshot, WrittenOnNewest, HeldUntilDropped, OwnEntry, RoomOfTwo, DayFile, TooSmall}
use Rattle.cases.proofs.examples.Goals as goal

skew : WriteSkew
unfolding digits
skew = refl

alarm : FalseAlarm
unfolding digits
alarm = refl

snapshot : GrantedOnSnapshot
unfolding digits
snapshot = refl

equal : EqualMarks
unfolding digits
equal = (refl, refl)

back : BackEdge
unfolding digits
back = refl

empty : EmptyTransaction
unfolding digits
empty = refl

stale : StaleOnSnapshot
unfolding digits
stale = refl

newest : WrittenOnNewest
unfolding digits
newest = refl

held : HeldUntilDropped
unfolding digits
held = refl

own : OwnEntry
unfolding digits
own = refl

room : RoomOfTwo
unfolding digits
room = refl

file : DayFile
unfolding digits
file = refl

small : TooSmall
small = refl

pub returns-clause-stand : goal.returns-clause-stand
returns-clause-stand c = record { skew = skew; alarm = alarm; snapshot = snapshot; equal = equal; back = back; empty = empty; stale = stale; newest = newest; held = held; own = own; room = room; file = file; small = small }
