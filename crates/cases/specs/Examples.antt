-- Worked examples: sheets, and what each prints by the definitions. Each is named by what it shows.
use Rattle.std.specs.Prelude.{◌≡◌, ℕ, List, [], ◌∷◌, ◌++◌, map, replicate, Some, None, codes, Option}
use Prim.Native.String.{String}
use Rattle.std.specs.Option.{option_map}
use Rattle.store.specs.declared.Layer.TheVariants.{File}
use Rattle.store.specs.Refusals.{code}
use Rattle.store.specs.Refusals.Answer.{refuses}
use Rattle.certifier.specs.declared.Grant.{Grant}
use Rattle.certifier.specs.Meaning.{grant_at}
use Rattle.dayfile.specs.Format.{Commit}
use Rattle.daywriter.specs.Files.{write_of}
use Rattle.sheet.specs.Answers.{log_after}
use Rattle.sheet.specs.Cuts.{lines_of}
use Rattle.sheet.specs.Outputs.{output_of, file_of}
use Rattle.sheet.specs.Printing.{newline}
use Rattle.sheet.specs.Requests.{request_of}

-- lines, each with the byte that ends it
abbrev pub text : List String → List ℕ
text [] = []
text (l ∷ ls) = codes l ++ (newline ++ text ls)

-- the sheet of some lines prints others
abbrev pub Prints : List String → List String → Type 0
Prints sheet printed = output_of (text sheet) ≡ text printed

-- the marks that the transaction at console 0 would commit with after a sheet
abbrev pub marks_after : List String → Option Grant
marks_after sheet = option_map (λ log. grant_at log.state 0) (log_after None (map request_of (lines_of (text sheet))))

-- each of two transactions overwrites what the other read: the second is UNSAFE
abbrev pub skew : List String
skew = "open 2 8" ∷ "begin 0" ∷ "begin 1" ∷ "read 0 0" ∷ "read 0 1" ∷ "read 1 0" ∷ "read 1 1" ∷ "write 0 0 5" ∷ "write 1 1 7" ∷ "commit 0" ∷ "commit 1" ∷ []

abbrev pub WriteSkew : Type 0
WriteSkew =
    Prints skew
    ("1 ok" ∷ "2 ok 0" ∷ "3 ok 0" ∷ "4 v 0 0" ∷ "5 v 1 0" ∷ "6 v 0 0" ∷ "7 v 1 0" ∷ "8 ok 0" ∷ "9 ok 1" ∷ "10 ok 1 1 0" ∷ "11 no 11" ∷ "order 1" ∷ [])

-- console 0 reads record 0; another overwrites it and commits, then writes record 1 and commits; console 0 reads record 1
abbrev pub between : String → List String
between first = first ∷ "begin 0" ∷ "read 0 0" ∷ "begin 1" ∷ "write 1 0 5" ∷ "commit 1" ∷ "begin 1" ∷ "write 1 1 7" ∷ "commit 1" ∷ "read 0 1" ∷ "commit 0" ∷ []

-- on newest it is refused, though no cycle exists
abbrev pub FalseAlarm : Type 0
FalseAlarm =
    Prints (between "open 2 8 newest")
    ("1 ok" ∷ "2 ok 0" ∷ "3 v 0 0" ∷ "4 ok 0" ∷ "5 ok 0" ∷ "6 ok 1 1 0" ∷ "7 ok 1" ∷ "8 ok 1" ∷ "9 ok 2 2 0" ∷ "10 v 3 7" ∷ "11 no 11" ∷ "order 1 2" ∷ [])

-- on snapshot it is granted, and ranks before those that committed earlier
abbrev pub GrantedOnSnapshot : Type 0
GrantedOnSnapshot =
    Prints (between "open 2 8 snapshot")
    ("1 ok" ∷ "2 ok 0" ∷ "3 v 0 0" ∷ "4 ok 0" ∷ "5 ok 0" ∷ "6 ok 1 1 0" ∷ "7 ok 1" ∷ "8 ok 1" ∷ "9 ok 2 2 0" ∷ "10 v 1 0" ∷ "11 ok 3 1 0" ∷ "order 3 1 2" ∷ [])

-- a record changes between two reads: both marks are 1, and equal marks are refused
abbrev pub changed : List String
changed = "open 1 4 newest" ∷ "begin 0" ∷ "read 0 0" ∷ "begin 1" ∷ "write 1 0 5" ∷ "commit 1" ∷ "read 0 0" ∷ []

abbrev pub EqualMarks : Type 0
EqualMarks =
    (marks_after changed ≡ Some (record { stamp = 2; low = 1; high = 1 }))
    × Prints (changed ++ ("commit 0" ∷ [])) ("1 ok" ∷ "2 ok 0" ∷ "3 v 0 0" ∷ "4 ok 0" ∷ "5 ok 0" ∷ "6 ok 1 1 0" ∷ "7 v 1 5" ∷ "8 no 11" ∷ "order 1" ∷ [])

-- console 0 read what the second commit overwrote, and what the first made: granted, and ranked between the two
abbrev pub BackEdge : Type 0
BackEdge =
    Prints
    ("open 2 8 newest" ∷ "begin 0" ∷ "read 0 0" ∷ "begin 1" ∷ "write 1 1 5" ∷ "commit 1" ∷ "read 0 1" ∷ "begin 1" ∷ "write 1 0 7" ∷ "commit 1" ∷ "commit 0" ∷ [])
    ("1 ok" ∷ "2 ok 0" ∷ "3 v 0 0" ∷ "4 ok 0" ∷ "5 ok 1" ∷ "6 ok 1 1 0" ∷ "7 v 2 5" ∷ "8 ok 1" ∷ "9 ok 0" ∷ "10 ok 2 2 0" ∷ "11 ok 3 2 1" ∷ "order 1 3 2" ∷ [])

abbrev pub EmptyTransaction : Type 0
EmptyTransaction = Prints ("open 2 8" ∷ "begin 0" ∷ "commit 0" ∷ []) ("1 ok" ∷ "2 ok 0" ∷ "3 ok 1 1 0" ∷ "order 1" ∷ [])

-- a record that another wrote since console 0 began
abbrev pub late : String → List String
late first = first ∷ "begin 0" ∷ "begin 1" ∷ "write 1 0 5" ∷ "commit 1" ∷ "write 0 0 6" ∷ "commit 0" ∷ []

abbrev pub StaleOnSnapshot : Type 0
StaleOnSnapshot = Prints (late "open 1 4 snapshot") ("1 ok" ∷ "2 ok 0" ∷ "3 ok 0" ∷ "4 ok 0" ∷ "5 ok 1 1 0" ∷ "6 no 8" ∷ "7 ok 2 2 0" ∷ "order 1 2" ∷ [])

abbrev pub WrittenOnNewest : Type 0
WrittenOnNewest = Prints (late "open 1 4 newest") ("1 ok" ∷ "2 ok 0" ∷ "3 ok 0" ∷ "4 ok 0" ∷ "5 ok 1 1 0" ∷ "6 ok 1" ∷ "7 ok 2 2 1" ∷ "order 1 2" ∷ [])

-- a record is held until its holder drops
abbrev pub HeldUntilDropped : Type 0
HeldUntilDropped =
    Prints ("open 2 8" ∷ "begin 0" ∷ "begin 1" ∷ "write 0 0 5" ∷ "write 1 0 6" ∷ "drop 0" ∷ "write 1 0 6" ∷ [])
    ("1 ok" ∷ "2 ok 0" ∷ "3 ok 0" ∷ "4 ok 0" ∷ "5 no 7" ∷ "6 ok" ∷ "7 ok 0" ∷ "order" ∷ [])

abbrev pub OwnEntry : Type 0
OwnEntry = Prints ("open 2 8" ∷ "begin 0" ∷ "write 0 0 5" ∷ "read 0 0" ∷ []) ("1 ok" ∷ "2 ok 0" ∷ "3 ok 0" ∷ "4 own 5" ∷ "order" ∷ [])

-- one record in two places: a second write takes no place, and the next transaction finds none
abbrev pub RoomOfTwo : Type 0
RoomOfTwo =
    Prints ("open 1 2" ∷ "begin 0" ∷ "write 0 0 5" ∷ "write 0 0 6" ∷ "commit 0" ∷ "begin 0" ∷ "write 0 0 7" ∷ [])
    ("1 ok" ∷ "2 ok 0" ∷ "3 ok 0" ∷ "4 ok 0" ∷ "5 ok 1 1 0" ∷ "6 ok 1" ∷ "7 no 9" ∷ "order 1" ∷ [])

-- the day file of the write skew: console 0 noted versions 0 and 1 and overwrote version 0, with low mark 1
abbrev pub skew_day : List Commit
skew_day = record { console = 0; low = 1; reads = 0 ∷ 1 ∷ []; writes = 0 ∷ [] } ∷ []

abbrev pub DayFile : Type 0
DayFile = file_of (text skew) ≡ 0 ∷ 2 ∷ 1 ∷ 0 ∷ 1 ∷ 0 ∷ 0 ∷ 0 ∷ 1 ∷ 0 ∷ 0 ∷ 0x52 ∷ 0x54 ∷ 0 ∷ 2 ∷ 0 ∷ 1 ∷ 0 ∷ 0 ∷ 0 ∷ 0x0B ∷ []

-- it has 21 bytes, and a buffer of 20 is refused and stays as it is
abbrev pub TooSmall : Type 0
TooSmall = write_of (replicate 20 7) 2 skew_day ≡ (refuses (code 34 File), replicate 20 7)

-- all of them
pub record Examples : Type 0 where
  pub skew : WriteSkew
  pub alarm : FalseAlarm
  pub snapshot : GrantedOnSnapshot
  pub equal : EqualMarks
  pub back : BackEdge
  pub empty : EmptyTransaction
  pub stale : StaleOnSnapshot
  pub newest : WrittenOnNewest
  pub held : HeldUntilDropped
  pub own : OwnEntry
  pub room : RoomOfTwo
  pub file : DayFile
  pub small : TooSmall
