-- The refusals of day files: each has a number, and the layer of files.
use Rattle.store.specs.declared.Layer.TheVariants.{File}
use Rattle.store.specs.declared.Code.{Code}
use Rattle.store.specs.Refusals.{code}
use Rattle.dayfile.specs.declared.FileRefusal.{FileRefusal}
use Rattle.dayfile.specs.declared.FileRefusal.TheVariants.{Short, Mark, Pointer, Entry, Full}

-- bytes or a buffer too short for a trailer
abbrev pub too_short : Code
too_short = code 30 File

-- the trailer's mark is not there
abbrev pub no_mark : Code
no_mark = code 31 File

-- a number of the trailer is out of range
abbrev pub bad_pointer : Code
bad_pointer = code 32 File

-- a field of an entry is out of range, or the entries do not fill their length
abbrev pub bad_entry : Code
bad_entry = code 33 File

-- an entry and the trailer do not fit, or it is one entry too many
abbrev pub file_full : Code
file_full = code 34 File

-- which of them each case of the code stands for
abbrev pub code_of : FileRefusal → Code
code_of Short = too_short
code_of Mark = no_mark
code_of Pointer = bad_pointer
code_of Entry = bad_entry
code_of Full = file_full
