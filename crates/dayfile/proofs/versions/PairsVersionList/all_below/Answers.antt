use Rattle.std.proofs.Common.{ltb, refl, rules}
use Rattle.std.proofs.lemmas.Iterator.Consumers.{YieldsList-from_first}
use Rattle.std.proofs.lemmas.Iterator.Search.{all_from_yields_List}
use borrow.Author.Tests.{tests}
use Rattle.dayfile.specs.Said.{numbers_of}
use Rattle.dayfile.proofs.versions.PairsVersionList.all_below.Goals as goal

pub returns : goal.returns
returns c = all_from_yields_List (λ n. ltb n c.args.bound) c.all.new.self _ c.all.result c.all.ensures.ran (YieldsList-from_first (λ x. x) numbers_of (numbers_of c.args.self) refl) (λ x b q k. search (rules, tests))
