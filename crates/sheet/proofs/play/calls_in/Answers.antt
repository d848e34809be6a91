use Rattle.std.proofs.Common.{rules}
use Rattle.std.proofs.lemmas.Iterator.{YieldsList-from_slice, items_from_collect}
use Rattle.std.proofs.lemmas.Iterator.Consumers.{YieldsList-from_filter_map, YieldsList-at}
use Rattle.sheet.specs.Faults.{told}
use Rattle.sheet.specs.Stretches.{call_in}
use Rattle.sheet.proofs.Stretching.{calls_found}
use Rattle.sheet.proofs.play.calls_in.Goals as goal

pub returns : goal.returns
returns c =
    rw (calls_found told c.args.items.now)
    (items_from_collect c.collect.result c.collect.ensures.ran
    (YieldsList-from_filter_map _ (λ x. call_in (told x)) (YieldsList-at c.filter_map.ensures.source (YieldsList-from_slice c.args.items.now c.iter.ensures.rest)) c.filter_map.ensures.closure (λ x r q k. search rules)))
