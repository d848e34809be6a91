use Rattle.std.proofs.Common.{◌≡◌, ◌-◌, take, replicate, ap, ◌∙◌, arith}
use Rattle.std.proofs.lemmas.Result.{IfOk-weaker}
use Rattle.certifier.specs.Logs.{log_state}
use Rattle.sheet.specs.Printing.{stamps_by_rank}
use Rattle.sheet.proofs.Ranked.{order_stamps}
use Rattle.sheet.proofs.play.stamps_of.Goals as goal

pub returns : goal.returns
returns g c =
    let log = c.args.log.now in
    let list = c.order.new.list in
    let n = c.from.result in
    let end : n - 0 ≡ c.in-Ok.count = omega (arith, c.from.ensures) in
    let stamps : take (n - 0) list ≡ stamps_by_rank (log_state g.S.Store.state log) =
    ap (λ k. take k list) end ∙ order_stamps (log_state g.S.Store.state log) (replicate 4000 0) list c.in-Ok.count c.in-Ok.ensures log.ranks.day log.ranks.counted in
    IfOk-weaker c.from_slice.result _ _ (λ _ e. e ∙ stamps) c.from_slice.ensures.items
