use Rattle.std.proofs.Common.{ℕ, map, Some, Ok, vec_items, Option, sym, ap, ◌∙◌}
use Rattle.std.proofs.lemmas.List.{map_push}
use Rattle.sheet.specs.declared.response.Success.TheVariants.{Done}
use Rattle.certifier.specs.Logs.{log_state}
use Rattle.filing.specs.Days.{entries_of}
use Rattle.runs.specs.Outcomes.{replies_of}
use Rattle.sheet.specs.Faults.{told}
use Rattle.sheet.specs.Stretches.{Final}
use Rattle.sheet.proofs.Stretching.{stretch_responses, stretch_final}
use Rattle.sheet.proofs.play.play_stretch.Goals as goal

pub returns-in-Ok : goal.returns-in-Ok
returns-in-Ok g c =
    let stretch = c.args.stretch.now in
    let played = c.in-Ok.field-0 in
    let is = map told stretch.lines.now in
    let records = c.from-records.result in
    let places = c.from-places.result in
    let calls = c.as_slice.result.now in
    let asked = c.as_slice.ensures.value ∙ c.in_ok-calls.ensures in
    let had = vec_items c.args.responses.now in
    let run = c.in-Ok.ensures.0 in
    let rules = g.S.Store.rules in
    let stamps = vec_items c.in_ok-stamps-in-Ok.stamps in
    let entries = entries_of played.day in
    let F : ℕ → Option Final = λ n. Some (record { size = n; stamps = stamps; entries = entries }) in
    let responses =
    stretch_responses rules records places is stretch.one_log calls asked (map told had) (map told (vec_items c.push.new.self)) _ (replies_of c.as_slice-in-Ok.result.now)
    (ap replies_of c.as_slice-in-Ok.ensures.value ∙ run.2) (ap (map told) c.in_ok-push-in-Ok.ensures.items ∙ map_push told had (Ok Done)) c.in_ok-add_responses-in-Ok.ensures in
    let final =
    ap F c.in-Ok.ensures.1
    ∙ stretch_final rules records places is stretch.one_log calls asked (log_state g.S.Store.state played.log) (replies_of (vec_items played.answers)) stamps entries run.1 run.2 c.in_ok-stamps-in-Ok.ensures run.4 in
    rw (sym c.from-records.ensures, sym c.from-places.ensures) (responses, final)
