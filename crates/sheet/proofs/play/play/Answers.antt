use Rattle.std.proofs.Common.{[], ◌∷◌, ◌++◌, map, length, Some, None, Ok, vec_items, sym, refl, ap, ◌∙◌, arith, length-drop}
use lib.ListN.{length-map}
use Rattle.std.specs.List.{position_or_len}
use Rattle.sheet.specs.declared.response.Success.TheVariants.{Done}
use Rattle.sheet.specs.Answers.{rules_of, responses_of, log_after}
use Rattle.sheet.specs.Endings.{fresh_of}
use Rattle.sheet.specs.Faults.{told}
use Rattle.sheet.specs.Stretches.{opens, until_open, beside}
use Rattle.filing.proofs.Appends.{append_more}
use Rattle.sheet.proofs.Untils.{until_none}
use Rattle.sheet.proofs.Stretching.{before_responses, before_log, turn_responses, turn_log}
use Rattle.sheet.proofs.play.play.Goals as goal

pub loop-stretch-init : goal.loop-stretch-init
loop-stretch-init c =
    let is = map told c.args.items.now in
    let front = map told c.split_at_open.result.0.now in
    let back = map told c.split_at_open.result.1.now in
    let f = c.split_at_open.ensures.front in
    let b = c.split_at_open.ensures.back in (
      ap until_open b ∙ until_none is,
      (
        None,
        refl,
        ap (λ l. l ++ responses_of None back) (c.in_ok-add_responses.ensures ∙ ap (λ l. map told l ++ beside front []) c.new-responses.ensures.items) ∙ sym (before_responses is front back f b),
        sym (before_log is front back f b),
      ),
    )

pub loop-stretch-smaller : goal.loop-stretch-smaller
loop-stretch-smaller c =
    let more = c.in-Some.ensures.0 in
    let next = c.in-Some.stretch.behind.now in
    let rest = c.loop-stretch.rest.now in
    omega (arith, length-map next told, length-map rest told, length-drop (position_or_len opens more) more, ap length c.in-Some.ensures.3, ap length c.in-Some.ensures.1.0)

pub loop-stretch-preserved : goal.loop-stretch-preserved
loop-stretch-preserved c =
    let stretch = c.in-Some.stretch in
    let more = c.in-Some.ensures.0 in
    let o = c.in-Some.ensures.1 in
    let f = c.in-Some.ensures.2 in
    let b = c.in-Some.ensures.3 in
    let front = map told stretch.lines.now in
    let back = map told stretch.behind.now in
    let rest = map told c.loop-stretch.rest.now in
    let r = stretch.size.records in
    let l = stretch.size.places in
    let k = stretch.kind in
    let s = c.loop-stretch.invariant.1.0 in
    let new = log_after (Some (fresh_of (rules_of k) stretch)) front in
    let played = c.in_ok-play_kind.ensures in (
      ap until_open b ∙ until_none more,
      (
        new,
        played.1,
        append_more (map told (vec_items c.loop-stretch.responses)) (map told (vec_items c.play_kind.new.responses)) (Ok Done ∷ responses_of (Some (fresh_of (rules_of k) stretch)) front) (responses_of s rest) (responses_of new back) _
            played.0 (turn_responses more front back f b s rest r l k o) c.loop-stretch.invariant.1.2,
        sym (turn_log more front back f b s rest r l k o) ∙ c.loop-stretch.invariant.1.3,
      ),
    )
