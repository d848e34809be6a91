use Rattle.std.proofs.Common.{◌≡◌, ℕ, ◌+◌, ◌*◌, cond, Some, None, length, get_or, take, drop, refl, ap, ◌∙◌, arith, ltb-false, List, Bor}
use Rattle.std.specs.Option.{option_map}
use Rattle.std.proofs.lemmas.List.{take_rest}
use Rattle.dayfile.specs.declared.Entry.{Entry}
use Rattle.dayfile.specs.Format.{Commit, fits}
use Rattle.dayfile.specs.Said.{said}
use Rattle.dayfile.proofs.Bytes.{Cut, cut_is, some_when}
use Rattle.dayfile.proofs.file.Entries.front.Goals as goal

pub returns : goal.returns
returns c =
    let w = c.args.self.now in
    let xs = w.rest.now in
    let rest = take_rest xs 5 in
    let part = c.in_ok-versions.ensures.cases in
    let nr = c.from-noted.ensures in
    let nw = c.from.ensures in
    let e : Entry = record { console = get_or xs 0 0; low = c.from_be_bytes.result; reads = c.split_at.result.0; writes = c.split_at.result.1 } in
    let cut : Cut xs e c.in_ok-versions.versions.now c.in_ok-versions.after.now = record {
      long = omega (arith, ltb-false);
      room = omega (arith, nr, nw, ap length rest, part.0);
      console = refl;
      low = c.from_be_bytes.ensures;
      cut = part.1 ∙ (λ i. take (2 * nr i + 2 * nw i) (rest i));
      left = part.2 ∙ (λ i. drop (2 * nr i + 2 * nw i) (rest i));
      reads = c.split_at.ensures.front ∙ ap (λ k. take (2 * k) c.in_ok-versions.versions.now) nr;
      writes = c.split_at.ensures.back ∙ ap (λ k. drop (2 * k) c.in_ok-versions.versions.now) nr;
    } in
    let same : c.fits-fits.result ≡ fits w.spot.place w.spot.bound (said e) =
    c.fits-fits.ensures ∙ (λ i. fits w.spot.place w.spot.bound (record { console = c.from-2.ensures i; low = c.from-3.ensures i; reads = c.noted.ensures.numbers i; writes = c.overwritten.ensures.numbers i })) in
    ap (option_map {T = Entry × Bor (List ℕ)} {U = Commit × List ℕ} (λ p. (said p.0, p.1.now))) (c.then_some.ensures) ∙ some_when c.fits-fits.result e c.in_ok-versions.after
    ∙ ap (λ t. cond t (Some (said e, c.in_ok-versions.after.now)) None) same ∙ cut_is w.spot.place w.spot.bound xs e _ _ cut
