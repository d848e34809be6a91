use Rattle.std.proofs.Common.{◌≡◌, ℕ, ◌<◌, false, eqb, List, length, get_or, vec_items, sym, ap, ◌∙◌, inl, inr, arith}
use Rattle.std.proofs.lemmas.Bool.{cases_Bool, eqb-true, both_ways, eq-eqb}
use Rattle.std.proofs.lemmas.List.{length-map, get_or-map}
use Rattle.std.specs.Bool.{then_some}
use Rattle.store.specs.declared.Pending.{Pending}
use Rattle.versions.specs.declared.session.Hold.{Hold}
use Rattle.versions.specs.declared.sessions.Sessions.{Sessions}
use Rattle.store.specs.Meaning.{any_holds}
use Rattle.store.specs.Consoles.{ats, pend_at, records_at}
use Rattle.versions.specs.Session.{Found}
use Rattle.versions.specs.Sessions.{consoles_of}
use Rattle.versions.proofs.Backs.{found_none}
use Rattle.versions.proofs.Kepts.{all_back}
use Rattle.versions.proofs.sessions.Sessions.find.Goals as goal

module _ {E : Type 0} (a : Sessions E) (r : ℕ) (within : r < length (vec_items a.holds)) (h : Hold) (at : h ≡ get_or (vec_items a.holds) r h) (ps : List (Pending E)) (is : ps ≡ pend_at (consoles_of a) h.console.number) where
  long : length (records_at (consoles_of a) h.console.number) ≡ length ps
  long = ap (λ qs. length (ats qs)) (sym is) ∙ length-map ps (λ (p : Pending E). p.at)

  record-at : (p : Pending E) → h.place < length ps → get_or (records_at (consoles_of a) h.console.number) h.place 0 ≡ (get_or ps h.place p).at
  record-at p l = ap (λ qs. get_or (ats qs) h.place 0) (sym is) ∙ get_or-map (λ (q : Pending E). q.at) ps h.place p 0 l

  -- the hold leads to no entry of record r
  none : (h.place < length ps → get_or (records_at (consoles_of a) h.console.number) h.place 0 ≡ r → ⊥) → any_holds (consoles_of a) r ≡ false
  none not = found_none (vec_items a.holds) (consoles_of a) r h at within (all_back a) (λ l q. let n = long in not (omega arith) q)

  -- what stands where the hold leads to
  found : (p : Pending E) → h.place < length ps → p ≡ get_or ps h.place p → Found (consoles_of a) r (then_some (eqb p.at r) h)
  found p l q =
      let here : get_or (records_at (consoles_of a) h.console.number) h.place 0 ≡ p.at = record-at p l ∙ ap (λ x. x.at) (sym q) in
      let n = long in
      elim (cases_Bool (eqb p.at r)) [
        | inl yes' ↦ rw yes' (omega arith, here ∙ eqb-true _ _ yes')
        | inr no' ↦ rw no' (none (λ _ e. both_ways _ no' (eq-eqb _ _ (sym here ∙ e))))
      ]

pub returns-in_err-pending : goal.returns-in_err-pending
returns-in_err-pending g c =
    let past = c.in_err-pending.ensures.lookup in
    rw c.from_residual.ensures (none c.args.self.now c.args.at c.requires c.index-hold.result.now c.index-hold.ensures c.pending.result.now c.pending.ensures.value (λ l _. absurd (omega arith)))

pub returns : goal.returns
returns g c =
    let read = c.in_ok-pending.ensures.lookup in
    rw c.then_some.ensures (found c.args.self.now c.args.at c.requires c.index-hold.result.now c.index-hold.ensures c.pending.result.now c.pending.ensures.value c.in_ok-pending.pending.now (omega arith) read.1)
