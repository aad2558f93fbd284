use Rattle.std.proofs.Common.{arith, ap, sym, subst, ◌∙◌, ◌≡◌, ◌+ℤ◌, pos, cond, to_z, of_z}
use Rattle.std.proofs.lemmas.Int.{ints}
use Rattle.mp_bundle.specs.Bundle.{TokenEntry, quantity_of}
use Rattle.mp_bundle.specs.Token.{token_cmp}
use Rattle.std.specs.Ordering.{eq_by_cmp}
use Rattle.std.specs.BTreeMap.{ContainsKey}
use Rattle.std.specs.Prelude.{FitsSigned}
use Rattle.std.specs.Int.{w64}
use Rattle.std.proofs.Common.{rules}
use Rattle.mp_bundle.proofs.TotalsLemmas.{quantity-drop, first_quantity, room_stays, regroup}
use Rattle.mp_bundle.proofs.totals.raise_all.Goals as goal

pub raise-requires-clause-room : goal.raise-requires-clause-room
raise-requires-clause-room c =
    subst (λ (e : TokenEntry). ContainsKey token_cmp c.loop-token.totals e.0) (sym c.loop-token-item.is)
    (c.loop-token.invariant.room c.loop-token.token-index c.loop-token-item.result c.loop-token-test.true)

pub raise-requires-clause-fits : goal.raise-requires-clause-fits
raise-requires-clause-fits c =
    let entry = c.loop-token-item.result in
    let first = first_quantity c.args.entries.now c.loop-token.token-index entry c.requires.rising c.loop-token-test.true c.loop-token-item.is in
    let whole = c.loop-token.invariant.totals entry.0 in
    let fits = c.requires.fits entry.0 in
    let small : FitsSigned w64 entry.1 = search rules in
    record { least = omega (arith, ints, first, whole, fits.least); greatest = omega (arith, ints, first, whole, fits.greatest) }

pub loop-token-preserved : goal.loop-token-preserved
loop-token-preserved c =
    let entry = c.loop-token-item.result in
    let small : FitsSigned w64 entry.1 = search rules in
    let by : to_z w64 (of_z w64 entry.1) ≡ entry.1 = omega (arith, ints) in
    record {
      totals = λ t. regroup _ _ _ _ _ _
          (c.raise.ensures.raised t ∙ ap (λ n. quantity_of c.loop-token.totals.entries t +ℤ cond (eq_by_cmp token_cmp entry.0 t) n (pos 0)) by)
          (quantity-drop c.args.entries.now c.loop-token.token-index entry c.requires.rising c.loop-token-test.true c.loop-token-item.is t)
          (c.loop-token.invariant.totals t);
      room = room_stays c.loop-token.totals c.raise.new.totals c.args.entries.now c.raise.ensures.room c.loop-token.invariant.room;
    }
