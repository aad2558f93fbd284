use Rattle.std.proofs.Common.{arith, List, ℕ, length, ap, sym, subst}
use Rattle.std.proofs.lemmas.List.{length-append}
use Rattle.mp_script.specs.Datum.{spelling, spellings}
use Rattle.mp_script.specs.Inside.DatumRef.{IsRun}
use Rattle.mp_script.proofs.DatumRefLaws.{item_there, item_before, cut}
use Rattle.mp_script.proofs.datum_ref.item_bytes.Goals as goal

pub skip-item-requires : goal.skip-item-requires
skip-item-requires c =
    let r = c.requires in
    (_, item_before c.args.bytes.now r.0 c.args.place r.1.0 r.1.1 r.1.2)

pub skip-after-requires : goal.skip-after-requires
skip-after-requires c =
    let r = c.requires in
    let i = item_there r.0 c.args.place r.1.0 r.1.1 in
    let e = c.skip-item.ensures _ (item_before c.args.bytes.now r.0 c.args.place r.1.0 r.1.1 r.1.2) in
    (spellings i.more, subst (λ (t : List ℕ). IsRun t 1 (spellings i.more)) (sym e) i.own)

pub slice_bounds-result-count : goal.slice_bounds-result-count
slice_bounds-result-count c =
    let r = c.requires in
    let i = item_there r.0 c.args.place r.1.0 r.1.1 in
    let e = c.skip-item.ensures _ (item_before c.args.bytes.now r.0 c.args.place r.1.0 r.1.1 r.1.2) in
    let f = c.skip-after.ensures (spellings i.more) (subst (λ (t : List ℕ). IsRun t 1 (spellings i.more)) (sym e) i.own) in
    omega (arith, ap length e, ap length f, length-append (spelling i.at) (spellings i.more))

pub returns : goal.returns
returns c items fit lt split =
    let i = item_there items c.args.place fit lt in
    let e = c.skip-item.ensures _ (item_before c.args.bytes.now items c.args.place fit lt split) in
    let f = c.skip-after.ensures (spellings i.more) (subst (λ (t : List ℕ). IsRun t 1 (spellings i.more)) (sym e) i.own) in
    (i.at, i.found, cut (spelling i.at) (spellings i.more) c.skip-item.result.now c.skip-after.result.now e f)
