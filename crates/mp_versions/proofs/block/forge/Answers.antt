use Rattle.std.proofs.Common.{◌≡◌, ◌≢◌, ◌≤◌, [], ap, refl, ◌∙◌, arith}
use Rattle.mp_seqpool.specs.Keep.{bytes_of}
use Rattle.mp_history.specs.Log.{state_after}
use Rattle.mp_seqpool.specs.Item.{items_of}
use Rattle.mp_seqpool.specs.Reading.{within}
use Rattle.mp_versions.proofs.Beginnings.{light_run, all_of_run}
use Rattle.mp_versions.proofs.Sharing.{on_err}
use Rattle.mp_versions.proofs.block.forge.Goals as goal

pub sum_sizes-bytes-requires : goal.sum_sizes-bytes-requires
sum_sizes-bytes-requires g c =
    let items = (state_after g.N.PoolName.accepts c.args.snapshot.now).items in
    let all : items_of c.as_slice.result.now ≡ within c.args.bytes items =
    c.as_slice.ensures ∙ all_of_run c.args.bytes c.size-count.result.0 items _ _ c.size-count.ensures.count c.take.ensures c.in_ok-items.ensures.items in
    let light : bytes_of (within c.args.bytes items) ≤ c.args.bytes = light_run c.args.bytes items in
    let same : bytes_of (items_of c.as_slice.result.now) ≡ bytes_of (within c.args.bytes items) = ap bytes_of all in
    let fits = c.ranges.bytes.fits in
    omega arith

pub returns-clause-items : goal.returns-clause-items
returns-clause-items g c = all_of_run c.args.bytes c.size-count.result.0 (state_after g.N.PoolName.accepts c.args.snapshot.now).items _ _ c.size-count.ensures.count c.take.ensures c.in_ok-items.ensures.items

pub returns-in_err-items-clause-wanting : goal.returns-in_err-items-clause-wanting
returns-in_err-items-clause-wanting g c =
    let items = (state_after g.N.PoolName.accepts c.args.snapshot.now).items in
    let some : within c.args.bytes items ≢ [] =
    λ none. c.in_err-items.ensures.wanting (all_of_run c.args.bytes c.size-count.result.0 items _ _ c.size-count.ensures.count c.take.ensures refl ∙ none) in
    on_err _ some
