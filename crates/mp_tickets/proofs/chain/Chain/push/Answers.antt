use Rattle.std.proofs.Common.{◌∷◌, [], ◌++◌, ◌∙◌}
use Rattle.mp_tickets.specs.Inside.Cell.{cell}
use Rattle.mp_tickets.specs.Inside.Links.{pairs}
use Rattle.mp_tickets.proofs.Pushed.{is_new, back_at, pairs_pushed, chained_pushed}
use Rattle.mp_tickets.proofs.chain.Chain.push.Goals as goal

pub set_next-requires : goal.set_next-requires
set_next-requires g c =
    let at = c.insert-ptr.result.at in let v = c.from_box.result.value in let k = c.bucket_of-bucket.result in
    let new = is_new c.args.self.now c.args.ticket k c.insert-ptr.new.self c.from_box.result.at at c.args.link.value c.deref_mut.result.now c.deref_mut-2.result.now c.deref_mut-3.result.now c.deref_mut-4.result.now v c.index.result.now
    c.requires c.bucket_of-bucket.ensures c.deref_mut.ensures.value c.deref_mut-2.ensures.value c.deref_mut-3.ensures.value c.deref_mut-4.ensures.value c.from_box.ensures c.index.ensures c.insert-ptr.ensures.cells c.insert-ptr.ensures.ptr in
    back_at c.args.self.now c.requires k c.insert-ptr.new.self (cell at v) new.0

pub returns-clause-chained : goal.returns-clause-chained
returns-clause-chained g c =
    let at = c.insert-ptr.result.at in let v = c.from_box.result.value in let k = c.bucket_of-bucket.result in
    let new = is_new c.args.self.now c.args.ticket k c.insert-ptr.new.self c.from_box.result.at at c.args.link.value c.deref_mut.result.now c.deref_mut-2.result.now c.deref_mut-3.result.now c.deref_mut-4.result.now v c.index.result.now
    c.requires c.bucket_of-bucket.ensures c.deref_mut.ensures.value c.deref_mut-2.ensures.value c.deref_mut-3.ensures.value c.deref_mut-4.ensures.value c.from_box.ensures c.index.ensures c.insert-ptr.ensures.cells c.insert-ptr.ensures.ptr in
    chained_pushed c.args.self.now c.requires k c.insert-ptr.new.self (cell at v) new.0 c.set_next.new.self c.set_prev.new.self c.set_bucket_prev.new.self c.set_next.ensures c.set_prev.ensures c.set_bucket_prev.ensures

pub returns-clause-pairs : goal.returns-clause-pairs
returns-clause-pairs g c =
    let at = c.insert-ptr.result.at in let v = c.from_box.result.value in let k = c.bucket_of-bucket.result in
    let new = is_new c.args.self.now c.args.ticket k c.insert-ptr.new.self c.from_box.result.at at c.args.link.value c.deref_mut.result.now c.deref_mut-2.result.now c.deref_mut-3.result.now c.deref_mut-4.result.now v c.index.result.now
    c.requires c.bucket_of-bucket.ensures c.deref_mut.ensures.value c.deref_mut-2.ensures.value c.deref_mut-3.ensures.value c.deref_mut-4.ensures.value c.from_box.ensures c.index.ensures c.insert-ptr.ensures.cells c.insert-ptr.ensures.ptr in
    pairs_pushed c.args.self.now c.requires k c.insert-ptr.new.self (cell at v) new.0 c.set_next.new.self c.set_prev.new.self c.set_bucket_prev.new.self c.set_next.ensures c.set_prev.ensures c.set_bucket_prev.ensures
    ∙ (λ i. pairs c.args.self.now.nodes.cells ++ (new.1 i, new.2 i) ∷ [])
