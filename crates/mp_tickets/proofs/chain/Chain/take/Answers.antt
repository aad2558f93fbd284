use Rattle.std.proofs.Common.{sym, ap, ◌∙◌, subst, ◌++◌}
use Rattle.mp_tickets.specs.Inside.Cell.{Cell, IsAt}
use Rattle.mp_tickets.specs.Inside.Links.{pairs}
use Rattle.mp_tickets.proofs.Apart.{same_cell}
use Rattle.mp_tickets.proofs.Taken.{prev_at, next_at, bucket_next_there, cut3, still_at, pairs_left, chained_left}
use Rattle.mp_tickets.proofs.chain.Chain.take.Goals as goal

pub set_next-requires : goal.set_next-requires
set_next-requires g c =
    let f = c.requires.found.1 in let told = c.get.ensures f.0 f.1 f.2 f.3 f.4 in
    rw told (prev_at c.args.self.now c.requires.chained f.0 f.1 f.2 f.3)

pub set_prev-requires : goal.set_prev-requires
set_prev-requires g c =
    let f = c.requires.found.1 in let told = c.get.ensures f.0 f.1 f.2 f.3 f.4 in
    rw told (next_at c.args.self.now c.requires.chained f.0 f.1 f.2 f.3 c.set_next.new.self (rw told at c.set_next.ensures))

pub set_bucket_prev-requires-clause-at : goal.set_bucket_prev-requires-clause-at
set_bucket_prev-requires-clause-at g c =
    let f = c.requires.found.1 in let told = c.get.ensures f.0 f.1 f.2 f.3 f.4 in
    bucket_next_there c.args.self.now c.requires.chained f.0 f.1 f.2 f.3 c.set_next.new.self (rw told at c.set_next.ensures) c.set_prev.new.self (rw told at c.set_prev.ensures)
    c.args.found.bucket_next (rw (← f.5) at f.6)

pub remove-requires : goal.remove-requires
remove-requires g c =
    let f = c.requires.found.1 in let told = c.get.ensures f.0 f.1 f.2 f.3 f.4 in
    subst (IsAt c.set_bucket_prev.new.self.nodes.cells) f.4
    (still_at c.args.self.now c.requires.chained f.0 f.1 f.2 f.3 c.set_next.new.self (rw told at c.set_next.ensures) c.set_prev.new.self (rw told at c.set_prev.ensures)
    c.args.found.bucket_next (rw (← f.5) at f.6) c.set_bucket_prev.new.self (rw (c.bucket_of-bucket.ensures, told) at c.set_bucket_prev.ensures))

pub returns-clause-chained : goal.returns-clause-chained
returns-clause-chained g c =
    let f = c.requires.found.1 in let told = c.get.ensures f.0 f.1 f.2 f.3 f.4 in
    let one = rw told at c.set_next.ensures in let two = rw told at c.set_prev.ensures in let bucket_next = rw (← f.5) at f.6 in let three = rw (c.bucket_of-bucket.ensures, told) at c.set_bucket_prev.ensures in
    let still = cut3 c.args.self.now c.requires.chained f.0 f.1 f.2 f.3 c.set_next.new.self one c.set_prev.new.self two c.args.found.bucket_next bucket_next c.set_bucket_prev.new.self three in
    chained_left c.args.self.now c.requires.chained f.0 f.1 f.2 f.3 c.set_next.new.self one c.set_prev.new.self two c.args.found.bucket_next bucket_next c.set_bucket_prev.new.self three
    c.remove.new.self (c.remove.ensures _ f.1 _ still f.4).0

pub returns-clause-taken : goal.returns-clause-taken
returns-clause-taken g c us k ws cut at =
    let f = c.requires.found.1 in let told = c.get.ensures f.0 f.1 f.2 f.3 f.4 in
    let one = rw told at c.set_next.ensures in let two = rw told at c.set_prev.ensures in let bucket_next = rw (← f.5) at f.6 in let three = rw (c.bucket_of-bucket.ensures, told) at c.set_bucket_prev.ensures in
    let still = cut3 c.args.self.now c.requires.chained f.0 f.1 f.2 f.3 c.set_next.new.self one c.set_prev.new.self two c.args.found.bucket_next bucket_next c.set_bucket_prev.new.self three in
    let taken = c.remove.ensures _ f.1 _ still f.4 in
    let same = same_cell c.args.self.now.nodes.cells f.0 f.1 f.2 us k ws c.args.self.now.nodes.apart f.3 cut (f.4 ∙ sym at) in (
      pairs_left c.args.self.now c.requires.chained f.0 f.1 f.2 f.3 c.set_next.new.self one c.set_prev.new.self two c.args.found.bucket_next bucket_next c.set_bucket_prev.new.self three c.remove.new.self taken.0 ∙ (λ i. pairs (same.0 i) ++ pairs (same.2 i)),
      sym (ap (λ (n : Cell _). n.value) taken.1) ∙ ap (λ (n : Cell _). n.value) same.1,
    )
