use Rattle.std.proofs.Common.{◌≡◌, List, ℕ, [], Some, None, sym, ap, ◌∙◌, rules}
use Rattle.mp_names.specs.Inside.NumberTable.{numbers_at, without_number}
use Rattle.mp_names.proofs.NumberTables.{numbers_in, numbers_after, takes_after, twice_after}
use Rattle.mp_names.proofs.number_table.take.Goals as goal

pub returns-then-take_out : goal.returns-then-take_out
returns-then-take_out c =
    let old = c.args.table.now.entries in
    let numbers = c.take_out.new.numbers in
    let mid = (c.get_mut.follows.lender numbers).entries in
    let new = c.swap_remove.new.self.entries in
    let key : List ℕ = c.args.key.now in
    let updates = (c.get_mut.follows.holds numbers).3 (search rules) in
    let gone = c.swap_remove.ensures.updates in
    let found : c.in-Some.numbers.now.items ≡ numbers_at old key = ap numbers_in c.in-Some.ensures.value in
    let none : numbers.items ≡ [] = search rules in
    takes_after old new key c.args.number [] (sym none ∙ c.take_out.ensures.left ∙ ap (without_number c.args.number) found)
    (twice_after old mid new key numbers.items [] (numbers_after old mid key (Some numbers) updates.1 updates.3) (numbers_after mid new key None gone.1 gone.3))

pub returns-else-take_out : goal.returns-else-take_out
returns-else-take_out c =
    let old = c.args.table.now.entries in
    let numbers = c.take_out.new.numbers in
    let new = (c.get_mut.follows.lender numbers).entries in
    let key : List ℕ = c.args.key.now in
    let updates = (c.get_mut.follows.holds numbers).3 (search rules) in
    let found : c.in-Some.numbers.now.items ≡ numbers_at old key = ap numbers_in c.in-Some.ensures.value in
    takes_after old new key c.args.number numbers.items (c.take_out.ensures.left ∙ ap (without_number c.args.number) found) (numbers_after old new key (Some numbers) updates.1 updates.3)
