use Rattle.std.proofs.Common.{◌≡◌, List, ℕ, [], ◌∷◌, ◌++◌, Some, ap, ◌∙◌, rules}
use Rattle.mp_names.specs.Inside.NumberTable.{numbers_at}
use Rattle.mp_names.proofs.NumberTables.{numbers_in, numbers_after, puts_after, same_after, on_err}
use Rattle.mp_names.proofs.number_table.put.Goals as goal

pub returns-in_err-push-in-Some-clause-err : goal.returns-in_err-push-in-Some-clause-err
returns-in_err-push-in-Some-clause-err c =
    let old = c.args.table.now.entries in
    let numbers = c.push.new.self in
    let new = (c.get_mut.follows.lender numbers).entries in
    let key : List ℕ = c.args.key.now in
    let updates = (c.get_mut.follows.holds numbers).3 (search rules) in
    let found : c.in-Some.numbers.now.items ≡ numbers_at old key = ap numbers_in c.in-Some.ensures.value in
    on_err c.from_residual.result _
    (same_after old new key numbers.items (c.in_err-push-in-Some.ensures.items ∙ found) (numbers_after old new key (Some numbers) updates.1 updates.3))

pub returns-in_ok-push-in-Some-clause-ok : goal.returns-in_ok-push-in-Some-clause-ok
returns-in_ok-push-in-Some-clause-ok c =
    let old = c.args.table.now.entries in
    let numbers = c.push.new.self in
    let new = (c.get_mut.follows.lender numbers).entries in
    let key : List ℕ = c.args.key.now in
    let updates = (c.get_mut.follows.holds numbers).3 (search rules) in
    let found : c.in-Some.numbers.now.items ≡ numbers_at old key = ap numbers_in c.in-Some.ensures.value in
    puts_after old new key c.args.number numbers.items (c.in_ok-push-in-Some.ensures.items ∙ ap (λ l. l ++ c.args.number ∷ []) found) (numbers_after old new key (Some numbers) updates.1 updates.3)
