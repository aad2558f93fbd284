use Rattle.std.proofs.Common.{rules, arith, ◌≡◌, ◌≤◌, ◌<◌, ◌==◌, length, take, [], false}
use Rattle.std.proofs.lemmas.Bool.Decides.{nat_tests}
use Rattle.std.proofs.lemmas.List.{nil_from_length}
use Rattle.mp_testing.proofs.Left.{filler_given}
use Rattle.mp_testing.proofs.reader.FailingReaderRead.read.Goals as goal

pub returns-then-is_empty-clause-bytes : goal.returns-then-is_empty-clause-bytes
returns-then-is_empty-clause-bytes c =
    let reader = c.args.self.now in
    let k = c.min-count.result in
    let none : reader.bytes.now ≡ [] = nil_from_length reader.bytes.now (let empty = c.if-is_empty.true in let told = c.is_empty.ensures in grind (arith, nat_tests)) in
    let le : k ≤ reader.filler = search rules in
    let last : (reader.at_once == 0) ≡ false → k ≡ 0 → 0 < length c.fill_front.new.buf → reader.filler ≡ 0 = λ some z room. let kept = c.fill_front.ensures.len in let inner = c.min.ensures in let outer = c.min-count.ensures in grind (arith, nat_tests) in
    filler_given (reader.at_once == 0) reader.bytes.now reader.filler k (take k c.fill_front.new.buf) (length c.fill_front.new.buf) none le c.fill_front.ensures.front last
