use Rattle.std.proofs.Common.{arith}
use Rattle.mp_versions.specs.Layout.{items_in}
use Rattle.mp_versions.proofs.Gone.{bytes_parted, less_gone}
use Rattle.mp_versions.proofs.version.take_out.Goals as goal

pub overflow_sub-result : goal.overflow_sub-result
overflow_sub-result c =
    let all = bytes_parted c.args.tickets.now (items_in c.args.layout.now) in
    let bytes = c.requires.bytes in
    let gone = c.bytes_among-gone.ensures in
    omega (arith, all, bytes, gone)

pub returns : goal.returns
returns c = record {
  all = c.in_ok-without.ensures.items;
  laid = c.in_ok-without.ensures.laid;
  bytes = less_gone c.args.tickets.now (items_in c.args.layout.now) c.args.bytes c.bytes_among-gone.result c.requires.bytes c.bytes_among-gone.ensures;
}
