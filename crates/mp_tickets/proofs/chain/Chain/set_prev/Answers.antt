use Rattle.std.proofs.Common.{refl}
use Rattle.mp_tickets.specs.Inside.Relinks.{with_prev}
use Rattle.mp_tickets.proofs.Apart.{changed}
use Rattle.mp_tickets.proofs.chain.Chain.set_prev.Goals as goal

pub returns-in-Some : goal.returns-in-Some
returns-in-Some g c = rw c.in-Some.is (record {
  here = (refl, changed c.args.self.now.nodes.cells c.in-Some.ptr.at (with_prev c.args.prev) c.get_mut.result.now c.args.self.now.nodes.apart c.get_mut.ensures.value);
  front = refl;
  bucket_backs = refl;
})
