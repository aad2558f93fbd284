use Rattle.std.proofs.Common.{refl}
use Rattle.mp_tickets.specs.Inside.Relinks.{with_next}
use Rattle.mp_tickets.proofs.Apart.{changed}
use Rattle.mp_tickets.proofs.chain.Chain.set_next.Goals as goal

pub returns-in-Some : goal.returns-in-Some
returns-in-Some g c = rw c.in-Some.is (record {
  here = (refl, changed c.args.self.now.nodes.cells c.in-Some.ptr.at (with_next c.args.next) c.get_mut.result.now c.args.self.now.nodes.apart c.get_mut.ensures.value);
  back = refl;
  bucket_backs = refl;
})
