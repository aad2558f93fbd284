use Rattle.std.proofs.Common.{refl}
use Rattle.mp_tickets.specs.Inside.Relinks.{with_bucket_prev}
use Rattle.mp_tickets.proofs.Apart.{changed}
use Rattle.mp_tickets.proofs.chain.Chain.set_bucket_prev.Goals as goal

pub returns-in-Some : goal.returns-in-Some
returns-in-Some g c = rw c.in-Some.is (record {
  here = (refl, changed c.args.self.now.nodes.cells c.in-Some.ptr.at (with_bucket_prev c.args.bucket_prev) c.get_mut.result.now c.args.self.now.nodes.apart c.get_mut.ensures.value);
  others = λ j h. refl;
  whole = refl;
  front = refl;
  back = refl;
})
