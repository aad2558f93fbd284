use Rattle.std.proofs.Common.{length, ap, arith}
use Rattle.std.proofs.lemmas.List.{length_push}
use Rattle.mp_versions.proofs.Building.{item_put}
use Rattle.mp_versions.proofs.layout.building.put.Goals as goal

pub returns : goal.returns
returns c = λ all b.
    let k = c.in_ok-make_item_room.ensures.built all b in
    let r = c.in_ok-make_item_room.ensures.room all b in
    let m = c.make_item_room.new.built in
    let pushed = c.in_ok-push.ensures.items in
    record {
      all = item_put all m.pages.items m.chunks.items m.items.items c.push.new.self.items c.args.item k.all pushed;
      filled = k.filled;
      chunks_filled = k.chunks_filled;
      few_chunks = k.few_chunks;
      few_items = let e = ap length pushed in let l = length_push m.items.items c.args.item in omega arith;
    }
