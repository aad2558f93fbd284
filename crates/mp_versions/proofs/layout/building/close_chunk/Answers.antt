use Rattle.std.proofs.Common.{◌≡◌, ◌<◌, [], length, sym, ap, subst, ◌∙◌, arith}
use Rattle.std.specs.List.{All}
use Rattle.std.proofs.lemmas.List.{length_push}
use Rattle.std.proofs.lemmas.List.Elements.{All-push}
use Rattle.mp_seqpool.specs.Item.{items_of}
use Rattle.mp_versions.specs.Pages.{IsFilled}
use Rattle.mp_versions.proofs.Building.{chunk_closed, chunk_filled}
use Rattle.mp_versions.proofs.layout.building.close_chunk.Goals as goal

pub returns-clause-built : goal.returns-clause-built
returns-clause-built c = λ all b.
    let k = c.in_ok-make_chunk_room.ensures.built all b in
    let r = c.in_ok-make_chunk_room.ensures.room all b in
    let m = c.make_chunk_room.new.built in
    let is = m.items.items in
    let made = c.in_ok-of.ensures ∙ ap (λ v. items_of v.items) c.replace-items.ensures.value in
    let empty : c.replace-items.new.dest.items ≡ [] = ap (λ v. v.items) c.replace-items.ensures.after ∙ c.new.ensures.items in
    let some : 0 < length is = subst (λ v. 0 < length v.items) (sym c.in_ok-make_chunk_room.ensures.items) c.requires.some in
    let pushed = c.in_ok-push.ensures.items in
    record {
      all = chunk_closed all m.pages.items m.chunks.items c.push.new.self.items is c.replace-items.new.dest.items c.in_ok-of.field-0 k.all made pushed empty;
      filled = k.filled;
      chunks_filled = subst (All IsFilled) (sym pushed) (All-push IsFilled m.chunks.items c.in_ok-of.field-0 k.chunks_filled (chunk_filled is c.in_ok-of.field-0 made some k.few_items));
      few_chunks = let e = ap length pushed in let l = length_push m.chunks.items c.in_ok-of.field-0 in omega arith;
      few_items = let e : length c.replace-items.new.dest.items ≡ 0 = ap length empty in omega arith;
    }
