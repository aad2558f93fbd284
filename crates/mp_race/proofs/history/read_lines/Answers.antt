use Rattle.std.proofs.Common.{◌≡◌, ◌+◌, ◌<◌, ◌∷◌, [], ◌++◌, length, length-append, sym, ap, subst, ◌∙◌, rules, arith}
use Rattle.std.specs.Prelude.{All}
use Rattle.std.proofs.lemmas.List.Elements.{All-push}
use Rattle.mp_race.specs.HistoryText.{lines_text, told_text, IsTellable}
use Rattle.mp_race.proofs.HistoryLines.{reads-more}
use Rattle.mp_race.proofs.history.read_lines.Goals as goal

pub loop-rest-preserved : goal.loop-rest-preserved
loop-rest-preserved c =
    let told = c.loop-rest.told.items in
    let t = c.in-Some.entry in
    let begins : c.loop-rest.rest.now ≡ told_text t ++ c.in-Some.after.now = search rules in
    let tellable : IsTellable t = search rules in
    let few : length told < c.args.entries = search rules in
    let items : c.push.new.self.items ≡ told ++ t ∷ [] = search rules in
    let len : length c.push.new.self.items ≡ length told + 1 = ap length items ∙ length-append told (t ∷ []) in
    record {
      reads = subst (λ l. c.args.text.now ≡ lines_text l ++ c.in-Some.after.now) (sym items) (reads-more c.args.text.now told t c.loop-rest.rest.now c.in-Some.after.now c.loop-rest.invariant.reads begins);
      tellable = subst (All IsTellable) (sym items) (All-push IsTellable told t c.loop-rest.invariant.tellable tellable);
      within = omega (arith, len, few);
    }
