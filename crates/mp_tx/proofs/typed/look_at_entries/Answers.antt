use Rattle.std.proofs.Common.{◌≡◌, length, subst}
use Rattle.std.specs.List.{All}
use Rattle.std.proofs.lemmas.List.{take_all}
use Rattle.std.proofs.lemmas.List.Elements.{All-more}
use Rattle.mp_bundle.specs.Bundle.{TokenEntry}
use Rattle.mp_tx.proofs.typed.look_at_entries.Goals as goal

pub loop-entry-preserved : goal.loop-entry-preserved
loop-entry-preserved c = All-more (λ (e : TokenEntry). length e.0.policy ≡ 32) c.args.entries.now c.loop-entry.entry-index _ c.loop-entry-test.true c.loop-entry.invariant (subst (λ (e : TokenEntry). length e.0.policy ≡ 32) c.entry-item.is c.look_at_entry.ensures)

pub returns : goal.returns
returns c = subst (All (λ (e : TokenEntry). length e.0.policy ≡ 32)) (take_all c.loop-entry.entry-index c.args.entries.now c.loop-entry-test.false) c.loop-entry.invariant
