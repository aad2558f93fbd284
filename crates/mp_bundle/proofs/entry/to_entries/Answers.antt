use Rattle.std.proofs.Common.{◌≡◌, ℕ, ◌+◌, ◌<◌, ◌≤◌, List, [], ◌∷◌, ◌++◌, length, get_or, take, ap, subst, sym, ◌∙◌}
use Rattle.std.proofs.lemmas.List.{map_more, take_all}
use Rattle.mp_bundle.specs.Bundle.{TokenEntry}
use Rattle.mp_bundle.specs.BundleFault.{Given, entry_of, entries_of}
use Rattle.mp_bundle.proofs.entry.to_entries.Goals as goal

-- with the next entry after those that are done
made_more : {Z : Type 0} (given : List (Given Z)) (made : List TokenEntry) (i : ℕ) (g : Given Z) (e : TokenEntry) → i < length given → g ≡ get_or given i g → e ≡ entry_of g → made ≡ entries_of (take i given) → made ++ e ∷ [] ≡ entries_of (take (i + 1) given)
made_more given made i g e within at is so = (λ j. so j ++ (is ∙ ap entry_of at) j ∷ []) ∙ sym (map_more entry_of given i g within)

pub to_entry-requires : goal.to_entry-requires
to_entry-requires c =
    subst (λ (g : _). length g.1.items ≤ 32) (sym c.entry-item.is)
    (c.requires c.loop-entry.entry-index c.entry-item.result c.loop-entry-test.true)

pub loop-entry-preserved : goal.loop-entry-preserved
loop-entry-preserved c =
    c.in_ok-push.ensures.items
    ∙ made_more c.args.given.now c.loop-entry.entries.items c.loop-entry.entry-index c.entry-item.result c.to_entry.result c.loop-entry-test.true c.entry-item.is c.to_entry.ensures c.loop-entry.invariant

pub returns : goal.returns
returns c = c.loop-entry.invariant ∙ ap entries_of (take_all c.loop-entry.entry-index c.args.given.now c.loop-entry-test.false)
