-- The loop that moves nodes from one chain to the back of another.
use Rattle.std.proofs.Common.{◌≡◌, List, [], ◌∷◌, ◌++◌, Option, None, sym, ap, ◌∙◌, subst, append_assoc, append-nil}
use Rattle.mp_tickets.specs.declared.node_store.NodePtr.{NodePtr}
use Rattle.mp_tickets.specs.declared.chain.Chain.{Chain}
use Rattle.mp_tickets.specs.Inside.Links.{first_of, Forward, StoredNode, pairs, nexts}
use Rattle.mp_tickets.specs.Inside.Chain.{IsChained}

-- cs remain in `from`, `at` leads to their first, and the others are at the end of the chain, which had old
pub record Moves {T : Type 0} (old from cs : List (StoredNode T)) (at : Option NodePtr) (to : Chain T) : Type 0 where
  pub forward : Forward (nexts cs) None
  pub leads : at ≡ first_of (nexts cs) None
  pub chained : IsChained to
  pub all : pairs to.nodes.cells ++ pairs cs ≡ pairs old ++ pairs from

module _ {T : Type 0} (old from cs : List (StoredNode T)) (to : Chain T) where
  -- one more node
  pub moves_on : (at : Option NodePtr) (to1 : Chain T) (c : StoredNode T) (rest left : List (StoredNode T)) → Moves old from cs at to → cs ≡ c ∷ rest → left ≡ rest → IsChained to1
      → pairs to1.nodes.cells ≡ pairs to.nodes.cells ++ (c.value.ticket, c.value.item) ∷ [] → Moves old from left c.value.next to1
  moves_on at to1 c rest left m cut same chained pushed =
      let f = subst (λ l. Forward (nexts l) None) cut m.forward in
      record {
        forward = subst (λ l. Forward (nexts l) None) (sym same) f.1;
        leads = f.0 ∙ sym (ap (λ l. first_of (nexts l) None) same);
        chained = chained;
        all = (λ i. pushed i ++ pairs (same i)) ∙ append_assoc (pairs to.nodes.cells) ((c.value.ticket, c.value.item) ∷ []) (pairs rest) ∙ sym (ap (λ l. pairs to.nodes.cells ++ pairs l) cut) ∙ m.all;
      }

  pub moves_end : (at : Option NodePtr) → Moves old from cs at to → cs ≡ [] → pairs to.nodes.cells ≡ pairs old ++ pairs from
  moves_end at m none = sym (append-nil (pairs to.nodes.cells)) ∙ sym (ap (λ l. pairs to.nodes.cells ++ pairs l) none) ∙ m.all
