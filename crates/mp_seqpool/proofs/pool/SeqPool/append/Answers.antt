use Rattle.std.proofs.Common.{◌≡◌, ◌+◌, ◌++◌, [], ◌∷◌, refl, sym, ap, subst, ◌∙◌}
use Rattle.std.specs.Arc.{arc_value}
use Rattle.mp_tx.specs.Spelling.{id_of, size_of}
use Rattle.mp_rules.specs.Validity.{IsValid}
use Rattle.mp_seqpool.specs.Pool.{Holding}
use Rattle.mp_seqpool.specs.Inside.Chained.{all_accepted}
use Rattle.mp_seqpool.specs.SlowPool.{ticket_of, unspent, HasPlace}
use Rattle.mp_seqpool.proofs.Submits.{all_below, counted}
use Rattle.mp_seqpool.proofs.pool.SeqPool.append.Goals as goal

pub push_node-requires-clause-greater : goal.push_node-requires-clause-greater
push_node-requires-clause-greater c = all_below c.self.inside.last c.self.inside.items c.self.invariant.given

pub invariant_of-self : goal.invariant_of-self
invariant_of-self c =
    let same : arc_value c.args.applied ≡ c.args.node.tx = c.requires.one in
    counted c.self.inside _ c.args.node refl c.apply.ensures.base
    (c.apply.ensures.applied ∙ ap (λ t. c.self.inside.overlay.applied ++ t ∷ []) same)
    (c.apply.ensures.items ∙ ap (λ t. c.self.inside.overlay.items ++ (c.self.inside.last + 1, t) ∷ []) same)
    c.push_node.ensures refl
    (ap (λ n. c.self.inside.bytes + n) (c.size.ensures.size ∙ ap size_of (c.deref.ensures ∙ same))) refl
    (ap (λ (h : Holding). ticket_of (id_of c.args.node.tx) h.pool.items) c.self.view_is ∙ c.requires.can.new)
    (subst (λ (h : Holding). HasPlace h.pool c.args.node.tx) (sym c.self.view_is) c.requires.can.place)
    c.requires.can.valid
    (subst (λ (h : Holding). IsValid all_accepted (unspent h.pool) h.pool.ledger.tick c.args.node.tx) (sym c.self.view_is) c.requires.valid)
    c.self.invariant
