use Rattle.std.proofs.Common.{◌≡◌, sym, ap, subst, ◌∙◌}
use Rattle.std.specs.Prelude.{Some, None, option_map}
use Rattle.std.specs.Arc.{arc_value}
use Rattle.mp_tickets.specs.Tickets.{item_at}
use Rattle.mp_seqpool.specs.ValidatedTx.{ValidatedTx}
use Rattle.mp_seqpool.specs.Pool.{Holding}
use Rattle.mp_seqpool.proofs.Reading.{item_ticketed}
use Rattle.mp_seqpool.proofs.pool.SeqPool.get.Goals as goal

pub returns-in-Some : goal.returns-in-Some
returns-in-Some c = subst (λ (h : Holding). Some (arc_value c.item.inside.tx) ≡ item_at h.pool.items c.args.ticket) c.self.view_is
    (ap (λ (v : ValidatedTx). Some v.tx) c.item.view_is ∙ ap (option_map (λ (v : ValidatedTx). v.tx)) c.in-Some.ensures ∙ sym (item_ticketed c.self.inside.items c.args.ticket))

pub returns-in-None : goal.returns-in-None
returns-in-None c = subst (λ (h : Holding). None ≡ item_at h.pool.items c.args.ticket) c.self.view_is
    (ap (option_map (λ (v : ValidatedTx). v.tx)) c.in-None.ensures ∙ sym (item_ticketed c.self.inside.items c.args.ticket))
