use Rattle.std.proofs.Common.{◌≡◌, ◌+◌, Some, None, sym, ap, subst, ◌∙◌}
use Rattle.mp_tx.specs.Spelling.{size_of}
use Rattle.mp_tickets.specs.Tickets.{item_at}
use Rattle.mp_seqpool.specs.ValidatedTx.{ValidatedTx}
use Rattle.mp_seqpool.specs.Inside.Leaving.{bytes_in, AreKnown}
use Rattle.mp_seqpool.proofs.Leavers.{no_more, nothing, taken_known, taken_bytes}
use Rattle.mp_seqpool.proofs.leaving.take_one.Goals as goal

pub returns-in-Some-clause-known : goal.returns-in-Some-clause-known
returns-in-Some-clause-known c =
    let at : item_at c.args.items.now c.args.ticket ≡ Some c.in-Some.item = sym c.unlink.ensures.item ∙ c.in-Some.is in
    subst AreKnown (sym c.unlink.ensures.list) (taken_known c.args.items.now c.args.ticket c.in-Some.item at c.requires)

pub returns-in-Some-clause-bytes : goal.returns-in-Some-clause-bytes
returns-in-Some-clause-bytes c =
    let at : item_at c.args.items.now c.args.ticket ≡ Some c.in-Some.item = sym c.unlink.ensures.item ∙ c.in-Some.is in
    let size = c.size.ensures.size ∙ ap size_of (c.deref.ensures ∙ ap (λ (i : ValidatedTx). i.tx) c.item.view_is) in
    ap (λ n. bytes_in c.unlink.new.self + n) size ∙ ap (λ l. bytes_in l + size_of c.in-Some.item.tx) c.unlink.ensures.list
    ∙ taken_bytes c.args.items.now c.args.ticket c.in-Some.item at c.requires.rising

pub returns-in-None-clause-known : goal.returns-in-None-clause-known
returns-in-None-clause-known c =
    let at : item_at c.args.items.now c.args.ticket ≡ None = sym c.unlink.ensures.item ∙ c.in-None.is in
    subst AreKnown (sym (c.unlink.ensures.list ∙ nothing c.args.items.now c.args.ticket at)) c.requires

pub returns-in-None-clause-bytes : goal.returns-in-None-clause-bytes
returns-in-None-clause-bytes c =
    let at : item_at c.args.items.now c.args.ticket ≡ None = sym c.unlink.ensures.item ∙ c.in-None.is in
    no_more (bytes_in c.unlink.new.self) ∙ ap bytes_in (c.unlink.ensures.list ∙ nothing c.args.items.now c.args.ticket at)
