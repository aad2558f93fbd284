use Rattle.std.proofs.Common.{◌≡◌, ◌+◌, drop, get_or, ap, ◌∙◌, arith}
use Rattle.std.proofs.lemmas.List.{drop_all, drop_more}
use Rattle.mp_tickets.specs.Tickets.{among}
use Rattle.mp_seqpool.specs.Keep.{bytes_of}
use Rattle.mp_versions.specs.Layout.{items_in}
use Rattle.mp_versions.proofs.Ascents.{ascends, ascends-drop}
use Rattle.mp_versions.proofs.Finding.{ticket_step, no_more, among_none}
use Rattle.mp_versions.proofs.layout.reading.bytes_among.Goals as goal

pub overflow_add-bytes : goal.overflow_add-bytes
overflow_add-bytes c =
    let ts = c.args.tickets.now in
    let xs = items_in c.args.layout.now in
    let i = c.loop-ticket.ticket-index in
    let step = ticket_step ts (drop (i + 1) ts) i (get_or ts i 0) xs c.requires.rising (ascends-drop ts i (ascends ts c.requires.increasing)) (drop_more ts i 0 c.loop-ticket-test.true) in
    let all : c.loop-ticket.bytes + bytes_of (among (drop i ts) xs) ≡ bytes_of (among ts xs) = c.loop-ticket.invariant in
    let less = no_more ts xs in
    let most = c.requires.most in
    let size = c.bytes_under-bytes.ensures in
    omega arith

pub loop-ticket-preserved : goal.loop-ticket-preserved
loop-ticket-preserved c =
    let ts = c.args.tickets.now in
    let xs = items_in c.args.layout.now in
    let i = c.loop-ticket.ticket-index in
    let step = ticket_step ts (drop (i + 1) ts) i (get_or ts i 0) xs c.requires.rising (ascends-drop ts i (ascends ts c.requires.increasing)) (drop_more ts i 0 c.loop-ticket-test.true) in
    let all : c.loop-ticket.bytes + bytes_of (among (drop i ts) xs) ≡ bytes_of (among ts xs) = c.loop-ticket.invariant in
    let size = c.bytes_under-bytes.ensures in
    let next : (c.loop-ticket.bytes + c.bytes_under-bytes.result) + bytes_of (among (drop (i + 1) ts) xs) ≡ bytes_of (among ts xs) = omega arith in
    next

pub returns : goal.returns
returns c =
    let ts = c.args.tickets.now in
    let xs = items_in c.args.layout.now in
    let i = c.loop-ticket.ticket-index in
    let all : c.loop-ticket.bytes + bytes_of (among (drop i ts) xs) ≡ bytes_of (among ts xs) = c.loop-ticket.invariant in
    let none : bytes_of (among (drop i ts) xs) ≡ 0 = ap (λ l. bytes_of (among l xs)) (drop_all i ts c.loop-ticket-test.false) ∙ ap bytes_of (among_none xs) in
    omega arith
