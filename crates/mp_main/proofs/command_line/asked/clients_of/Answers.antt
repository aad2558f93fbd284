use Rattle.std.proofs.Common.{◌≡◌, ◌∙◌, ◌<◌, ◌≤◌, ap, codes, length, map, rules, sym, subst, vec_len}
use Rattle.clap.specs.Matches.{found_of}
use Rattle.mp_main.specs.CommandLine as spec
use Rattle.mp_main.proofs.NamedFiles.{given_names, no_names, not_many, too_many}
use Rattle.mp_main.proofs.command_line.asked.clients_of.Goals as goal

pub returns-then-len-gt-MAX_CLIENTS-clause-taken :
    goal.returns-then-len-gt-MAX_CLIENTS-clause-taken
returns-then-len-gt-MAX_CLIENTS-clause-taken c =
    let are = c.in_ok-clients-in-Some.ensures
    ∙ ap spec.pairs_of (given_names (found_of c.args.given.now) (codes "client") c.in-Some.names.now c.in-Some.ensures) in
    let clients = c.in_ok-clients-in-Some.clients in
    let len : vec_len clients ≡ length clients.items = Prim.search rules in
    too_many clients.items _ are c.too_many_clients.result
    (subst (λ n. 63 < n) (c.len.ensures ∙ len) c.if-len-gt-MAX_CLIENTS.true) c.too_many_clients.ensures

pub returns-in-Some-clause-taken : goal.returns-in-Some-clause-taken
returns-in-Some-clause-taken c =
    let are = c.in_ok-clients-in-Some.ensures
    ∙ ap spec.pairs_of (given_names (found_of c.args.given.now) (codes "client") c.in-Some.names.now c.in-Some.ensures) in
    let clients = c.in_ok-clients-in-Some.clients in
    let len : vec_len clients ≡ length clients.items = Prim.search rules in
    not_many clients.items _ are (subst (λ n. n ≤ 63) (c.len.ensures ∙ len) c.if-len-gt-MAX_CLIENTS.false)

pub returns-in-Some-clause-files : goal.returns-in-Some-clause-files
returns-in-Some-clause-files c = c.in_ok-clients-in-Some.ensures
    ∙ ap spec.pairs_of (given_names (found_of c.args.given.now) (codes "client") c.in-Some.names.now c.in-Some.ensures)

pub returns-clause-taken : goal.returns-clause-taken
unfolding spec.pairs_of
returns-clause-taken c = ap (λ names. spec.clients_fault (spec.pairs_of names))
    (sym (no_names (found_of c.args.given.now) (codes "client") c.in-None.ensures))

pub returns-clause-files : goal.returns-clause-files
unfolding spec.pairs_of
returns-clause-files c = ap (λ clients. map spec.files_of clients) c.new.ensures.items
    ∙ ap spec.pairs_of (no_names (found_of c.args.given.now) (codes "client") c.in-None.ensures)
