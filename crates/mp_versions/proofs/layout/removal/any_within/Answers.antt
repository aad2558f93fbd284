use Rattle.std.proofs.Common.{◌≤◌, length, ltb, leb, sym, subst, rules}
use Rattle.std.proofs.lemmas.Bool.{OnFalse_from, ltb-true, ltb-false, leb-false}
use Rattle.std.proofs.lemmas.List.{drop_all}
use Rattle.std.proofs.lemmas.List.Elements.{All-from_recursion}
use Rattle.std.proofs.lemmas.List.Sorted.{IsPartitionedBy-ltb, IsPartitionPoint-from_clause}
use Rattle.mp_versions.proofs.Parts.{passes}
use Rattle.mp_versions.proofs.Ascents.{ascends, falls_not, BeginsAbove, outside}
use Rattle.mp_versions.proofs.Leaving.{here_at}
use Rattle.mp_versions.proofs.layout.removal.any_within.Goals as goal

pub returns-in-Some : goal.returns-in-Some
returns-in-Some c =
    let ts = c.args.tickets.now in
    let at = c.partition_point-at.result in
    let p = IsPartitionPoint-from_clause (λ t. ltb t c.args.first) ts at c.partition_point-at.ensures.partitioned
    (IsPartitionedBy-ltb (λ t. t) ts c.args.first (falls_not ts c.requires)) (λ a r f k. search rules) in
    OnFalse_from (leb c.in-Some.ticket.now c.args.last) _
    (λ f. All-from_recursion (λ t. c.args.first ≤ t → t ≤ c.args.last → ⊥) ts
    (outside c.args.first c.args.last ts at (ascends ts c.requires) (passes (λ t. ltb t c.args.first) ts at c.partition_point-at.ensures.bound p.0)
    (subst (BeginsAbove c.args.last) (sym (here_at ts at c.in-Some.ticket.now (ltb-true at (length ts) (sym c.in-Some.ensures.lookup.0)) c.in-Some.ensures.lookup.1)) (leb-false c.in-Some.ticket.now c.args.last f))))

pub returns-in-None : goal.returns-in-None
returns-in-None c =
    let ts = c.args.tickets.now in
    let at = c.partition_point-at.result in
    let p = IsPartitionPoint-from_clause (λ t. ltb t c.args.first) ts at c.partition_point-at.ensures.partitioned
    (IsPartitionedBy-ltb (λ t. t) ts c.args.first (falls_not ts c.requires)) (λ a r f k. search rules) in
    All-from_recursion (λ t. c.args.first ≤ t → t ≤ c.args.last → ⊥) ts
    (outside c.args.first c.args.last ts at (ascends ts c.requires) (passes (λ t. ltb t c.args.first) ts at c.partition_point-at.ensures.bound p.0)
    (subst (BeginsAbove c.args.last) (sym (drop_all at ts (ltb-false at (length ts) (sym c.in-None.ensures.lookup.0)))) tt))
