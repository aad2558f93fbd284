use Rattle.std.proofs.Common.{◌≡◌, ◌++◌}
use Rattle.std.specs.Vec.Iter.{into_iter_items}
use Rattle.mp_serve.specs.Talk.{names_to_go}
use Rattle.mp_serve.proofs.forgetting.names_to_go.Given as goal

-- those so far and those among the names that are left are all of them
abbrev pub invariant-loop-name : goal.invariant-loop-name
invariant-loop-name l =
    l.goes.items ++ names_to_go l.names l.stage (into_iter_items l.name-iterator) ≡ names_to_go l.names l.stage l.fn.listed.items
