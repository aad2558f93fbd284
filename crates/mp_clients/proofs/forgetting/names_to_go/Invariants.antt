use Rattle.std.proofs.Common.{◌≡◌, ◌++◌}
use Rattle.std.specs.Vec.Iter.{into_iter_items}
use Rattle.mp_session.specs.declared.session.Stage.TheVariants.{Open}
use Rattle.mp_serve.specs.Talk.{names_to_go}
use Rattle.mp_clients.specs.Client.{served_at}
use Rattle.mp_clients.proofs.forgetting.names_to_go.Given as goal

-- those so far and those among the names that are left are all of them
abbrev pub invariant-loop-name : goal.invariant-loop-name
invariant-loop-name g l =
    let stage = Open (served_at g.N.PoolName.accepts l.client l.client.pass.front) in
    l.goes.items ++ names_to_go l.names stage (into_iter_items l.name-iterator) ≡ names_to_go l.names stage l.fn.listed.items
