use Rattle.std.proofs.Common.{◌≡◌, take}
use Rattle.mp_names.specs.Names.{without_bindings}
use Rattle.mp_names.proofs.names.Names.forget.Given as goal

-- the names so far are forgotten
abbrev pub invariant-loop-name : goal.invariant-loop-name
invariant-loop-name l = l.self ≡ without_bindings l.fn.self (take l.name-index l.goes)
