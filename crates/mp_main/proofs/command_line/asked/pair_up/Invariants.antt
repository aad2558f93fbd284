use Rattle.std.proofs.Common.{◌≡◌, ◌*◌, ◌++◌, drop, map}
use Rattle.clap.specs.Walk.{texts}
use Rattle.mp_main.specs.CommandLine.{files_of, pairs_of}
use Rattle.mp_main.proofs.command_line.asked.pair_up.Given as goal

-- the clients so far, and those in the names that are left
abbrev pub invariant-loop-client : goal.invariant-loop-client
invariant-loop-client l =
    map files_of l.clients.items ++ pairs_of (drop (2 * l.client) (texts l.names)) ≡ pairs_of (texts l.names)
