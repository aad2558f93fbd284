use Rattle.std.proofs.Common.{◌*◌, ◌+◌, ◌/◌, ◌<◌, ◌≤◌, ◌≡◌, arith, length, refl}
use Rattle.mp_main.specs.CommandLine.{pairs_of}
use Rattle.clap.specs.Walk.{texts}
use Rattle.mp_main.proofs.NamedFiles.{all_clients, client_more}
use Rattle.mp_main.proofs.command_line.asked.pair_up.Goals as goal

pub loop-client-init : goal.loop-client-init
loop-client-init c = rw (c.new-clients.ensures.items) refl

pub loop-client-preserved : goal.loop-client-preserved
loop-client-preserved c =
    let names = c.args.names.now in
    let at = c.loop-client.client in
    let before : at < length names / 2 = c.loop-client-test.true in
    let room : 2 * at + 1 < length names = omega (arith, before) in
    let next : 2 * (at + 1) ≡ 2 * at + 2 = omega arith in
    rw next (client_more names (2 * at) c.loop-client.clients.items c.push.new.self.items _ _ (pairs_of (texts names)) room
    c.in_ok-push.ensures.items c.loop-client.invariant)

pub returns : goal.returns
returns c =
    let names = c.args.names.now in
    let at = c.loop-client.client in
    let after : length names / 2 ≤ at = c.loop-client-test.false in
    let few : length names ≤ 2 * at + 1 = omega (arith, after) in
    all_clients names (2 * at) c.loop-client.clients.items (pairs_of (texts names)) few c.loop-client.invariant
