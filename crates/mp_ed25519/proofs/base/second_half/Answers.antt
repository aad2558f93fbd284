use Rattle.std.proofs.Common.{arith, ◌∙◌, ◌≤◌, length, drop, length-drop}
use Rattle.std.proofs.lemmas.List.{take_all}
use Rattle.mp_ed25519.proofs.base.second_half.Goals as goal

pub returns : goal.returns
returns c =
    let all : length (drop 32 c.args.signature.now) ≤ 32 = omega (arith, length-drop 32 c.args.signature.now) in
    c.copy_from_slice.ensures.after ∙ take_all 32 (drop 32 c.args.signature.now) all
