use Rattle.std.proofs.Common.{◌≡◌, ◌+ℤ◌, drop}
use Rattle.mp_bundle.specs.declared.token.Token.{Token}
use Rattle.mp_bundle.specs.Bundle.{quantity_of}
use Rattle.mp_bundle.specs.Inside.Totals.{HasRoom}
use Rattle.mp_bundle.proofs.totals.raise_all.Given as goal

-- the totals so far and the remaining quantities make the final totals
abbrev pub invariant-loop-token : goal.invariant-loop-token
invariant-loop-token l = record {
  totals : (token : Token) → quantity_of l.totals.entries token +ℤ quantity_of (drop l.token-index l.entries) token ≡ quantity_of l.fn.totals.entries token +ℤ quantity_of l.fn.entries token;
  room : HasRoom l.totals l.entries;
}
