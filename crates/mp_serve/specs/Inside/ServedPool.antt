-- How contracts see a served pool, and its invariant.
use Rattle.std.specs.Prelude.{◌≤◌, length}
use Rattle.mp_signatures.specs.Scheme.{accepted_by}
use Rattle.mp_serve.specs.declared.pool.ServedPool.TheInside.{Inside}
use Rattle.mp_serve.specs.ServedPool.{ServedPool}
use Rattle.mp_serve.specs.Inside.Pool.{IsReady}
use Rattle.mp_serve.specs.Inside.Former.{states_of, CanAllGoBack}

abbrev pub served_of : Inside → ServedPool
served_of p = record {
  pool = p.pool.pool;
  signatures = p.signatures;
  former = states_of p.former.items p.pool.pool.ledger;
  refused = p.refused;
  cursor = p.cursor;
}

-- it may make a change, and can return to each of its former ledger states, at most 2,160
pub record IsServed (p : Inside) : Type 0 where
  pub ready : IsReady (accepted_by p.signatures) p.pool.pool
  pub few : length p.former.items ≤ 2160
  pub can : CanAllGoBack p.former.items p.pool.pool.ledger
