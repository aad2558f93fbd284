use Rattle.std.proofs.Common.{◌<◌, length, sym, ap, subst, ◌∙◌, arith}
use Rattle.mp_versions.specs.Version.{Version}
use Rattle.mp_versions.specs.Layout.{items_in}
use Rattle.mp_seqpool.specs.Prepared.{left_by}
use Rattle.mp_versions.proofs.Gone.{rising_left, given_left, bytes_left}
use Rattle.mp_versions.proofs.Counting.{counted}
use Rattle.mp_versions.proofs.version.Version.upon.Goals as goal

pub count_up_to-requires-clause-rising : goal.count_up_to-requires-clause-rising
count_up_to-requires-clause-rising c =
    rw (c.in_ok-rest.ensures.all) (rising_left c.args.reply.now (items_in c.self.inside.layout) c.self.invariant.rising)

pub count_up_to-requires-clause-given : goal.count_up_to-requires-clause-given
count_up_to-requires-clause-given c =
    rw (c.in_ok-rest.ensures.all) (given_left c.self.inside.last c.args.reply.now (items_in c.self.inside.layout) c.self.invariant.given)

pub invariant_of-result : goal.invariant_of-result
invariant_of-result c =
    let v = c.self.inside in
    let items = items_in v.layout in
    let rest = c.in_ok-rest.ensures in
    let left = left_by c.args.reply.now items in
    let bytes = rest.bytes in
    let fewer = bytes_left c.args.reply.now items in
    let most = c.self.invariant.most in
    let was = c.self.invariant.bytes in
    let change = subst (λ (w : Version). w.pool.changes < w.pool.limit) (sym c.self.view_is) c.requires in
    counted _ left rest.all rest.laid (rising_left c.args.reply.now items c.self.invariant.rising) (given_left v.last c.args.reply.now items c.self.invariant.given)
    (c.count_up_to.ensures ∙ ap length rest.all) bytes (omega (arith, bytes, fewer, most, was)) (omega (arith, change))
