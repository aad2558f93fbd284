use Rattle.std.proofs.Common.{◌++◌, ◌∷◌, [], sym, subst}
use Rattle.mp_race.specs.Inside.Gathered.{AreGathered}
use Rattle.mp_race.proofs.Explaining.{one_more}
use Rattle.mp_race.proofs.gathering.Gathered.add.Goals as goal

pub returns-clause-gathered : goal.returns-clause-gathered
returns-clause-gathered g c = λ opening ts is h.
    let accepts = g.N.PoolName.accepts in
    let callers = g.N.PoolName.callers in
    let a = c.args.self.front in
    let b = c.longer-front.result in
    let ps = c.args.self.passes.items in
    let ds = c.args.self.done.items in
    let p = c.args.worker.pass in
    let es = c.args.worker.done.items in
    let rs = c.args.self.refused.items in
    let ss = c.args.worker.refused.items in
    subst (λ l. AreGathered accepts callers opening ts b l c.append.new.self.items c.append-2.new.self.items) (sym c.in_ok-push.ensures.items) (
    subst (λ l. AreGathered accepts callers opening ts b (ps ++ p ∷ []) l c.append-2.new.self.items) (sym c.in_ok-append.ensures.items) (
    subst (AreGathered accepts callers opening ts b (ps ++ p ∷ []) (ds ++ es)) (sym c.in_ok-append-2.ensures.items)
    (one_more accepts callers opening ts a b ps ds es rs ss p c.longer-front.ensures.this c.longer-front.ensures.that (c.longer-front.ensures.legal is.legal) is h)
    )
    )
