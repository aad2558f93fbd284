use Rattle.std.proofs.Common.{◌≡◌, List, [], ◌∷◌, ◌++◌, sym, ap, subst, ◌∙◌}
use Rattle.std.specs.Prelude.{All, None}
use Rattle.std.specs.Vec.Iter.{into_iter_items, into_iter_steps}
use Rattle.std.specs.declared.vec.IntoIter.{IntoIter}
use Rattle.std.specs.Iterator.{Yields}
use Rattle.std.proofs.lemmas.List.Elements.{All-head, All-tail}
use Rattle.mp_history.specs.Caller.{Caller}
use Rattle.mp_mempool.proofs.opening.put_passes.Goals as goal

-- what the iterator has given precedes what it has left
given : {X A : Type 0} (s : IntoIter X A) (xs : List X) (t : IntoIter X A) → Yields into_iter_steps s xs t → into_iter_items s ≡ xs ++ into_iter_items t
given s [] t y = ap into_iter_items y
given s (x ∷ xs) t y = y.1.0 ∙ ap (λ ys. x ∷ ys) (given y.0 xs t y.2)

-- what holds for all holds for each
each : {X : Type 0} (P : X → Type 0) (xs : List X) (x : X) (rest : List X) → All P (xs ++ x ∷ rest) → P x
each P [] x rest all = All-head P x rest all
each P (y ∷ xs) x rest all = each P xs x rest (All-tail P y (xs ++ x ∷ rest) all)

pub put_pass-requires : goal.put_pass-requires
put_pass-requires g c =
    let start = c.into_iter-caller-iterator in
    let stands = sym start.ensures.into_iter_gives.0 ∙ given start.result c.loop-caller.yielded c.loop-caller.caller-iterator c.loop-caller.yielded_by
    ∙ ap (λ l. c.loop-caller.yielded ++ l) c.in-Some.ensures.steps.0 in
    each (λ (k : Caller). k.last ≡ None) c.loop-caller.yielded c.in-Some.caller (into_iter_items c.next.new.self)
    (subst (λ (l : List Caller). All (λ k. k.last ≡ None) l) stands c.requires.fresh)
