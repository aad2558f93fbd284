-- What a pass over the operators of a script preserves.
use Rattle.std.proofs.Common.{◌≡◌, ℕ, zero, suc, ◌+◌, ◌*◌, ◌<◌, ◌≤◌, cond, leb, List, [], ◌∷◌, length, Some, Result, Ok, Err, refl, sym, ap, subst, ◌∙◌, arith}
use Rattle.std.specs.Prelude.{map}
use Rattle.mp_script.specs.declared.fault.ScriptFault.{ScriptFault}
use Rattle.mp_script.specs.declared.fault.ScriptFault.TheVariants.{TooDeep}
use Rattle.mp_bytes.specs.Reading.{◌>>=◌}
use Rattle.mp_script.specs.Operators.{Operator}
use Rattle.mp_script.specs.Operators as op
use Rattle.mp_script.specs.Script.{Tree, int, bytes, leaf, unary, binary, ternary, depth, Spells}
use Rattle.mp_script.specs.ScriptReading.{operator_read, alone, reads, made, put}
use Rattle.mp_script.specs.View.{View}
use Rattle.mp_script.specs.Value.{Value}
use Rattle.mp_script.specs.Meaning.{value}
use Rattle.mp_script.specs.Inside.Waiting.{arity, acts, Stands}
use Rattle.mp_bytes.proofs.Bytes.{bind_ok, ok_is, some_is}
use Rattle.mp_script.proofs.ScriptLaws.{spelled_is_read, guard_ok, never_long}

-- ---- what an operator makes

record Acts (s : View) (o : Operator) (waiting : List Tree) (x : Tree × List Tree) : Type 0 where
  operands : arity o ≤ length waiting
  values : acts s o (map (value s) waiting) ≡ Some (value s x.0 ∷ map (value s) x.1)

made_acts : (s : View) (o : Operator) (waiting : List Tree) (x : Tree × List Tree) → made o waiting ≡ Ok x → Acts s o waiting x
made_acts s (op.int n) waiting x e = subst (λ (y : Tree × List Tree). Acts s (op.int n) waiting y) (ok_is (int n, waiting) x e) (record { operands = omega arith; values = refl })
made_acts s (op.bytes b) waiting x e = subst (λ (y : Tree × List Tree). Acts s (op.bytes b) waiting y) (ok_is (bytes b, waiting) x e) (record { operands = omega arith; values = refl })
made_acts s (op.nullary o) waiting x e = subst (λ (y : Tree × List Tree). Acts s (op.nullary o) waiting y) (ok_is (leaf o, waiting) x e) (record { operands = omega arith; values = refl })
made_acts s (op.on_one o) [] x e = absurd cc
made_acts s (op.on_one o) (a ∷ waiting) x e = subst (λ (y : Tree × List Tree). Acts s (op.on_one o) (a ∷ waiting) y) (ok_is (unary o a, waiting) x e) (record { operands = omega arith; values = refl })
made_acts s (op.on_two o) [] x e = absurd cc
made_acts s (op.on_two o) (b ∷ []) x e = absurd cc
made_acts s (op.on_two o) (b ∷ a ∷ waiting) x e = subst (λ (y : Tree × List Tree). Acts s (op.on_two o) (b ∷ a ∷ waiting) y) (ok_is (binary o a b, waiting) x e) (record { operands = omega arith; values = refl })
made_acts s (op.on_three o) [] x e = absurd cc
made_acts s (op.on_three o) (c ∷ []) x e = absurd cc
made_acts s (op.on_three o) (c ∷ b ∷ []) x e = absurd cc
made_acts s (op.on_three o) (c ∷ b ∷ a ∷ waiting) x e = subst (λ (y : Tree × List Tree). Acts s (op.on_three o) (c ∷ b ∷ a ∷ waiting) y) (ok_is (ternary o a b c, waiting) x e) (record { operands = omega arith; values = refl })

-- ---- the size of the stack: at each depth, at most two precede a third

abbrev Held : List Tree → ℕ → Type 0
Held [] most = Unit {0}
Held (w ∷ waiting) most = (2 * depth w + length waiting ≤ 2 * most) × Held waiting most

made_held : (o : Operator) (waiting : List Tree) (most : ℕ) (x : Tree × List Tree) → made o waiting ≡ Ok x → Held (x.0 ∷ x.1) most → Held waiting most
made_held (op.int n) waiting most x e h = (subst (λ (y : Tree × List Tree). Held (y.0 ∷ y.1) most) (sym (ok_is (int n, waiting) x e)) h).1
made_held (op.bytes b) waiting most x e h = (subst (λ (y : Tree × List Tree). Held (y.0 ∷ y.1) most) (sym (ok_is (bytes b, waiting) x e)) h).1
made_held (op.nullary o) waiting most x e h = (subst (λ (y : Tree × List Tree). Held (y.0 ∷ y.1) most) (sym (ok_is (leaf o, waiting) x e)) h).1
made_held (op.on_one o) [] most x e h = tt
made_held (op.on_one o) (a ∷ waiting) most x e h =
    let g = subst (λ (y : Tree × List Tree). Held (y.0 ∷ y.1) most) (sym (ok_is (unary o a, waiting) x e)) h in
    (omega (arith, g.0), g.1)
made_held (op.on_two o) [] most x e h = tt
made_held (op.on_two o) (b ∷ []) most x e h = absurd cc
made_held (op.on_two o) (b ∷ a ∷ waiting) most x e h =
    let g = subst (λ (y : Tree × List Tree). Held (y.0 ∷ y.1) most) (sym (ok_is (binary o a b, waiting) x e)) h in
    (omega (arith, g.0), (omega (arith, g.0), g.1))
made_held (op.on_three o) [] most x e h = tt
made_held (op.on_three o) (c ∷ []) most x e h = absurd cc
made_held (op.on_three o) (c ∷ b ∷ []) most x e h = absurd cc
made_held (op.on_three o) (c ∷ b ∷ a ∷ waiting) most x e h =
    let g = subst (λ (y : Tree × List Tree). Held (y.0 ∷ y.1) most) (sym (ok_is (ternary o a b c, waiting) x e)) h in
    (omega (arith, g.0), (omega (arith, g.0), (omega (arith, g.0), g.1)))

alone_held : (waiting : List Tree) (t : Tree) → alone waiting ≡ Ok t → Held waiting (depth t)
alone_held [] t e = absurd cc
alone_held (w ∷ []) t e = (omega (arith, ap depth (ok_is w t e)), tt)
alone_held (w ∷ v ∷ waiting) t e = absurd cc

put_is : (o : Operator) (waiting next : List Tree) → put o waiting ≡ Ok next → (x : Tree × List Tree) × (made o waiting ≡ Ok x) × (x.0 ∷ x.1 ≡ next)
put_is o waiting next e =
    let b = bind_ok (made o waiting) (λ x. cond (leb (depth x.0) 64) (Ok (x.0 ∷ x.1)) (Err TooDeep)) next e in
    (b.0, b.1, (guard_ok (leb (depth b.0.0) 64) (b.0.0 ∷ b.0.1) next TooDeep b.2).1)

held : (room : ℕ) (waiting : List Tree) (rest : List ℕ) (t : Tree) → reads put room waiting rest ≡ Ok t → Held waiting (depth t)
held zero waiting [] t e = alone_held waiting t e
held zero waiting (code ∷ rest) t e = absurd (never_long (operator_read (code ∷ rest)) t e)
held (suc room) waiting [] t e = alone_held waiting t e
held (suc room) waiting (code ∷ rest) t e =
    let a = bind_ok (operator_read (code ∷ rest)) (λ o. put o.0 waiting >>= λ next. reads put room next o.1) t e in
    let b = bind_ok (put a.0.0 waiting) (λ next. reads put room next a.0.1) t a.2 in
    let p = put_is a.0.0 waiting b.0 b.1 in
    made_held a.0.0 waiting (depth t) p.0 p.1 (subst (λ (w : List Tree). Held w (depth t)) (sym p.2) (held room b.0 a.0.1 t b.2))

some_depth : (t : Tree) → 1 ≤ depth t
some_depth (int n) = omega arith
some_depth (bytes b) = omega arith
some_depth (leaf o) = omega arith
some_depth (unary o a) = omega arith
some_depth (binary o a b) = omega arith
some_depth (ternary o a b c) = omega arith

few_held : (waiting : List Tree) (most : ℕ) → most ≤ 64 → Held waiting most → length waiting < 128
few_held [] most shallow h = omega arith
few_held (w ∷ waiting) most shallow h = omega (arith, shallow, h.0, some_depth w)

length-map : (s : View) (waiting : List Tree) → length (map (value s) waiting) ≡ length waiting
length-map s [] = refl
length-map s (w ∷ waiting) = ap suc (length-map s waiting)

-- ---- from the first operator to the last

pub begins : (s : View) (text : List ℕ) (t : Tree) → Spells text t → Stands s t text []
begins s text t spells = record { room = 1024; waiting = []; reading = spelled_is_read text t spells; same = refl }

pub few_wait : (s : View) (t : Tree) (rest : List ℕ) (values : List Value) → depth t ≤ 64 → Stands s t rest values → length values < 128
few_wait s t rest values shallow stands =
    omega (arith, few_held stands.waiting (depth t) shallow (held stands.room stands.waiting rest t stands.reading), ap length stands.same, length-map s stands.waiting)

pub record Next (s : View) (t : Tree) (values : List Value) (x : Operator × List ℕ) : Type 0 where
  pub operands : arity x.0 ≤ length values
  pub after : (next : List Value) → acts s x.0 values ≡ Some next → Stands s t x.1 next

same_op : (r : Result (Operator × List ℕ) ScriptFault) (x y : Operator × List ℕ) → r ≡ Ok x → r ≡ Ok y → x ≡ y
same_op r x y e f = cc

next_of : (s : View) (t : Tree) (room : ℕ) (waiting next : List Tree) (x : Operator × List ℕ) (made : Tree × List Tree) → Acts s x.0 waiting made → made.0 ∷ made.1 ≡ next → reads put room next x.1 ≡ Ok t → Next s t (map (value s) waiting) x
next_of s t room waiting next x made m is reading = record {
  operands = omega (arith, m.operands, length-map s waiting);
  after = λ values g. record {
    room = room;
    waiting = next;
    reading = reading;
    same = some_is (acts s x.0 (map (value s) waiting)) values (map (value s) next) g (m.values ∙ ap (λ (w : List Tree). Some (map (value s) w)) is);
  };
}

goes_on : (s : View) (t : Tree) (room : ℕ) (waiting : List Tree) (rest : List ℕ) (x : Operator × List ℕ) → reads put room waiting rest ≡ Ok t → operator_read rest ≡ Ok x → Next s t (map (value s) waiting) x
unfolding operator_read
goes_on s t room waiting [] x e f = absurd cc
goes_on s t zero waiting (code ∷ rest) x e f = absurd (never_long (operator_read (code ∷ rest)) t e)
goes_on s t (suc room) waiting (code ∷ rest) x e f =
    let a = bind_ok (operator_read (code ∷ rest)) (λ o. put o.0 waiting >>= λ next. reads put room next o.1) t e in
    let b = bind_ok (put a.0.0 waiting) (λ next. reads put room next a.0.1) t a.2 in
    let p = put_is a.0.0 waiting b.0 b.1 in
    subst (λ (y : Operator × List ℕ). Next s t (map (value s) waiting) y) (same_op (operator_read (code ∷ rest)) a.0 x a.1 f) (next_of s t room waiting b.0 a.0 p.0 (made_acts s a.0.0 waiting p.0 p.1) p.2 b.2)

pub next_stands : (s : View) (t : Tree) (rest : List ℕ) (values : List Value) (x : Operator × List ℕ) → Stands s t rest values → operator_read rest ≡ Ok x → Next s t values x
next_stands s t rest values x stands e =
    subst (λ (v : List Value). Next s t v x) (sym stands.same) (goes_on s t stands.room stands.waiting rest x stands.reading e)

alone_ends : (s : View) (t : Tree) (waiting : List Tree) → alone waiting ≡ Ok t → map (value s) waiting ≡ value s t ∷ []
alone_ends s t [] e = absurd cc
alone_ends s t (w ∷ []) e = ap (λ (x : Tree). value s x ∷ []) (ok_is w t e)
alone_ends s t (w ∷ v ∷ waiting) e = absurd cc

no_next : {A : Type 0} (r : Result (Operator × List ℕ) ScriptFault) (f : ScriptFault) (g : Operator × List ℕ → Result A ScriptFault) (t : A) → r ≡ Err f → (r >>= g) ≡ Ok t → ⊥
no_next r f g t e h = absurd cc

ended : (s : View) (t : Tree) (room : ℕ) (waiting : List Tree) (rest : List ℕ) (f : ScriptFault) → reads put room waiting rest ≡ Ok t → operator_read rest ≡ Err f → map (value s) waiting ≡ value s t ∷ []
ended s t zero waiting [] f e g = alone_ends s t waiting e
ended s t (suc room) waiting [] f e g = alone_ends s t waiting e
ended s t zero waiting (code ∷ rest) f e g = absurd (no_next (operator_read (code ∷ rest)) f _ t g e)
ended s t (suc room) waiting (code ∷ rest) f e g = absurd (no_next (operator_read (code ∷ rest)) f _ t g e)
