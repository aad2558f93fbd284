-- What is read has this spelling, and what has this spelling is read.
use Rattle.std.proofs.Common.{◌≡◌, ℕ, zero, suc, ◌+◌, ◌-◌, ◌≤◌, Bool, true, false, cond, leb, max, List, [], ◌∷◌, ◌++◌, length, Result, Ok, Err, refl, sym, ap, subst, ◌∙◌, append_assoc, arith}
use Rattle.std.specs.Prelude.{map, OnOk}
use Rattle.std.proofs.lemmas.Bool.{leb-true, le-leb}
use Rattle.std.proofs.lemmas.List.{append-nil}
use Rattle.mp_script.specs.declared.fault.ScriptFault.{ScriptFault}
use Rattle.mp_script.specs.declared.fault.ScriptFault.TheVariants.{NoMemory, TooLong, TooDeep}
use Rattle.mp_bytes.specs.Reading.{◌>>=◌, seen}
use Rattle.mp_script.specs.Operators.{Operator}
use Rattle.mp_script.specs.Operators as op
use Rattle.mp_script.specs.Script.{Tree, int, bytes, leaf, unary, binary, ternary, depth, size, Fits, spelling, Spells, IsScript}
use Rattle.mp_script.specs.ScriptReading.{operator_read, alone, reads, made, put, script_of}
use Rattle.mp_script.specs.Inside.Depths.{put_depth}
use Rattle.mp_bytes.proofs.Bytes.{IsBytes, bind_ok, ok_is}
use Rattle.mp_script.proofs.OperatorLaws.{op_bytes, OpFits, operator_was, operator_again}

-- ---- depths alone

seen_cond : {X A : Type 0} (f : X → A) (b : Bool) (x : X) (e : ScriptFault) → cond b (Ok (f x)) (Err e) ≡ seen f (cond b (Ok x) (Err e))
seen_cond f true x e = refl
seen_cond f false x e = refl

put_of_depths : (o : Operator) (waiting : List Tree) → put_depth o (map depth waiting) ≡ seen (map depth) (put o waiting)
put_of_depths (op.int n) waiting = refl
put_of_depths (op.bytes b) waiting = refl
put_of_depths (op.nullary o) waiting = refl
put_of_depths (op.on_one o) [] = refl
put_of_depths (op.on_one o) (a ∷ waiting) = seen_cond (map depth) (leb (suc (depth a)) 64) (unary o a ∷ waiting) TooDeep
put_of_depths (op.on_two o) [] = refl
put_of_depths (op.on_two o) (b ∷ []) = refl
put_of_depths (op.on_two o) (b ∷ a ∷ waiting) = seen_cond (map depth) (leb (suc (max (depth a) (depth b))) 64) (binary o a b ∷ waiting) TooDeep
put_of_depths (op.on_three o) [] = refl
put_of_depths (op.on_three o) (c ∷ []) = refl
put_of_depths (op.on_three o) (c ∷ b ∷ []) = refl
put_of_depths (op.on_three o) (c ∷ b ∷ a ∷ waiting) = seen_cond (map depth) (leb (suc (max (depth a) (max (depth b) (depth c)))) 64) (ternary o a b c ∷ waiting) TooDeep

alone_of_depths : (waiting : List Tree) → alone (map depth waiting) ≡ seen depth (alone waiting)
alone_of_depths [] = refl
alone_of_depths (w ∷ []) = refl
alone_of_depths (w ∷ v ∷ waiting) = refl

too_long : (r : Result (Operator × List ℕ) ScriptFault) → (r >>= λ o. Err TooLong) ≡ seen depth (r >>= λ o. Err TooLong)
too_long (Ok o) = refl
too_long (Err e) = refl

abbrev ReadsDepths : ℕ → Type 0
ReadsDepths room = (waiting : List Tree) (text : List ℕ) → reads put_depth room (map depth waiting) text ≡ seen depth (reads put room waiting text)

after_put : (room : ℕ) → ReadsDepths room → (p : Result (List Tree) ScriptFault) (text : List ℕ) → (seen (map depth) p >>= λ next. reads put_depth room next text) ≡ seen depth (p >>= λ next. reads put room next text)
after_put room more (Ok next) text = more next text
after_put room more (Err e) text = refl

after_op : (room : ℕ) → ReadsDepths room → (waiting : List Tree) (r : Result (Operator × List ℕ) ScriptFault) → (r >>= λ o. put_depth o.0 (map depth waiting) >>= λ next. reads put_depth room next o.1) ≡ seen depth (r >>= λ o. put o.0 waiting >>= λ next. reads put room next o.1)
after_op room more waiting (Ok o) = ap (λ p. p >>= λ next. reads put_depth room next o.1) (put_of_depths o.0 waiting) ∙ after_put room more (put o.0 waiting) o.1
after_op room more waiting (Err e) = refl

pub reads_depths : (room : ℕ) → ReadsDepths room
reads_depths zero waiting [] = alone_of_depths waiting
reads_depths zero waiting (code ∷ text) = too_long (operator_read (code ∷ text))
reads_depths (suc room) waiting [] = alone_of_depths waiting
reads_depths (suc room) waiting (code ∷ text) = after_op room (reads_depths room) waiting (operator_read (code ∷ text))

-- ---- the end of a walk over depths

alone_there : {W : Type 0} (waiting : List W) → length waiting ≡ 1 → (w : W) × (alone waiting ≡ Ok w)
alone_there [] one = absurd (omega (arith, one))
alone_there (w ∷ []) one = (w, refl)
alone_there (w ∷ v ∷ waiting) one = absurd (omega (arith, one))

pub reading_ends : (room : ℕ) (depths rest : List ℕ) (total : Result ℕ ScriptFault) → length rest ≡ 0 → length depths ≡ 1 → reads put_depth room depths rest ≡ total → (d : ℕ) × (total ≡ Ok d)
reading_ends room depths [] total none one e =
    let a = alone_there depths one in
    (a.0, sym e ∙ a.1)
reading_ends room depths (b ∷ rest) total none one e = absurd (omega (arith, none))

-- ---- what is read has this spelling

-- the stack, as its expressions were read
abbrev spelled : List Tree → List ℕ
spelled [] = []
spelled (w ∷ waiting) = spelled waiting ++ spelling w

abbrev sizes : List Tree → ℕ
sizes [] = 0
sizes (w ∷ waiting) = sizes waiting + size w

abbrev AllGood : List Tree → Type 0
AllGood [] = Unit {0}
AllGood (w ∷ waiting) = Fits w × (depth w ≤ 64) × AllGood waiting

record WasMade (o : Operator) (waiting : List Tree) (x : Tree × List Tree) : Type 0 where
  text : spelled waiting ++ op_bytes o ≡ spelled x.1 ++ spelling x.0
  number : sizes x.1 + size x.0 ≡ suc (sizes waiting)
  fits : Fits x.0
  good : AllGood x.1

three : (w a b c : List ℕ) → ((w ++ a) ++ b) ++ c ≡ w ++ ((a ++ b) ++ c)
three w a b c = ap (λ (x : List ℕ). x ++ c) (append_assoc w a b) ∙ append_assoc w (a ++ b) c

four : (w a b c d : List ℕ) → (((w ++ a) ++ b) ++ c) ++ d ≡ w ++ (((a ++ b) ++ c) ++ d)
four w a b c d = ap (λ (x : List ℕ). x ++ d) (three w a b c) ∙ append_assoc w ((a ++ b) ++ c) d

was_made : (o : Operator) (waiting : List Tree) (x : Tree × List Tree) → OpFits o → AllGood waiting → made o waiting ≡ Ok x → WasMade o waiting x
was_made (op.int n) waiting x fits good e = subst (λ (y : Tree × List Tree). WasMade (op.int n) waiting y) (ok_is (int n, waiting) x e) (record { text = refl; number = omega arith; fits = fits; good = good })
was_made (op.bytes b) waiting x fits good e = subst (λ (y : Tree × List Tree). WasMade (op.bytes b) waiting y) (ok_is (bytes b, waiting) x e) (record { text = refl; number = omega arith; fits = fits; good = good })
was_made (op.nullary o) waiting x fits good e = subst (λ (y : Tree × List Tree). WasMade (op.nullary o) waiting y) (ok_is (leaf o, waiting) x e) (record { text = refl; number = omega arith; fits = tt; good = good })
was_made (op.on_one o) [] x fits good e = absurd cc
was_made (op.on_one o) (a ∷ waiting) x fits good e = subst (λ (y : Tree × List Tree). WasMade (op.on_one o) (a ∷ waiting) y) (ok_is (unary o a, waiting) x e) (record { text = append_assoc (spelled waiting) (spelling a) _; number = omega arith; fits = good.0; good = good.2 })
was_made (op.on_two o) [] x fits good e = absurd cc
was_made (op.on_two o) (b ∷ []) x fits good e = absurd cc
was_made (op.on_two o) (b ∷ a ∷ waiting) x fits good e = subst (λ (y : Tree × List Tree). WasMade (op.on_two o) (b ∷ a ∷ waiting) y) (ok_is (binary o a b, waiting) x e) (record { text = three (spelled waiting) (spelling a) (spelling b) _; number = omega arith; fits = (good.2.0, good.0); good = good.2.2 })
was_made (op.on_three o) [] x fits good e = absurd cc
was_made (op.on_three o) (c ∷ []) x fits good e = absurd cc
was_made (op.on_three o) (c ∷ b ∷ []) x fits good e = absurd cc
was_made (op.on_three o) (c ∷ b ∷ a ∷ waiting) x fits good e = subst (λ (y : Tree × List Tree). WasMade (op.on_three o) (c ∷ b ∷ a ∷ waiting) y) (ok_is (ternary o a b c, waiting) x e) (record { text = four (spelled waiting) (spelling a) (spelling b) (spelling c) _; number = omega arith; fits = (good.2.2.0, good.2.0, good.0); good = good.2.2.2 })

pub guard_ok : {A : Type 0} (b : Bool) (x y : A) (f : ScriptFault) → cond b (Ok x) (Err f) ≡ Ok y → (b ≡ true) × (x ≡ y)
guard_ok true x y f e = (refl, ok_is x y e)
guard_ok false x y f e = absurd cc

record WasPut (o : Operator) (waiting next : List Tree) : Type 0 where
  text : spelled waiting ++ op_bytes o ≡ spelled next
  number : sizes next ≡ suc (sizes waiting)
  good : AllGood next

was_put : (o : Operator) (waiting next : List Tree) → OpFits o → AllGood waiting → put o waiting ≡ Ok next → WasPut o waiting next
was_put o waiting next fits good e =
    let b = bind_ok (made o waiting) (λ x. cond (leb (depth x.0) 64) (Ok (x.0 ∷ x.1)) (Err TooDeep)) next e in
    let m = was_made o waiting b.0 fits good b.1 in
    let g = guard_ok (leb (depth b.0.0) 64) (b.0.0 ∷ b.0.1) next TooDeep b.2 in
    subst (λ (y : List Tree). WasPut o waiting y) g.1 (record { text = m.text; number = m.number; good = (m.fits, leb-true _ _ g.0, m.good) })

record WasRead (room : ℕ) (waiting : List Tree) (text : List ℕ) (t : Tree) : Type 0 where
  joined : spelled waiting ++ text ≡ spelling t
  short : size t ≤ sizes waiting + room
  fits : Fits t
  shallow : depth t ≤ 64

alone_read : (room : ℕ) (waiting : List Tree) (t : Tree) → AllGood waiting → alone waiting ≡ Ok t → WasRead room waiting [] t
alone_read room [] t good e = absurd cc
alone_read room (w ∷ []) t good e = subst (λ (y : Tree). WasRead room (w ∷ []) [] y) (ok_is w t e) (record { joined = append-nil (spelling w); short = omega arith; fits = good.0; shallow = good.1 })
alone_read room (w ∷ v ∷ waiting) t good e = absurd cc

pub never_long : (r : Result (Operator × List ℕ) ScriptFault) (t : Tree) → (r >>= λ o. Err TooLong) ≡ Ok t → ⊥
never_long (Ok o) t e = absurd cc
never_long (Err f) t e = absurd cc

was_read : (room : ℕ) (waiting : List Tree) (text : List ℕ) (t : Tree) → IsBytes text → AllGood waiting → reads put room waiting text ≡ Ok t → WasRead room waiting text t
was_read zero waiting [] t fits good e = alone_read zero waiting t good e
was_read zero waiting (code ∷ text) t fits good e = absurd (never_long (operator_read (code ∷ text)) t e)
was_read (suc room) waiting [] t fits good e = alone_read (suc room) waiting t good e
was_read (suc room) waiting (code ∷ text) t fits good e =
    let a = bind_ok (operator_read (code ∷ text)) (λ o. put o.0 waiting >>= λ next. reads put room next o.1) t e in
    let b = bind_ok (put a.0.0 waiting) (λ next. reads put room next a.0.1) t a.2 in
    let o = operator_was (code ∷ text) a.0 fits a.1 in
    let p = was_put a.0.0 waiting b.0 o.fits good b.1 in
    let r = was_read room b.0 a.0.1 t o.takes.rest_fits p.good b.2 in
    record {
      joined = ap (λ (x : List ℕ). spelled waiting ++ x) o.takes.parts ∙ sym (append_assoc (spelled waiting) (op_bytes a.0.0) a.0.1) ∙ ap (λ (x : List ℕ). x ++ a.0.1) p.text ∙ r.joined;
      short = omega (arith, r.short, p.number);
      fits = r.fits;
      shallow = r.shallow;
    }

pub read_is_spelled : (text : List ℕ) (t : Tree) → IsBytes text → script_of text ≡ Ok t → Spells text t
read_is_spelled text t fits e =
    let r = was_read 1024 [] text t fits tt e in
    record { fits = r.fits; short = omega (arith, r.short); shallow = r.shallow; spelled = r.joined }

-- ---- and what has this spelling is read

opened : (o : Operator) (room : ℕ) (waiting : List Tree) (rest : List ℕ) → reads put (suc room) waiting (op_bytes o ++ rest) ≡ (operator_read (op_bytes o ++ rest) >>= λ x. put x.0 waiting >>= λ next. reads put room next x.1)
opened (op.int n) room waiting rest = refl
opened (op.bytes b) room waiting rest = refl
opened (op.nullary o) room waiting rest = refl
opened (op.on_one o) room waiting rest = refl
opened (op.on_two o) room waiting rest = refl
opened (op.on_three o) room waiting rest = refl

one_step : (o : Operator) (room : ℕ) (waiting next : List Tree) (rest : List ℕ) → OpFits o → put o waiting ≡ Ok next → reads put (suc room) waiting (op_bytes o ++ rest) ≡ reads put room next rest
one_step o room waiting next rest fits e =
    opened o room waiting rest
    ∙ ap (λ r. r >>= λ x. put x.0 waiting >>= λ next. reads put room next x.1) (operator_again o rest fits)
    ∙ ap (λ p. p >>= λ next. reads put room next rest) e

kept : (t : Tree) (waiting : List Tree) → depth t ≤ 64 → cond (leb (depth t) 64) (Ok (t ∷ waiting)) (Err TooDeep) ≡ Ok (t ∷ waiting)
kept t waiting shallow = rw (le-leb (depth t) 64 shallow) refl

regrouped : (n m : ℕ) (waiting : List Tree) (text other : List ℕ) → n ≡ m → text ≡ other → reads put n waiting text ≡ reads put m waiting other
regrouped n m waiting text other e f = ap (λ (k : ℕ). reads put k waiting text) e ∙ ap (reads put m waiting) f

tree_again : (t : Tree) (room : ℕ) (waiting : List Tree) (rest : List ℕ) → Fits t → depth t ≤ 64 → reads put (size t + room) waiting (spelling t ++ rest) ≡ reads put room (t ∷ waiting) rest
tree_again (int n) room waiting rest fits shallow =
    regrouped (1 + room) (suc room) waiting (spelling (int n) ++ rest) (spelling (int n) ++ rest) (omega arith) refl ∙ one_step (op.int n) room waiting (int n ∷ waiting) rest fits refl
tree_again (bytes b) room waiting rest fits shallow =
    regrouped (1 + room) (suc room) waiting (spelling (bytes b) ++ rest) (spelling (bytes b) ++ rest) (omega arith) refl ∙ one_step (op.bytes b) room waiting (bytes b ∷ waiting) rest fits refl
tree_again (leaf o) room waiting rest fits shallow =
    regrouped (1 + room) (suc room) waiting (spelling (leaf o) ++ rest) (spelling (leaf o) ++ rest) (omega arith) refl ∙ one_step (op.nullary o) room waiting (leaf o ∷ waiting) rest tt refl
tree_again (unary o a) room waiting rest fits shallow =
    let code : List ℕ = op_bytes (op.on_one o) in
    regrouped (size (unary o a) + room) (size a + suc room) waiting _ (spelling a ++ (code ++ rest)) (omega arith) (append_assoc (spelling a) code rest)
    ∙ tree_again a (suc room) waiting (code ++ rest) fits (omega (arith, shallow))
    ∙ one_step (op.on_one o) room (a ∷ waiting) (unary o a ∷ waiting) rest tt (kept (unary o a) waiting shallow)
tree_again (binary o a b) room waiting rest fits shallow =
    let code : List ℕ = op_bytes (op.on_two o) in
    regrouped (size (binary o a b) + room) (size a + (size b + suc room)) waiting _ (spelling a ++ (spelling b ++ (code ++ rest))) (omega arith) (append_assoc (spelling a ++ spelling b) code rest ∙ append_assoc (spelling a) (spelling b) (code ++ rest))
    ∙ tree_again a (size b + suc room) waiting (spelling b ++ (code ++ rest)) fits.0 (omega (arith, shallow))
    ∙ tree_again b (suc room) (a ∷ waiting) (code ++ rest) fits.1 (omega (arith, shallow))
    ∙ one_step (op.on_two o) room (b ∷ a ∷ waiting) (binary o a b ∷ waiting) rest tt (kept (binary o a b) waiting shallow)
tree_again (ternary o a b c) room waiting rest fits shallow =
    let code : List ℕ = op_bytes (op.on_three o) in
    regrouped (size (ternary o a b c) + room) (size a + (size b + (size c + suc room))) waiting _ (spelling a ++ (spelling b ++ (spelling c ++ (code ++ rest)))) (omega arith) (append_assoc ((spelling a ++ spelling b) ++ spelling c) code rest ∙ append_assoc (spelling a ++ spelling b) (spelling c) (code ++ rest) ∙ append_assoc (spelling a) (spelling b) (spelling c ++ (code ++ rest)))
    ∙ tree_again a (size b + (size c + suc room)) waiting (spelling b ++ (spelling c ++ (code ++ rest))) fits.0 (omega (arith, shallow))
    ∙ tree_again b (size c + suc room) (a ∷ waiting) (spelling c ++ (code ++ rest)) fits.1 (omega (arith, shallow))
    ∙ tree_again c (suc room) (b ∷ a ∷ waiting) (code ++ rest) fits.2 (omega (arith, shallow))
    ∙ one_step (op.on_three o) room (c ∷ b ∷ a ∷ waiting) (ternary o a b c ∷ waiting) rest tt (kept (ternary o a b c) waiting shallow)

room_left : (n : ℕ) → n ≤ 1024 → 1024 ≡ n + (1024 - n)
room_left n h = omega arith

alone_again : (room : ℕ) (t : Tree) → reads put room (t ∷ []) [] ≡ Ok t
alone_again zero t = refl
alone_again (suc room) t = refl

pub spelled_is_read : (text : List ℕ) (t : Tree) → Spells text t → script_of text ≡ Ok t
spelled_is_read text t s =
    regrouped 1024 (size t + (1024 - size t)) [] text (spelling t ++ []) (room_left (size t) s.short) (s.spelled ∙ sym (append-nil (spelling t)))
    ∙ tree_again t (1024 - size t) [] [] s.fits s.shallow
    ∙ alone_again (1024 - size t) t

-- ---- what a walk over depths says of the script

seen_ok : (r : Result Tree ScriptFault) (d : ℕ) → seen depth r ≡ Ok d → (t : Tree) × (r ≡ Ok t)
seen_ok (Ok t) d e = (t, refl)
seen_ok (Err f) d e = absurd cc

seen_err : (r : Result Tree ScriptFault) (f : ScriptFault) → seen depth r ≡ Err f → r ≡ Err f
seen_err (Ok t) f e = absurd cc
seen_err (Err g) f e = cc

pub depths_are_script : (text : List ℕ) (d : ℕ) → IsBytes text → reads put_depth 1024 [] text ≡ Ok d → IsScript text
depths_are_script text d fits e =
    let r = seen_ok (script_of text) d (sym (reads_depths 1024 [] text) ∙ e) in
    (r.0, read_is_spelled text r.0 fits r.1)

pub depths_are_refused : (text : List ℕ) (f : ScriptFault) → reads put_depth 1024 [] text ≡ Err f → script_of text ≡ Err f
depths_are_refused text f e = seen_err (script_of text) f (sym (reads_depths 1024 [] text) ∙ e)

refused : (t : Tree) (f : ScriptFault) (r : Result Tree ScriptFault) → r ≡ Ok t → r ≡ Err f → f ≡ NoMemory
refused t f r e g = absurd cc

-- only an allocation failure can refuse text that spells a script
pub spelled_is_not_refused : (f : ScriptFault) (text : List ℕ) (t : Tree) → Spells text t → script_of text ≡ Err f → f ≡ NoMemory
spelled_is_not_refused f text t s e = refused t f (script_of text) (spelled_is_read text t s) e

pub on_ok : {T E : Type 0} (r : Result T E) (P Q : Type 0) → (P → Q) → OnOk r P → OnOk r Q
on_ok (Ok x) P Q f p = f p
on_ok (Err e) P Q f p = p
