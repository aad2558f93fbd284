-- The progress of a run.
use Rattle.std.proofs.Common.{◌≡◌, ℕ, ◌+◌, ◌≤◌, List, [], ◌∷◌, ◌++◌, length, take, refl, sym, ap, subst, ◌∙◌, arith, append_assoc, append-nil, length-append}
use Rattle.std.specs.Prelude.{Option, None, Some, Result, Err}
use Rattle.std.specs.Io.KnownBytes.{Appends}
use Rattle.std.proofs.Math.Seq.{take-append_seam, take-append-add}
use Rattle.std.proofs.lemmas.List.{take-append-le}
use Rattle.mp_text.specs.Lines.{lines_of}
use Rattle.mp_text.specs.Output.{AppendsFront}
use Rattle.mp_answers.proofs.Appending.{Appends-nothing, Appends-more}
use Rattle.mp_names.specs.declared.fault.LineFault.{LineFault}
use Rattle.mp_names.specs.declared.fault.LineFault.TheVariants.{NoMemory, Bad}
use Rattle.mp_names.specs.Fault.{IsBad}
use Rattle.mp_signatures.specs.declared.scheme.Scheme.{Scheme}
use Rattle.mp_session.specs.declared.scene.Scene.{Scene}
use Rattle.mp_session.specs.Scene.{empty_scene, line_step, follow, outcome}
use Rattle.mp_session.specs.Ending.{outcome_of, fault_of, stop_of, AreDone, Answers, Ended}

-- the value of a result that is Ok
abbrev pub value_of : {X E : Type 0} → Result X E → Type 0
value_of {X} r = X

-- the effect of a good line on the outcome
good : (s t : Scene) (n : ℕ) (line answer : List ℕ) (more : List (List ℕ)) → line_step s line ≡ Some (t, answer) → outcome s n (line ∷ more) ≡ (answer ++ (outcome t (n + 1) more).0, (outcome t (n + 1) more).1)
good s t n line answer more e = ap (follow n (λ u. outcome u (n + 1) more)) e

module _ (scheme : Scheme) where
  -- The lines so far wrote a text, which the writer has, and which is a prefix of the text of all lines.
  pub record Progress (old now : Option (List ℕ)) (all rest : List (List ℕ)) (s : Scene) (n : ℕ) : Type 0 where
    pub lines : List (List ℕ)
    pub text : List ℕ
    pub whole : all ≡ lines ++ rest
    pub told : (more : List (List ℕ)) → outcome_of scheme (lines ++ more) ≡ (text ++ (outcome s n more).0, (outcome s n more).1)
    pub wrote : Appends old now text

  pub begins : (o : Option (List ℕ)) (all : List (List ℕ)) → Progress o o all all (empty_scene scheme) 1
  begins o all = record { lines = []; text = []; whole = refl; told = λ more. refl; wrote = Appends-nothing o }

  pub goes_on : (old now new : Option (List ℕ)) (all rest : List (List ℕ)) (s t : Scene) (n : ℕ) (line answer : List ℕ) → Progress old now all (line ∷ rest) s n → line_step s line ≡ Some (t, answer) → Appends now new answer
      → Progress old new all rest t (n + 1)
  goes_on old now new all rest s t n line answer p step more_written = record {
    lines = p.lines ++ line ∷ [];
    text = p.text ++ answer;
    whole = p.whole ∙ sym (append_assoc p.lines (line ∷ []) rest);
    told = λ more. ap (outcome_of scheme) (append_assoc p.lines (line ∷ []) more) ∙ p.told (line ∷ more) ∙ ap (λ o. (p.text ++ o.0, o.1)) (good s t n line answer more step)
        ∙ ap (λ x. (x, (outcome t (n + 1) more).1)) (sym (append_assoc p.text answer (outcome t (n + 1) more).0));
    wrote = Appends-more old now new p.text answer p.wrote more_written;
  }

  -- the lines so far
  stops : (old now : Option (List ℕ)) (all rest : List (List ℕ)) (s : Scene) (n : ℕ) → Progress old now all rest s n → (k : ℕ) × Answers scheme old now (take k all)
  stops old now all rest s n p =
      let front : take (length p.lines) all ≡ p.lines = ap (take (length p.lines)) p.whole ∙ take-append_seam p.lines rest in
      let e : outcome_of scheme (take (length p.lines) all) ≡ (p.text ++ [], None) = ap (outcome_of scheme) (front ∙ sym (append-nil p.lines)) ∙ p.told [] in (
        length p.lines,
        (subst (Appends old now) (sym (ap (λ o. o.0) e ∙ append-nil p.text)) p.wrote, ap (λ o. o.1) e),
      )

  -- a line that isn't answered
  pub halts : (X : Type 0) (bytes : List ℕ) (old now : Option (List ℕ)) (rest : List (List ℕ)) (s : Scene) (n : ℕ) (line : List ℕ) (fault : LineFault)
      → AreDone bytes → Progress old now (lines_of bytes) (line ∷ rest) s n → (IsBad {X = X} (Err fault) → line_step s line ≡ None)
      → Ended scheme bytes old now (Err (fault_of (stop_of n fault)))
  halts X bytes old now rest s n line NoMemory short p bad = stops old now (lines_of bytes) (line ∷ rest) s n p
  halts X bytes old now rest s n line (Bad reason) short p bad =
      let e : outcome_of scheme (lines_of bytes) ≡ (p.text ++ [], Some n) =
      ap (outcome_of scheme) p.whole ∙ p.told (line ∷ rest) ∙ ap (λ t. (p.text ++ (follow n (λ u. outcome u (n + 1) rest) t).0, (follow n (λ u. outcome u (n + 1) rest) t).1)) (bad tt) in
      (short, subst (Appends old now) (sym (ap (λ o. o.0) e ∙ append-nil p.text)) p.wrote, ap (λ o. o.1) e)

  -- a prefix of an answer
  pub is_cut : (old now new : Option (List ℕ)) (all rest : List (List ℕ)) (s t : Scene) (n : ℕ) (line answer : List ℕ) → Progress old now all (line ∷ rest) s n → line_step s line ≡ Some (t, answer) → AppendsFront now new answer
      → AppendsFront old new (outcome_of scheme all).0
  is_cut old now new all rest s t n line answer p step (taken, lt, w) =
      let others : List ℕ = (outcome t (n + 1) rest).0 in
      let e : (outcome_of scheme all).0 ≡ p.text ++ (answer ++ others) = ap (λ o. o.0) (ap (outcome_of scheme) p.whole ∙ p.told (line ∷ rest) ∙ ap (λ o. (p.text ++ o.0, o.1)) (good s t n line answer rest step)) in
      let le : taken ≤ length answer = omega arith in
      subst (AppendsFront old new) (sym e) (
        length p.text + taken,
        omega (arith, length-append p.text (answer ++ others), length-append answer others, lt),
        subst (Appends old new) (sym (take-append-add p.text (answer ++ others) taken ∙ ap (λ z. p.text ++ z) (take-append-le taken answer others le))) (Appends-more old now new p.text (take taken answer) p.wrote w),
      )
