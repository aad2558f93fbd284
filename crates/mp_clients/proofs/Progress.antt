-- How far a conversation has come, by any steps.
use Rattle.std.proofs.Common.{◌≡◌, ℕ, suc, ◌+◌, ◌-◌, ◌^◌, List, [], ◌∷◌, ◌++◌, length, take, refl, sym, ap, subst, ◌∙◌, arith, append_assoc, append-nil, length-append}
use Rattle.std.specs.Prelude.{Option, None, Some, IfSome, Result, Ok, Err}
use Rattle.std.specs.Io.KnownBytes.{Appends, IsAtEnd}
use Rattle.std.specs.Io.BufRead.{drop_through, DropsThrough}
use Rattle.std.proofs.Math.Seq.{take-append_seam, take-append-add}
use Rattle.mp_text.specs.Lines.{lines_of}
use Rattle.mp_text.specs.declared.line_input.LineRead.{LineRead}
use Rattle.mp_text.specs.declared.line_input.LineRead.TheVariants.{Whole, TooLong, Lost, End}
use Rattle.mp_text.specs.LineInput.{IsLine, first_line}
use Rattle.mp_answers.proofs.Appending.{Appends-nothing, Appends-more}
use Rattle.mp_serve.proofs.Lines.{first_through}
use Rattle.mp_serve.specs.Served.{AppendsUpTo}
use Rattle.mp_clients.specs.declared.fault.ClientFault.{ClientFault}
use Rattle.mp_clients.specs.declared.fault.ClientFault.TheVariants.{NoMemory, ReadFault, WriteFault, ManyLines, Foreign, Untold}
use Rattle.mp_clients.specs.Told.{AreTold, WereTold, WasCut, Ended}
use Rattle.mp_clients.specs.Inside.Before.{IsFirst}

-- if a line was read, there was one
pub some_line : (limit : ℕ) (bytes : List ℕ) (found : LineRead) (kept : List ℕ) → (found ≡ End → ⊥) → IsLine limit bytes found kept → bytes ≡ [] → ⊥
some_line limit bytes End kept other line none = other refl
some_line limit bytes Whole kept other line none = line.0 none
some_line limit [] TooLong kept other line none = omega (arith, line)
some_line limit (x ∷ xs) TooLong kept other line none = Prim.cc
some_line limit bytes Lost kept other line none = line none

module _ {S : Type 0} (Step : S → List ℕ → List ℕ → S → Type 0) where
  pub told-more : (s : S) (lines : List (List ℕ)) (text : List ℕ) (t : S) (line answer : List ℕ) (u : S)
      → AreTold Step s lines text t → Step t line answer u → AreTold Step s (lines ++ line ∷ []) (text ++ answer) u
  told-more s [] text t line answer u (none, same) is = (
    answer,
    [],
    u,
    ap (λ l. l ++ answer) none ∙ sym (append-nil answer),
    subst (λ v. Step v line answer u) same is,
    (refl, refl),
  )
  told-more s (l ∷ ls) text t line answer u (first, rest, v, whole, told, more) is = (
    first,
    rest ++ answer,
    v,
    ap (λ x. x ++ answer) whole ∙ append_assoc first rest answer,
    told,
    told-more v ls rest t line answer u more is,
  )

  -- The lines so far were answered, and the writer got exactly the answers.
  pub record Progress (g : S) (old now : Option (List ℕ)) (all rest : List (List ℕ)) (s : S) (n : ℕ) : Type 0 where
    pub lines : List (List ℕ)
    pub text : List ℕ
    pub whole : all ≡ lines ++ rest
    pub told : AreTold Step g lines text s
    pub wrote : Appends old now text
    pub count : n ≡ length lines + 1

  begins : (g : S) (o : Option (List ℕ)) (all : List (List ℕ)) (s : S) (n : ℕ) → s ≡ g → n ≡ 1 → Progress g o o all all s n
  begins g o all s n e one = record { lines = []; text = []; whole = refl; told = (refl, e); wrote = Appends-nothing o; count = one }

  module _ (g : S) (old now : Option (List ℕ)) (all rest : List (List ℕ)) (s : S) (n : ℕ) where
    -- one more line
    goes_on : (new : Option (List ℕ)) (u : S) (line answer : List ℕ) → Progress g old now all (line ∷ rest) s n → Step s line answer u → Appends now new answer → Progress g old new all rest u (n + 1)
    goes_on new u line answer p is w = record {
      lines = p.lines ++ line ∷ [];
      text = p.text ++ answer;
      whole = p.whole ∙ sym (append_assoc p.lines (line ∷ []) rest);
      told = told-more g p.lines p.text s line answer u p.told is;
      wrote = Appends-more old now new p.text answer p.wrote w;
      count = let c = p.count in let l = length-append p.lines (line ∷ []) in omega (arith, c, l);
    }

    -- these lines were answered
    stopped : (p : Progress g old now all rest s n) → WereTold Step g old now (take (length p.lines) all) s
    stopped p =
        let front : take (length p.lines) all ≡ p.lines = ap (take (length p.lines)) p.whole ∙ take-append_seam p.lines rest in
        (p.text, subst (λ l. AreTold Step g l p.text s) (sym front) p.told, p.wrote)

    -- a prefix of an answer was written, perhaps all of it
    is_cut : (new : Option (List ℕ)) (u : S) (line answer : List ℕ) → Progress g old now all (line ∷ rest) s n → Step s line answer u → AppendsUpTo now new answer → WasCut Step g old new all u
    is_cut new u line answer p is (taken, w) =
        let done : List (List ℕ) = p.lines ++ line ∷ [] in
        let front : take (length done) all ≡ done = ap (take (length done)) (p.whole ∙ sym (append_assoc p.lines (line ∷ []) rest)) ∙ take-append_seam done rest in
        let told : AreTold Step g done (p.text ++ answer) u = told-more g p.lines p.text s line answer u p.told is in (
          length done,
          p.text ++ answer,
          subst (λ l. AreTold Step g l (p.text ++ answer) u) (sym front) told,
          (length p.text + taken, subst (Appends old new) (sym (take-append-add p.text answer taken)) (Appends-more old now new p.text (take taken answer) p.wrote w)),
        )

  -- The lines that were read from known bytes were answered, and those of the bytes that are left weren't read.
  abbrev pub Stands : S → Option (List ℕ) → Option (List ℕ) → Option (List ℕ) → Option (List ℕ) → S → ℕ → Type 0
  Stands g all left old now s n =
      IfSome all (λ bytes. (rest : List ℕ) × (left ≡ Some rest) × Progress g old now (lines_of bytes) (lines_of rest) s n)

  pub stands-first : (g : S) (all old : Option (List ℕ)) (s : S) (n : ℕ) → s ≡ g → n ≡ 1 → Stands g all all old old s n
  stands-first g None old s n e one = tt
  stands-first g (Some bytes) old s n e one = (bytes, refl, begins g old (lines_of bytes) s n e one)

  module _ (Breaks : S → S → ClientFault → Type 0) where
    -- the conversation breaks off, after these lines
    pub broken : (g : S) (lines : List (List ℕ)) (old now : Option (List ℕ)) (k : ℕ) (s u : S) (fault : ClientFault)
        → ((f : ClientFault) → Breaks s u f → (f ≡ Foreign → ⊥) → f ≡ Untold)
        → WereTold Step g old now (take k lines) s → Breaks s u fault → Ended Step Breaks g lines old now (Err fault) u
    broken g lines old now k s u Foreign only were b = (k, s, were, b)
    broken g lines old now k s u Untold only were b = (k, s, were, b)
    broken g lines old now k s u NoMemory only were b = absurd (let e = only NoMemory b (λ x. Prim.cc) in Prim.cc)
    broken g lines old now k s u ReadFault only were b = absurd (let e = only ReadFault b (λ x. Prim.cc) in Prim.cc)
    broken g lines old now k s u WriteFault only were b = absurd (let e = only WriteFault b (λ x. Prim.cc) in Prim.cc)
    broken g lines old now k s u ManyLines only were b = absurd (let e = only ManyLines b (λ x. Prim.cc) in Prim.cc)

    -- it goes on after its first line
    module _ (s v u : S) (line first : List ℕ) (lines : List (List ℕ)) (old now new : Option (List ℕ)) (is : Step s line first v) (w : Appends old now first) where
      more_told : (k : ℕ) → WereTold Step v now new (take k lines) u → WereTold Step s old new (line ∷ take k lines) u
      more_told k (text, told, wrote) = (first ++ text, (first, text, v, refl, is, told), Appends-more old now new first text w wrote)

      more_broken : (k : ℕ) (t : S) → WereTold Step v now new (take k lines) t → WereTold Step s old new (line ∷ take k lines) t
      more_broken k t (text, told, wrote) = (first ++ text, (first, text, v, refl, is, told), Appends-more old now new first text w wrote)

      pub after_first : (r : Result (Unit {0}) ClientFault) → Ended Step Breaks v lines now new r u → Ended Step Breaks s (line ∷ lines) old new r u
      after_first (Ok done) (text, told, wrote) = (first ++ text, (first, text, v, refl, is, told), Appends-more old now new first text w wrote)
      after_first (Err WriteFault) (k, text, told, (taken, wrote)) = (
        suc k,
        first ++ text,
        (first, text, v, refl, is, told),
        (length first + taken, subst (Appends old new) (sym (take-append-add first text taken)) (Appends-more old now new first (take taken text) w wrote)),
      )
      after_first (Err ReadFault) (k, were) = (suc k, more_told k were)
      after_first (Err Foreign) (k, t, were, b) = (suc k, t, more_broken k t were, b)
      after_first (Err Untold) (k, t, were, b) = (suc k, t, more_broken k t were, b)
      after_first (Err ManyLines) (k, le, were) = (suc k, omega (arith, le), more_told k were)
      after_first (Err NoMemory) none = none

    -- the answer to the first line is cut off
    pub cut_first : (s v : S) (line first : List ℕ) (rest : List (List ℕ)) (old new : Option (List ℕ)) → Step s line first v → AppendsUpTo old new first
        → IsFirst Step Breaks s line rest old new (Err WriteFault) v
    cut_first s v line first rest old new is w = (1, first, (first, [], v, sym (append-nil first), is, (refl, refl)), w)

    -- and then those of the input are answered
    pub first_then : (s v u : S) (line : List ℕ) (old now new all left : Option (List ℕ)) (r : Result (Unit {0}) ClientFault) → left ≡ all → ((rest : List (List ℕ)) → IsFirst Step Breaks s line rest old now (Ok tt) v)
        → IfSome left (λ bytes. Ended Step Breaks v (lines_of bytes) now new r u) → IfSome all (λ bytes. Ended Step Breaks s (line ∷ lines_of bytes) old new r u)
    first_then s v u line old now new None left r e first later = tt
    first_then s v u line old now new (Some bytes) left r e first later = by (first [])
      where
        by : IsFirst Step Breaks s line [] old now (Ok tt) v → Ended Step Breaks s (line ∷ lines_of bytes) old new r u
        by (text, is, w) = after_first s v u line text (lines_of bytes) old now new is w r (subst (λ o. IfSome o (λ bytes. Ended Step Breaks v (lines_of bytes) now new r u)) e later)

    -- or not
    pub first_only : (s v : S) (line : List ℕ) (old now all : Option (List ℕ)) (fault : ClientFault) → ((rest : List (List ℕ)) → IsFirst Step Breaks s line rest old now (Err fault) v)
        → IfSome all (λ bytes. Ended Step Breaks s (line ∷ lines_of bytes) old now (Err fault) v)
    first_only s v line old now None fault first = tt
    first_only s v line old now (Some bytes) fault first = first (lines_of bytes)

    module _ (g : S) (old now : Option (List ℕ)) (s : S) (n : ℕ) where
      -- at the end of the input
      pub ends : (all left : Option (List ℕ)) → Stands g all left old now s n → IsAtEnd left → IfSome all (λ bytes. Ended Step Breaks g (lines_of bytes) old now (Ok tt) s)
      ends None left i end = tt
      ends (Some bytes) left (rest, is, p) end =
          let none : rest ≡ [] = subst IsAtEnd is end in
          let done : lines_of bytes ≡ p.lines = p.whole ∙ ap (λ l. p.lines ++ lines_of l) none ∙ append-nil p.lines in
          (p.text, subst (λ l. AreTold Step g l p.text s) (sym done) p.told, p.wrote)

      -- if a read fails
      pub fails : (all left : Option (List ℕ)) → Stands g all left old now s n → IfSome all (λ bytes. Ended Step Breaks g (lines_of bytes) old now (Err ReadFault) s)
      fails None left i = tt
      fails (Some bytes) left (rest, is, p) = (length p.lines, stopped g old now (lines_of bytes) (lines_of rest) s n p)

      -- if there is no answer
      pub breaks : (u : S) (fault : ClientFault) → ((f : ClientFault) → Breaks s u f → (f ≡ Foreign → ⊥) → f ≡ Untold) → Breaks s u fault → (all left : Option (List ℕ)) → Stands g all left old now s n
          → IfSome all (λ bytes. Ended Step Breaks g (lines_of bytes) old now (Err fault) u)
      breaks u fault only b None left i = tt
      breaks u fault only b (Some bytes) left (rest, is, p) =
          broken g (lines_of bytes) old now (length p.lines) s u fault only (stopped g old now (lines_of bytes) (lines_of rest) s n p) b

      -- if no more lines can be counted
      pub ends_counting : (all left : Option (List ℕ)) → Stands g all left old now s n → n ≡ 2 ^ 64 - 1 → IfSome all (λ bytes. Ended Step Breaks g (lines_of bytes) old now (Err ManyLines) s)
      ends_counting None left i last = tt
      ends_counting (Some bytes) left (rest, is, p) last =
          let c = p.count in
          (length p.lines, omega (arith, c, last), stopped g old now (lines_of bytes) (lines_of rest) s n p)

      module _ (left after new : Option (List ℕ)) (u : S) (limit : ℕ) (found : LineRead) (kept answer : List ℕ) (other : found ≡ End → ⊥)
          (dropped : DropsThrough left after 10) (line : IfSome left (λ bytes. IsLine limit bytes found kept))
          (answered : (bytes : List ℕ) → IsLine limit bytes found kept → Step s (first_line bytes) answer u) where
        first_read : (all : List (List ℕ)) (rest : List ℕ) → (rest ≡ [] → ⊥) → Progress g old now all (lines_of rest) s n
            → Progress g old now all (first_line rest ∷ lines_of (drop_through 10 rest)) s n
        first_read all [] some p = absurd (some refl)
        first_read all (x ∷ xs) some p = subst (λ l. Progress g old now all l s n) (first_through x xs) p

        -- one more line is read and answered
        pub stands-more : (all : Option (List ℕ)) → Stands g all left old now s n → Appends now new answer → Stands g all after old new u (n + 1)
        stands-more None i w = tt
        stands-more (Some bytes) (rest, is, p) w =
            let is_line : IsLine limit rest found kept = subst (λ o. IfSome o (λ bytes. IsLine limit bytes found kept)) is line in (
              drop_through 10 rest,
              subst (λ o. DropsThrough o after 10) is dropped,
              goes_on g old now (lines_of bytes) (lines_of (drop_through 10 rest)) s n new u (first_line rest) answer
                  (first_read (lines_of bytes) rest (some_line limit rest found kept other is_line) p) (answered rest is_line) w,
            )

        -- if a write fails
        pub stands-cut : (all : Option (List ℕ)) → Stands g all left old now s n → AppendsUpTo now new answer → IfSome all (λ bytes. Ended Step Breaks g (lines_of bytes) old new (Err WriteFault) u)
        stands-cut None i w = tt
        stands-cut (Some bytes) (rest, is, p) w =
            let is_line : IsLine limit rest found kept = subst (λ o. IfSome o (λ bytes. IsLine limit bytes found kept)) is line in
            is_cut g old now (lines_of bytes) (lines_of (drop_through 10 rest)) s n new u (first_line rest) answer
            (first_read (lines_of bytes) rest (some_line limit rest found kept other is_line) p) (answered rest is_line) w
