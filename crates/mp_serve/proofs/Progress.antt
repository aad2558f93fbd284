-- How far a conversation has come.
use Rattle.std.proofs.Common.{◌≡◌, ℕ, ◌+◌, List, [], ◌∷◌, ◌++◌, ◌-◌, ◌^◌, length, take, refl, sym, ap, subst, ◌∙◌, arith, append_assoc, append-nil, length-append}
use Rattle.std.specs.Prelude.{Option, None, Some, IfSome, Ok, Err}
use Rattle.std.specs.Io.KnownBytes.{Appends, IsAtEnd}
use Rattle.std.specs.Io.BufRead.{drop_through, DropsThrough}
use Rattle.std.proofs.Math.Seq.{take-append_seam, take-append-add}
use Rattle.mp_text.specs.Lines.{lines_of}
use Rattle.mp_answers.proofs.Appending.{Appends-nothing, Appends-more}
use Rattle.mp_serve.specs.declared.fault.ConversationFault.TheVariants.{ReadFault, WriteFault, ManyLines}
use Rattle.mp_serve.specs.declared.conversation.Conversation.{Conversation}
use Rattle.mp_text.specs.declared.line_input.LineRead.{LineRead}
use Rattle.mp_text.specs.declared.line_input.LineRead.TheVariants.{Whole, TooLong, Lost, End}
use Rattle.mp_text.specs.LineInput.{IsLine, first_line}
use Rattle.mp_serve.proofs.Lines.{first_through}
use Rattle.mp_serve.specs.Talk.{counted}
use Rattle.mp_serve.specs.Served.{IsAnswer, AreAnswers, WereAnswered, AppendsUpTo, WasCut, Ended}

pub answers-more : (s : Conversation) (lines : List (List ℕ)) (text : List ℕ) (t : Conversation) (line answer : List ℕ) (u : Conversation)
    → AreAnswers s lines text t → IsAnswer t.line t line answer u → AreAnswers s (lines ++ line ∷ []) (text ++ answer) (counted u)
answers-more s [] text t line answer u (none, same) is = (
  answer,
  [],
  u,
  ap (λ l. l ++ answer) none ∙ sym (append-nil answer),
  subst (λ (v : Conversation). IsAnswer v.line v line answer u) same is,
  (refl, refl),
)
answers-more s (l ∷ ls) text t line answer u (first, rest, v, whole, told, more) is = (
  first,
  rest ++ answer,
  v,
  ap (λ x. x ++ answer) whole ∙ append_assoc first rest answer,
  told,
  answers-more (counted v) ls rest t line answer u more is,
)

-- The lines so far were answered, and the writer got exactly the answers.
pub record Progress (g : Conversation) (old now : Option (List ℕ)) (all rest : List (List ℕ)) (s : Conversation) (n : ℕ) : Type 0 where
  pub lines : List (List ℕ)
  pub text : List ℕ
  pub whole : all ≡ lines ++ rest
  pub told : AreAnswers g lines text s
  pub wrote : Appends old now text
  pub count : n ≡ length lines + 1

pub begins : (g : Conversation) (o : Option (List ℕ)) (all : List (List ℕ)) (s : Conversation) (n : ℕ) → s ≡ g → n ≡ 1 → Progress g o o all all s n
begins g o all s n e one = record { lines = []; text = []; whole = refl; told = (refl, e); wrote = Appends-nothing o; count = one }

module _ (g : Conversation) (old now : Option (List ℕ)) (all rest : List (List ℕ)) (s : Conversation) (n : ℕ) where
  -- one more line
  pub goes_on : (new : Option (List ℕ)) (u : Conversation) (line answer : List ℕ) → Progress g old now all (line ∷ rest) s n → IsAnswer s.line s line answer u → Appends now new answer → Progress g old new all rest (counted u) (n + 1)
  goes_on new u line answer p is w = record {
    lines = p.lines ++ line ∷ [];
    text = p.text ++ answer;
    whole = p.whole ∙ sym (append_assoc p.lines (line ∷ []) rest);
    told = answers-more g p.lines p.text s line answer u p.told is;
    wrote = Appends-more old now new p.text answer p.wrote w;
    count = let c = p.count in let l = length-append p.lines (line ∷ []) in omega (arith, c, l);
  }

  -- these lines were answered
  pub stopped : (p : Progress g old now all rest s n) → WereAnswered g old now (take (length p.lines) all)
  stopped p =
      let front : take (length p.lines) all ≡ p.lines = ap (take (length p.lines)) p.whole ∙ take-append_seam p.lines rest in
      (p.text, s, subst (λ l. AreAnswers g l p.text s) (sym front) p.told, p.wrote)

  -- a prefix of an answer was written, perhaps all of it
  pub is_cut : (new : Option (List ℕ)) (u : Conversation) (line answer : List ℕ) → Progress g old now all (line ∷ rest) s n → IsAnswer s.line s line answer u → AppendsUpTo now new answer → WasCut g old new all
  is_cut new u line answer p is (taken, w) =
      let done : List (List ℕ) = p.lines ++ line ∷ [] in
      let front : take (length done) all ≡ done = ap (take (length done)) (p.whole ∙ sym (append_assoc p.lines (line ∷ []) rest)) ∙ take-append_seam done rest in
      let told : AreAnswers g done (p.text ++ answer) (counted u) = answers-more g p.lines p.text s line answer u p.told is in (
        length done,
        p.text ++ answer,
        counted u,
        subst (λ l. AreAnswers g l (p.text ++ answer) (counted u)) (sym front) told,
        (length p.text + taken, subst (Appends old new) (sym (take-append-add p.text answer taken)) (Appends-more old now new p.text (take taken answer) p.wrote w)),
      )

-- if a line was read, there was one
some_line : (limit : ℕ) (bytes : List ℕ) (found : LineRead) (kept : List ℕ) → (found ≡ End → ⊥) → IsLine limit bytes found kept → bytes ≡ [] → ⊥
some_line limit bytes End kept other line none = other refl
some_line limit bytes Whole kept other line none = line.0 none
some_line limit [] TooLong kept other line none = omega (arith, line)
some_line limit (x ∷ xs) TooLong kept other line none = Prim.cc
some_line limit bytes Lost kept other line none = line none

-- if none was read, there was nothing
pub no_line : (left : Option (List ℕ)) (limit : ℕ) (found : LineRead) (kept : List ℕ) → found ≡ End → IfSome left (λ bytes. IsLine limit bytes found kept) → IsAtEnd left
no_line None limit found kept is line = tt
no_line (Some bytes) limit found kept is line = subst (λ f. IsLine limit bytes f kept) is line

-- The lines that were read from known bytes were answered, and those of the bytes that are left weren't read.
abbrev pub Stands : Conversation → Option (List ℕ) → Option (List ℕ) → Option (List ℕ) → Option (List ℕ) → Conversation → ℕ → Type 0
Stands g all left old now s n =
    IfSome all (λ bytes. (rest : List ℕ) × (left ≡ Some rest) × Progress g old now (lines_of bytes) (lines_of rest) s n)

pub stands-first : (g : Conversation) (all old : Option (List ℕ)) (s : Conversation) (n : ℕ) → s ≡ g → n ≡ 1 → Stands g all all old old s n
stands-first g None old s n e one = tt
stands-first g (Some bytes) old s n e one = (bytes, refl, begins g old (lines_of bytes) s n e one)

module _ (g : Conversation) (old now : Option (List ℕ)) (s : Conversation) (n : ℕ) where
  -- at the end of the input
  pub ends : (all left : Option (List ℕ)) → Stands g all left old now s n → IsAtEnd left → IfSome all (λ bytes. Ended g bytes old now (Ok tt))
  ends None left i end = tt
  ends (Some bytes) left (rest, is, p) end =
      let none : rest ≡ [] = subst IsAtEnd is end in
      let done : lines_of bytes ≡ p.lines = p.whole ∙ ap (λ l. p.lines ++ lines_of l) none ∙ append-nil p.lines in
      (p.text, s, subst (λ l. AreAnswers g l p.text s) (sym done) p.told, p.wrote)

  -- if a read fails
  pub fails : (all left : Option (List ℕ)) → Stands g all left old now s n → IfSome all (λ bytes. Ended g bytes old now (Err ReadFault))
  fails None left i = tt
  fails (Some bytes) left (rest, is, p) = (length p.lines, stopped g old now (lines_of bytes) (lines_of rest) s n p)

  -- if no more lines can be counted
  pub ends_counting : (all left : Option (List ℕ)) → Stands g all left old now s n → n ≡ 2 ^ 64 - 1 → IfSome all (λ bytes. Ended g bytes old now (Err ManyLines))
  ends_counting None left i last = tt
  ends_counting (Some bytes) left (rest, is, p) last =
      let c = p.count in
      (length p.lines, omega (arith, c, last), stopped g old now (lines_of bytes) (lines_of rest) s n p)

  module _ (left after new : Option (List ℕ)) (u : Conversation) (limit : ℕ) (found : LineRead) (kept answer : List ℕ) (other : found ≡ End → ⊥)
      (dropped : DropsThrough left after 10) (line : IfSome left (λ bytes. IsLine limit bytes found kept))
      (answered : (bytes : List ℕ) → IsLine limit bytes found kept → IsAnswer s.line s (first_line bytes) answer u) where
    first_read : (all : List (List ℕ)) (rest : List ℕ) → (rest ≡ [] → ⊥) → Progress g old now all (lines_of rest) s n
        → Progress g old now all (first_line rest ∷ lines_of (drop_through 10 rest)) s n
    first_read all [] some p = absurd (some refl)
    first_read all (x ∷ xs) some p = subst (λ l. Progress g old now all l s n) (first_through x xs) p

    -- one more line is read and answered
    pub stands-more : (all : Option (List ℕ)) → Stands g all left old now s n → Appends now new answer → Stands g all after old new (counted u) (n + 1)
    stands-more None i w = tt
    stands-more (Some bytes) (rest, is, p) w =
        let is_line : IsLine limit rest found kept = subst (λ o. IfSome o (λ bytes. IsLine limit bytes found kept)) is line in (
          drop_through 10 rest,
          subst (λ o. DropsThrough o after 10) is dropped,
          goes_on g old now (lines_of bytes) (lines_of (drop_through 10 rest)) s n new u (first_line rest) answer
              (first_read (lines_of bytes) rest (some_line limit rest found kept other is_line) p) (answered rest is_line) w,
        )

    -- if a write fails
    pub stands-cut : (all : Option (List ℕ)) → Stands g all left old now s n → AppendsUpTo now new answer → IfSome all (λ bytes. Ended g bytes old new (Err WriteFault))
    stands-cut None i w = tt
    stands-cut (Some bytes) (rest, is, p) w =
        let is_line : IsLine limit rest found kept = subst (λ o. IfSome o (λ bytes. IsLine limit bytes found kept)) is line in
        is_cut g old now (lines_of bytes) (lines_of (drop_through 10 rest)) s n new u (first_line rest) answer
        (first_read (lines_of bytes) rest (some_line limit rest found kept other is_line) p) (answered rest is_line) w
