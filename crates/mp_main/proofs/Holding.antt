-- The operator's conversation until the pool is open, and how the program ends.
use Rattle.std.proofs.Common.{◌≡◌, ◌≤◌, ◌⊎◌, ℕ, ◌+◌, ◌-◌, ◌^◌, List, [], ◌∷◌, ◌++◌, length, take, refl, sym, ap, subst, ◌∙◌, inl, inr, arith}
use Rattle.std.proofs.Common.{Bool, true, false, true≢false}
use Rattle.std.proofs.lemmas.List.{append_assoc, length-append}
use Rattle.std.specs.Prelude.{Option, None, Some, IfSome, Result, Ok, Err}
use Rattle.std.specs.Io.KnownBytes.{Appends}
use Rattle.std.proofs.Math.Seq.{take-append-add}
use Rattle.mp_text.specs.Lines.{lines_of}
use Rattle.mp_answers.proofs.Appending.{Appends-nothing, Appends-more}
use Rattle.mp_signatures.specs.Scheme.{accepted_by}
use Rattle.mp_serve.specs.declared.conversation.Conversation.{Conversation}
use Rattle.mp_serve.specs.declared.fault.ConversationFault.{ConversationFault}
use Rattle.mp_serve.specs.declared.fault.ConversationFault.TheVariants.{NoMemory, ReadFault, WriteFault, ManyLines}
use Rattle.mp_serve.specs.Talk.{counted}
use Rattle.mp_serve.specs.Texts.{no_memory_text}
use Rattle.mp_serve.specs.Served.{AreAnswers, AppendsUpTo, Ended, WasCut, WereAnswered}
use Rattle.mp_serve.proofs.Answers.{appends-kept}
use Rattle.mp_serve.proofs.Progress.{Progress, Stands, goes_on, is_cut, stands-first, stopped}
use Rattle.mp_clients.specs.Beginning.{HasBegun, HasCome, AreAll, IsBefore, Opens}
use Rattle.mp_main.specs.Status.{status_of}
use Rattle.mp_main.specs.Held.{EndedEarly, EndsHeld, EndsShared}

-- ---- lines and more lines

joined : (s : Conversation) (lines : List (List ℕ)) (text : List ℕ) (t : Conversation) (more : List (List ℕ)) (after : List ℕ) (u : Conversation)
    → AreAnswers s lines text t → AreAnswers t more after u → AreAnswers s (lines ++ more) (text ++ after) u
joined s [] text t more after u (none, same) told =
    subst (λ x. AreAnswers s more (x ++ after) u) (sym none) (subst (λ v. AreAnswers v more after u) same told)
joined s (l ∷ ls) text t more after u (first, rest, v, whole, is, below) told = (
  first,
  rest ++ after,
  v,
  ap (λ x. x ++ after) whole ∙ append_assoc first rest after,
  is,
  joined (counted v) ls rest t more after u below told,
)

module _ (g : Conversation) (old mid now : Option (List ℕ)) (bytes rest : List ℕ) (s : Conversation) (n : ℕ)
    (p : Progress g old mid (lines_of bytes) (lines_of rest) s n) where
  -- some of the lines that are left were answered too
  more_answered : (k : ℕ) → WereAnswered s mid now (take k (lines_of rest))
      → WereAnswered g old now (take (length p.lines + k) (lines_of bytes))
  more_answered k (text, t, told, wrote) =
      let front : take (length p.lines + k) (lines_of bytes) ≡ p.lines ++ take k (lines_of rest)
      = ap (take (length p.lines + k)) p.whole ∙ take-append-add p.lines (lines_of rest) k in (
        p.text ++ text,
        t,
        subst (λ l. AreAnswers g l (p.text ++ text) t) (sym front) (joined g p.lines p.text s (take k (lines_of rest)) text t p.told told),
        Appends-more old mid now p.text text p.wrote wrote,
      )

  all_answered : (u : Conversation) → AreAll s rest mid now u → WereAnswered g old now (lines_of bytes)
  all_answered u (text, told, wrote) = (
    p.text ++ text,
    u,
    subst (λ l. AreAnswers g l (p.text ++ text) u) (sym p.whole) (joined g p.lines p.text s (lines_of rest) text u p.told told),
    Appends-more old mid now p.text text p.wrote wrote,
  )

  more_cut : WasCut s mid now (lines_of rest) → WasCut g old now (lines_of bytes)
  more_cut (k, text, t, told, (taken, wrote)) =
      let front : take (length p.lines + k) (lines_of bytes) ≡ p.lines ++ take k (lines_of rest)
      = ap (take (length p.lines + k)) p.whole ∙ take-append-add p.lines (lines_of rest) k in (
        length p.lines + k,
        p.text ++ text,
        t,
        subst (λ l. AreAnswers g l (p.text ++ text) t) (sym front) (joined g p.lines p.text s (take k (lines_of rest)) text t p.told told),
        (
          length p.text + taken,
          subst (Appends old now) (sym (take-append-add p.text text taken))
              (Appends-more old mid now p.text (take taken text) p.wrote wrote),
        ),
      )

  -- a fault before a line that opens the pool
  faulty : (fault : ConversationFault) → Ended s rest mid now (Err fault) → EndedEarly g bytes old now (Err fault)
  faulty ReadFault (k, told) = (length p.lines + k, more_answered k told)
  faulty WriteFault cut = more_cut cut
  faulty ManyLines (k, last, told) = (length p.lines + k, omega (arith, last), more_answered k told)
  faulty NoMemory kept =
      let done = stopped g old mid (lines_of bytes) (lines_of rest) s n p in
      (length p.lines, (done.0, done.1, done.2, appends-kept old mid now done.0 done.3 kept))

-- A line opens the pool. The lines before it were answered, and are at least n - 1.
pub record Comes (g : Conversation) (bytes : List ℕ) (old now : Option (List ℕ)) (line : List ℕ) (u : Conversation) (after : Option (List ℕ))
    (n : ℕ) : Type 0 where
  pub rest : List ℕ
  pub left : after ≡ Some rest
  pub m : ℕ
  pub most : n ≤ m
  pub opens_it : Opens u.session.names u.most_names line
  pub progress : Progress g old now (lines_of bytes) (line ∷ lines_of rest) u m

module _ (g : Conversation) (old mid now : Option (List ℕ)) (bytes rest : List ℕ) (s : Conversation) (n : ℕ) (line : List ℕ)
    (u : Conversation) (after : Option (List ℕ)) where
  comes : Progress g old mid (lines_of bytes) (lines_of rest) s n → HasCome s rest mid now line u after
      → Comes g bytes old now line u after n
  comes p h = record {
    rest = h.rest;
    left = h.left_is;
    m = length (p.lines ++ h.lines) + 1;
    most = let c = p.count in let l = length-append p.lines h.lines in omega (arith, c, l);
    opens_it = h.opens_it;
    progress = record {
      lines = p.lines ++ h.lines;
      text = p.text ++ h.text;
      whole = p.whole ∙ ap (λ l. p.lines ++ l) h.whole ∙ sym (append_assoc p.lines h.lines (line ∷ lines_of h.rest));
      told = joined g p.lines p.text s h.lines h.text u p.told h.told;
      wrote = Appends-more old mid now p.text h.text p.wrote h.wrote;
      count = refl;
    };
  }

module _ (g : Conversation) (old now : Option (List ℕ)) (bytes line : List ℕ) (u : Conversation) (after : Option (List ℕ)) (n : ℕ)
    (c : Comes g bytes old now line u after n) where
  has_come : HasCome g bytes old now line u after
  has_come = record {
    lines = c.progress.lines;
    rest = c.rest;
    text = c.progress.text;
    whole = c.progress.whole;
    told = c.progress.told;
    wrote = c.progress.wrote;
    opens_it = c.opens_it;
    left_is = c.left;
  }

  -- the line is answered that an allocation failed
  told_refused : (new : Option (List ℕ)) → Appends now new no_memory_text
      → Progress g old new (lines_of bytes) (lines_of c.rest) (counted u) (c.m + 1)
  told_refused new wrote =
      goes_on g old now (lines_of bytes) (lines_of c.rest) u c.m new u line no_memory_text c.progress (inr (refl, refl)) wrote

  cut_refused : (new : Option (List ℕ)) → AppendsUpTo now new no_memory_text → WasCut g old new (lines_of bytes)
  cut_refused new wrote =
      is_cut g old now (lines_of bytes) (lines_of c.rest) u c.m new u line no_memory_text c.progress (inr (refl, refl)) wrote

-- ---- the same, if the bytes are known

-- at least k - 1 lines were answered, and the others are left
abbrev pub StandsFrom : Conversation → Option (List ℕ) → Option (List ℕ) → Option (List ℕ) → Option (List ℕ) → Conversation → ℕ → Type 0
StandsFrom g all left old now s k = (n : ℕ) × (k ≤ n) × Stands g all left old now s n

pub stands_new : (g : Conversation) (all old : Option (List ℕ)) → StandsFrom g all all old old g 1
stands_new g all old = (1, omega arith, stands-first g all old g 1 refl refl)

abbrev pub ComesIf : Conversation → Option (List ℕ) → Option (List ℕ) → Option (List ℕ) → List ℕ → Conversation → Option (List ℕ) → ℕ → Type 0
ComesIf g all old now line u after k = IfSome all (λ bytes. Comes g bytes old now line u after k)

module _ (g : Conversation) (old mid now : Option (List ℕ)) (s : Conversation) (k : ℕ) (left : Option (List ℕ)) (line : List ℕ)
    (u : Conversation) (after : Option (List ℕ)) where
  module _ (bytes : List ℕ) (rest : List ℕ) (is : left ≡ Some rest) where
    here : (Holds : List ℕ → Type 0) → IfSome left Holds → Holds rest
    here Holds h = subst (λ o. IfSome o Holds) is h

  pub stand_comes : (b : Bool) → b ≡ true → (all : Option (List ℕ)) → StandsFrom g all left old mid s k
      → IfSome left (λ rest. HasBegun s rest mid now (Ok b) line u after) → ComesIf g all old now line u after k
  stand_comes false is all at h = absurd (true≢false (sym is))
  stand_comes true _ None at h = tt
  stand_comes true _ (Some bytes) (n, most, (rest, is, p)) h =
      let c = comes g old mid now bytes rest s n line u after p (here bytes rest is _ h) in
      record {
        rest = c.rest;
        left = c.left;
        m = c.m;
        most = let more = c.most in omega (arith, most, more);
        opens_it = c.opens_it;
        progress = c.progress;
      }

  pub stand_ends : (b : Bool) → b ≡ false → (all : Option (List ℕ)) → StandsFrom g all left old mid s k
      → IfSome left (λ rest. HasBegun s rest mid now (Ok b) line u after) → IfSome all (λ bytes. EndedEarly g bytes old now (Ok tt))
  stand_ends true is all at h = absurd (true≢false is)
  stand_ends false _ None at h = tt
  stand_ends false _ (Some bytes) (n, most, (rest, is, p)) h = all_answered g old mid now bytes rest s n p u (here bytes rest is _ h)

  pub stand_fails : (fault : ConversationFault) (all : Option (List ℕ)) → StandsFrom g all left old mid s k
      → IfSome left (λ rest. HasBegun s rest mid now (Err fault) line u after) → IfSome all (λ bytes. EndedEarly g bytes old now (Err fault))
  stand_fails fault None at h = tt
  stand_fails fault (Some bytes) (n, most, (rest, is, p)) h = faulty g old mid now bytes rest s n p fault (here bytes rest is _ h)

module _ (g : Conversation) (old now : Option (List ℕ)) (line : List ℕ) (u : Conversation) (after : Option (List ℕ)) (k : ℕ) where
  pub come_refused : (new : Option (List ℕ)) (all : Option (List ℕ)) → ComesIf g all old now line u after k → Appends now new no_memory_text
      → StandsFrom g all after old new (counted u) (k + 1)
  come_refused new None c wrote = (k + 1, omega arith, tt)
  come_refused new (Some bytes) c wrote = (
    c.m + 1,
    let most = c.most in omega (arith, most),
    (c.rest, c.left, told_refused g old now bytes line u after k c new wrote),
  )

  pub come_cut : (new : Option (List ℕ)) (all : Option (List ℕ)) → ComesIf g all old now line u after k → AppendsUpTo now new no_memory_text
      → IfSome all (λ bytes. EndedEarly g bytes old new (Err WriteFault))
  come_cut new None c wrote = tt
  come_cut new (Some bytes) c wrote = cut_refused g old now bytes line u after k c new wrote

pub stand_many : (g : Conversation) (all left old now : Option (List ℕ)) (s : Conversation) (k : ℕ) → StandsFrom g all left old now s k
    → k ≡ 2 ^ 64 - 1 → IfSome all (λ bytes. EndedEarly g bytes old now (Err ManyLines))
stand_many g None left old now s k at last = tt
stand_many g (Some bytes) left old now s k (n, most, (rest, is, p)) last =
    let c = p.count in
    (length p.lines, omega (arith, c, most, last), stopped g old now (lines_of bytes) (lines_of rest) s n p)

-- no line was read
pub none_answered : (g : Conversation) (all old : Option (List ℕ)) → IfSome all (λ bytes. EndedEarly g bytes old old (Err NoMemory))
none_answered g None old = tt
none_answered g (Some bytes) old = (0, ([], g, (refl, refl), Appends-nothing old))

-- ---- the status

module _ (N : Type 0) {D : Type 0} (callers : ℕ) (input output : D → Option (List ℕ)) (g : Conversation) (device now : D) (clients : List D)
    (status : ℕ) where
  -- the operator's conversation ended before
  pub ends_early : (ended : Result (Unit {0}) ConversationFault) (all : Option (List ℕ))
      → IfSome all (λ bytes. EndedEarly g bytes (output device) (output now) ended) → status ≡ status_of ended
      → IfSome all (λ bytes. EndsShared N callers input output g bytes device clients status)
  ends_early ended None h is = tt
  ends_early ended (Some bytes) h is = inl (now, ended, h, is)

  -- the pool was opened
  pub ends_held : (line : List ℕ) (u : Conversation) (k : ℕ) (all : Option (List ℕ))
      → ComesIf g all (output device) (output now) line u (input now) k
      → EndsHeld N (accepted_by u.signatures) callers input output u line now clients status
      → IfSome all (λ bytes. EndsShared N callers input output g bytes device clients status)
  ends_held line u k None c h = tt
  ends_held line u k (Some bytes) c h =
      inr (now, line, u, has_come g (output device) (output now) bytes line u (input now) k c, h)

-- the same from an equal state, for as many callers
pub same_start : (N : Type 0) {D : Type 0} (callers other : ℕ) (input output : D → Option (List ℕ)) (g h : Conversation) (device : D)
    (clients : List D) (status : ℕ) (all : Option (List ℕ)) → callers ≡ other → g ≡ h
    → IfSome all (λ bytes. EndsShared N callers input output g bytes device clients status)
    → IfSome all (λ bytes. EndsShared N other input output h bytes device clients status)
same_start N callers other input output g h device clients status all many same ends =
    subst (λ n. IfSome all (λ bytes. EndsShared N n input output h bytes device clients status)) many
    (subst (λ c. IfSome all (λ bytes. EndsShared N callers input output c bytes device clients status)) same ends)

-- ---- after the pool couldn't be opened, the device and the state are the same

module _ {D : Type 0} (input output : D → Option (List ℕ)) (g : Conversation) (first now back new : D) (line : List ℕ)
    (u v w : Conversation) (k : ℕ) (device_is : back ≡ now) (state_is : v ≡ u)
    (c : ComesIf g (input first) (output first) (output now) line u (input now) k) where
  pub refused_on : Appends (output back) (output new) no_memory_text → input new ≡ input back → w ≡ counted v
      → StandsFrom g (input first) (input new) (output first) (output new) w (k + 1)
  refused_on wrote left is =
      let stands = come_refused g (output first) (output now) line u (input now) k (output new) (input first) c
      (subst (λ d. Appends (output d) (output new) no_memory_text) device_is wrote) in
      subst (λ o. StandsFrom g (input first) o (output first) (output new) w (k + 1)) (sym (left ∙ ap input device_is))
      (subst (λ s. StandsFrom g (input first) (input now) (output first) (output new) s (k + 1)) (sym (is ∙ ap counted state_is)) stands)

  pub cut_on : AppendsUpTo (output back) (output new) no_memory_text
      → IfSome (input first) (λ bytes. EndedEarly g bytes (output first) (output new) (Err WriteFault))
  cut_on wrote = come_cut g (output first) (output now) line u (input now) k (output new) (input first) c
      (subst (λ d. AppendsUpTo (output d) (output new) no_memory_text) device_is wrote)

pub before_on : (u v w : Conversation) → v ≡ u → w ≡ counted v → IsBefore u.session.stage → IsBefore w.session.stage
before_on u v w state_is is before =
    subst (λ (s : Conversation). IsBefore s.session.stage) (sym (is ∙ ap counted state_is)) before
