-- What is heard while an answer is waited for, and what a question leaves in the log.
use Rattle.std.proofs.Common.{◌≡◌, ◌<◌, ◌≤◌, ◌+◌, ℕ, List, [], ◌∷◌, ◌++◌, length, refl, sym, ap, ◌∙◌, inl, inr, append_assoc, arith, length-append, subst}
use Rattle.std.specs.Prelude.{Option, Some, None}
use Rattle.std.proofs.lemmas.List.{append-nil, length-map, map-append}
use Rattle.std.proofs.lemmas.List.Elements.{All-nil, All-cons, All-append}
use Rattle.cm_boot.specs.declared.question.Question.{Question}
use Rattle.cm_boot.specs.declared.question.Answer.{Answer}
use Rattle.cm_can.specs.declared.frame.CanFrame.{CanFrame}
use Rattle.cm_can.specs.Questions.{IsAnswer}
use Rattle.cm_bus.specs.Sent.{sent_in}
use Rattle.cm_bus.specs.Talk.{HasPut, HasWaited, IsAsking, IsClosing, IsTalk, NoneAnswers, answer_in, ending_of, frame_in, heard}
use Rattle.cm_bus.specs.declared.event.PortEvent.{PortEvent}
use Rattle.cm_bus.specs.declared.event.PortEvent.TheVariants.{Sent, Heard, Expired}
use Rattle.cm_bus.specs.declared.bus.Reply.{Reply}

abbrev pub AnswersNot : ℕ → Question → CanFrame → Type 0
AnswersNot node q f = (a : Answer) → IsAnswer node q f a → ⊥

-- ---- each is one event at most

pub one_asking : (node : ℕ) (q : Question) (es : List PortEvent) → IsAsking node q es → length es ≤ 1
one_asking node q es (inl h) = omega (arith, ap length h.1)
one_asking node q es (inr h) = omega (arith, ap length h.2)

pub one_ending : (last : Option CanFrame) → length (ending_of last) ≤ 1
one_ending None = omega arith
one_ending (Some f) = omega arith

pub one_closing : (node : ℕ) (q : Question) (last : Option CanFrame) (es : List PortEvent) → IsClosing node q last es → length es ≤ 1
one_closing node q last es (inl h) = omega (arith, ap length h.1)
one_closing node q last es (inr h) = omega (arith, ap length h.2)

-- ---- what is heard while an answer is waited for

-- the log grew by so many frames at most that don't answer the question
pub record HasPassed (node : ℕ) (q : Question) (n : ℕ) (old new : List PortEvent) : Type 0 where
  pub others : List CanFrame
  pub passed : NoneAnswers node q others
  pub count : length others ≤ n
  pub grown : new ≡ old ++ heard others

pub passed_first : (node : ℕ) (q : Question) (old : List PortEvent) → HasPassed node q 0 old old
passed_first node q old = record { others = []; passed = All-nil (AnswersNot node q); count = omega arith; grown = sym (append-nil old) }

pub passed_long : (node : ℕ) (q : Question) (n : ℕ) (old new : List PortEvent) → HasPassed node q n old new → length new ≤ length old + n
passed_long node q n old new p = omega (arith, ap length p.grown, length-append old (heard p.others), length-map p.others (λ (f : CanFrame). Heard f), p.count)

pub passed_more : (node : ℕ) (q : Question) (n : ℕ) (old mid new : List PortEvent) (f : CanFrame) → HasPassed node q n old mid → new ≡ mid ++ Heard f ∷ [] → ((a : Answer) → IsAnswer node q f a → ⊥)
    → HasPassed node q (n + 1) old new
passed_more node q n old mid new f p e none = record {
  others = p.others ++ f ∷ [];
  passed = All-append (AnswersNot node q) p.others (f ∷ []) p.passed (All-cons (AnswersNot node q) f [] none (All-nil (AnswersNot node q)));
  count = omega (arith, length-append p.others (f ∷ []), p.count);
  grown = e ∙ (ap (λ (l : List PortEvent). l ++ Heard f ∷ []) p.grown ∙ (append_assoc old (heard p.others) (Heard f ∷ []) ∙ ap (λ (l : List PortEvent). old ++ l) (sym (map-append (λ (g : CanFrame). Heard g) p.others (f ∷ [])))));
}

-- a frame is passed over that isn't heard
pub passed_over : (node : ℕ) (q : Question) (n : ℕ) (old new : List PortEvent) → HasPassed node q n old new → HasPassed node q (n + 1) old new
passed_over node q n old new p = record { others = p.others; passed = p.passed; count = omega (arith, p.count); grown = p.grown }

pub passed_answered : (node : ℕ) (q : Question) (n : ℕ) (old mid new : List PortEvent) (r : Reply) → HasPassed node q n old mid → n ≤ 64 → new ≡ mid ++ Heard r.frame ∷ [] → IsAnswer node q r.frame r.answer
    → HasWaited node q (Some r) old new
passed_answered node q n old mid new r p few e a = record {
  others = p.others;
  passed = p.passed;
  few = omega (arith, p.count, few);
  ends = a;
  grown = e ∙ (ap (λ (l : List PortEvent). l ++ Heard r.frame ∷ []) p.grown ∙ append_assoc old (heard p.others) (Heard r.frame ∷ []));
}

pub passed_expired : (node : ℕ) (q : Question) (n : ℕ) (old mid new : List PortEvent) → HasPassed node q n old mid → n ≤ 64 → new ≡ mid ++ Expired ∷ [] → HasWaited node q None old new
passed_expired node q n old mid new p few e = record {
  others = p.others;
  passed = p.passed;
  few = omega (arith, p.count, few);
  ends = refl;
  grown = e ∙ (ap (λ (l : List PortEvent). l ++ Expired ∷ []) p.grown ∙ append_assoc old (heard p.others) (Expired ∷ []));
}

-- how long the log is behind what was waited for
pub waited_long : (node : ℕ) (q : Question) (r : Option Reply) (old new : List PortEvent) → HasWaited node q r old new → length new ≤ length old + 65
waited_long node q r old new w =
    omega (arith, ap length w.grown, length-append old (heard w.others ++ ending_of (frame_in r)), length-append (heard w.others) (ending_of (frame_in r)), length-map w.others (λ (f : CanFrame). Heard f), w.few, one_ending (frame_in r))

pub asking_short : (node : ℕ) (q : Question) (old new : List PortEvent) → HasPut (IsAsking node q) old new → length new ≤ length old + 1
asking_short node q old new p = omega (arith, ap length p.grown, length-append old p.events, one_asking node q p.events p.is)

-- ---- the frames that were sent, of what stands in a log

sent_append : (es fs : List PortEvent) → sent_in (es ++ fs) ≡ sent_in es ++ sent_in fs
sent_append [] fs = refl
sent_append (Sent f ∷ es) fs = ap (λ (l : List CanFrame). f ∷ l) (sent_append es fs)
sent_append (Heard f ∷ es) fs = sent_append es fs
sent_append (Expired ∷ es) fs = sent_append es fs

sent_heard : (fs : List CanFrame) → sent_in (heard fs) ≡ []
sent_heard [] = refl
sent_heard (f ∷ fs) = sent_heard fs

sent_ending : (last : Option CanFrame) → sent_in (ending_of last) ≡ []
sent_ending None = refl
sent_ending (Some f) = refl

-- of a talk they are those of its request and of its abort
sent_talk : (a : List PortEvent) (others : List CanFrame) (last : Option CanFrame) (c : List PortEvent)
    → sent_in (a ++ (heard others ++ (ending_of last ++ c))) ≡ sent_in a ++ sent_in c
sent_talk a others last c =
    let rest : List PortEvent = ending_of last ++ c in
    sent_append a (heard others ++ rest) ∙ ap (λ (l : List CanFrame). sent_in a ++ l) (
    sent_append (heard others) rest ∙ (ap (λ (l : List CanFrame). l ++ sent_in rest) (sent_heard others)
    ∙ (sent_append (ending_of last) c ∙ ap (λ (l : List CanFrame). l ++ sent_in c) (sent_ending last))))

-- a question is asked: the request, what was waited for, and what closes the transfer, with what the port sent
pub asked_whole : {P : Type 0} (sends : P → List CanFrame → P → Type 0)
    → ((a b c : P) (fs gs : List CanFrame) → sends a fs b → sends b gs c → sends a (fs ++ gs) c)
    → (node : ℕ) (q : Question) (x : Answer) (r : Option Reply) (p0 p1 p2 p3 : P) (old first second new : List PortEvent)
    → HasPut (λ (es : List PortEvent). IsAsking node q es × sends p0 (sent_in es) p1) old first
    → HasWaited node q r first second → sends p1 [] p2
    → HasPut (λ (es : List PortEvent). IsClosing node q (frame_in r) es × sends p2 (sent_in es) p3) second new
    → x ≡ answer_in r
    → HasPut (λ (talk : List PortEvent). IsTalk node q x talk × sends p0 (sent_in talk) p3) old new
asked_whole {P} sends more node q x r p0 p1 p2 p3 old first second new a w s c e =
    let wait : List PortEvent = heard w.others ++ ending_of (frame_in r) in
    record {
      events = a.events ++ (heard w.others ++ (ending_of (frame_in r) ++ c.events));
      is = (
        record {
          asking = a.events;
          others = w.others;
          last = frame_in r;
          closing = c.events;
          asks = a.is.0;
          passed = w.passed;
          few = w.few;
          ends = rw e w.ends;
          closes = c.is.0;
          whole = refl;
        },
        subst (λ (fs : List CanFrame). sends p0 fs p3) (sym (sent_talk a.events w.others (frame_in r) c.events))
            (more p0 p1 p3 (sent_in a.events) (sent_in c.events) a.is.1 (more p1 p2 p3 [] (sent_in c.events) s c.is.1)),
      );
      grown = c.grown
          ∙ (ap (λ (l : List PortEvent). l ++ c.events) (w.grown ∙ ap (λ (l : List PortEvent). l ++ wait) a.grown)
          ∙ (append_assoc (old ++ a.events) wait c.events
          ∙ (append_assoc old a.events (wait ++ c.events)
          ∙ ap (λ (l : List PortEvent). old ++ (a.events ++ l)) (append_assoc (heard w.others) (ending_of (frame_in r)) c.events))));
    }
