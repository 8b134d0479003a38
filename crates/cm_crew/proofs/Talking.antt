-- What the questions of a boot leave in the log of a live bus.
use Rattle.std.proofs.Common.{◌≡◌, ◌≢◌, ◌≤◌, ◌+◌, ◌*◌, ℕ, Bool, true, false, List, [], ◌∷◌, ◌++◌, length, refl, sym, ap, subst, ◌∙◌, append_assoc, arith, length-append}
use Rattle.std.specs.Prelude.{if◌then◌else◌}
use Rattle.std.proofs.lemmas.List.{append-nil, length-map}
use Rattle.cm_boot.specs.Questions.{counted, fits}
use Rattle.cm_boot.specs.Talk.{Talks}
use Rattle.cm_boot.specs.declared.question.Question.{Question}
use Rattle.cm_boot.specs.declared.question.Answer.{Answer}
use Rattle.cm_boot.specs.declared.question.Answer.TheVariants as answer
use Rattle.cm_can.specs.declared.frame.CanFrame.{CanFrame}
use Rattle.cm_bus.specs.Talk.{IsAsked, IsTalk, ending_of, heard}
use Rattle.cm_bus.proofs.Waiting.{one_asking, one_closing, one_ending}
use Rattle.cm_crew.specs.Hearing.{AreHeard, WasAsked}
use Rattle.cm_bus.specs.declared.event.PortEvent.{PortEvent}
use Rattle.cm_bus.specs.declared.event.PortEvent.TheVariants.{Heard}

-- ---- how long a talk is

pub talk_is_short : (node : ℕ) (q : Question) (x : Answer) (talk : List PortEvent) → IsTalk node q x talk → length talk ≤ 67
talk_is_short node q x talk t =
    omega (
      arith,
      ap length t.whole,
      length-append t.asking (heard t.others ++ ((ending_of t.last) ++ t.closing)),
      length-append (heard t.others) ((ending_of t.last) ++ t.closing),
      length-append (ending_of t.last) t.closing,
      length-map t.others (λ (f : CanFrame). Heard f),
      one_asking node q t.asking t.asks,
      one_ending t.last,
      one_closing node q t.last t.closing t.closes,
      t.few,
    )

-- ---- what stands in a log stays in a longer one

pub asked_before : (node : ℕ) (q : Question) (x : Answer) (log more : List PortEvent) → WasAsked node q x log → WasAsked node q x (log ++ more)
asked_before node q x log more w = record {
  before = w.before;
  talk = w.talk;
  rest = w.rest ++ more;
  is = w.is;
  stands = ap (λ (l : List PortEvent). l ++ more) w.stands ∙ (append_assoc w.before (w.talk ++ w.rest) more ∙ ap (λ (l : List PortEvent). w.before ++ l) (append_assoc w.talk w.rest more));
}

pub heard_before : (node : ℕ) (list : List (Question × Answer)) (log more : List PortEvent) → AreHeard node list log → AreHeard node list (log ++ more)
heard_before node [] log more h = tt
heard_before node (qx ∷ rest) log more h = ((λ n. asked_before node qx.0 qx.1 log more (h.0 n)), heard_before node rest log more h.1)

-- ---- an answer that counts is the one that was given

chosen : (b : Bool) (y s : Answer) → (if b then y else s) ≢ s → (if b then y else s) ≡ y
chosen true y s n = refl
chosen false y s n = absurd (n refl)

counted_is_given : (q : Question) (y : Answer) → counted q y ≢ answer.Silent → counted q y ≡ y
counted_is_given q y n = chosen (fits q y) y answer.Silent n

-- ---- the questions of a boot

-- the log grew by the talks of these questions, and each answer stands in it
pub record HasTalked (node : ℕ) (list : List (Question × Answer)) (old new : List PortEvent) : Type 0 where
  pub more : List PortEvent
  pub grown : new ≡ old ++ more
  pub short : length more ≤ 67 * length list
  pub heard : AreHeard node list new

first_asked : (node : ℕ) (q : Question) (x y : Answer) (old talk more new : List PortEvent) → IsTalk node q y talk → x ≡ counted q y → new ≡ old ++ (talk ++ more) → x ≢ answer.Silent
    → WasAsked node q x new
first_asked node q x y old talk more new t e g n = record {
  before = old;
  talk = talk;
  rest = more;
  is = subst (λ (a : Answer). IsTalk node q a talk) (sym (e ∙ counted_is_given q y (λ s. n (e ∙ s)))) t;
  stands = g;
}

pub has_talked : (node : ℕ) (list : List (Question × Answer)) (old new : List PortEvent) → Talks (λ b q x c. IsAsked node q x b c) old list new → length old + 67 * length list ≤ 27470
    → HasTalked node list old new
has_talked node [] old new t room = record { more = []; grown = sym t ∙ sym (append-nil old); short = omega arith; heard = tt }
has_talked node (qx ∷ rest) old new t room =
    let s : IsAsked node qx.0 t.1 old t.0 = t.2 in
    let first : t.0 ≡ old ++ s.talk = s.grown (omega (arith, room)) in
    let few : length s.talk ≤ 67 = talk_is_short node qx.0 t.1 s.talk s.is in
    let r = has_talked node rest t.0 new t.4 (omega (arith, room, few, ap length first, length-append old s.talk)) in
    let g : new ≡ old ++ (s.talk ++ r.more) = r.grown ∙ (ap (λ (l : List PortEvent). l ++ r.more) first ∙ append_assoc old s.talk r.more) in
    record {
      more = s.talk ++ r.more;
      grown = g;
      short = omega (arith, few, r.short, length-append s.talk r.more);
      heard = ((λ n. first_asked node qx.0 qx.1 t.1 old s.talk r.more new s.is t.3 g n), r.heard);
    }
