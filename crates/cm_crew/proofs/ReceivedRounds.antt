-- What a round of attempts adds to a seat's list was received.
use Rattle.std.proofs.Common.{◌≡◌, ◌≤◌, ◌⊎◌, ℕ, Bool, true, false, List, [], ◌∷◌, ◌++◌, refl, sym, ap, subst, ◌∙◌, inl, inr, arith}
use Rattle.std.specs.Prelude.{if◌then◌else◌, IsFalse, IsTrue, Option, Result, Ok, Err, IfOk, OnErr}
use Rattle.cm_register.specs.SeatViews.{SeatView}
use Rattle.cm_register.specs.declared.made.Receipt.{Receipt}
use Rattle.cm_history.specs.declared.call_fault.CallFault.{CallFault}
use Rattle.cm_netlist.specs.Network.{Network, entry}
use Rattle.cm_boot.specs.Questions.{counted, fits}
use Rattle.cm_boot.specs.Talk.{Talks, asked}
use Rattle.cm_boot.specs.declared.question.Question.{Question}
use Rattle.cm_boot.specs.declared.question.Answer.{Answer}
use Rattle.cm_boot.specs.declared.question.Answer.TheVariants as answer
use Rattle.cm_history.specs.declared.call.Call.{Call}
use Rattle.cm_history.specs.declared.call.Call.TheVariants as call
use Rattle.cm_register.specs.SeatCalls.{made}
use Rattle.cm_register.specs.declared.made.Made.{Made}
use Rattle.cm_run.specs.declared.outcome.Attempt.{Attempt}
use Rattle.cm_run.specs.declared.outcome.Attempt.TheVariants as attempt
use Rattle.cm_run.specs.declared.outcome.Outcome.{Outcome}
use Rattle.cm_run.specs.Rounds.{Fail, Gives, HasRound, calls_in}
use Rattle.cm_can.specs.declared.format.Format.{Format}
use Rattle.cm_can.specs.declared.frame.CanFrame.{CanFrame}
use Rattle.cm_bus.specs.Receiving.{AreGiven, BusView, EndsBoot, IsAskedOver, IsGiven, IsHeard, IsPut}
use Rattle.cm_bus.proofs.Given.{within_given}
use Rattle.cm_crew.specs.ReceivedCalls.{AreReceived, IsNoReport, IsReceivedCall, IsReceivedList}
use Rattle.cm_nmt.specs.declared.answers.Answers.{Answers}

-- ---- an answer that doesn't fit counts as silence

either_silent : (b : Bool) → (if b then answer.Silent else answer.Silent) ≡ answer.Silent
either_silent true = refl
either_silent false = refl

module _ (format : Format) (text : Option (List ℕ)) where
  either_heard : (node : ℕ) (q : Question) (begun from upto : ℕ) (y : Answer) (b : Bool) → IsHeard format text node q y begun from upto
      → ((if b then y else answer.Silent) ≡ answer.Silent) ⊎ IsHeard format text node q (if b then y else answer.Silent) begun from upto
  either_heard node q begun from upto y true h = inr h
  either_heard node q begun from upto y false h = inl refl

  counted_or : (node : ℕ) (q : Question) (begun from upto : ℕ) (y : Answer) → (y ≡ answer.Silent) ⊎ IsHeard format text node q y begun from upto
      → (counted q y ≡ answer.Silent) ⊎ IsHeard format text node q (counted q y) begun from upto
  counted_or node q begun from upto y (inl s) = inl (ap (λ (z : Answer). counted q z) s ∙ either_silent (fits q answer.Silent))
  counted_or node q begun from upto y (inr h) = either_heard node q begun from upto y (fits q y) h

  counted_given : (node : ℕ) (q : Question) (begun from upto : ℕ) (x y : Answer) → x ≡ counted q y → IsGiven format text node q y begun from upto → IsGiven format text node q x begun from upto
  counted_given node q begun from upto x y e g =
      subst (λ (z : Answer). IsGiven format text node q z begun from upto) (sym e) (record { on = g.on; given = counted_or node q begun from upto y g.given })

  -- ---- places go on

  pub given_on : (node begun : ℕ) (list : List (Question × Answer)) (from upto : ℕ) → AreGiven format text node begun list from upto → from ≤ upto
  given_on node begun [] from upto h = h
  given_on node begun (qx ∷ rest) from upto h = omega (arith, h.1.on, given_on node begun rest h.0 upto h.2)

  module _ (net : Network) where
    pub call_on : (c : Call) (from upto : ℕ) → IsReceivedCall format text net c from upto → from ≤ upto
    call_on (call.Report i n a) from upto h = omega (arith, h.1, given_on i h.0 (asked (entry net i) a) h.0 upto h.2)
    call_on _ from upto h = h

    sooner_call : (c : Call) (before from upto : ℕ) → before ≤ from → IsReceivedCall format text net c from upto → IsReceivedCall format text net c before upto
    sooner_call (call.Report i n a) before from upto le h = (h.0, omega (arith, le, h.1), h.2)
    sooner_call _ before from upto le h = omega (arith, le, h)

    sooner_received : (ms : List Made) (before from upto : ℕ) → before ≤ from → AreReceived format text net ms from upto → AreReceived format text net ms before upto
    sooner_received [] before from upto le h = omega (arith, le, h)
    sooner_received (m ∷ ms) before from upto le h = (h.0, sooner_call m.call before from h.0 le h.1, h.2)

    pub append_received : (xs ys : List Made) (from mid upto : ℕ) → AreReceived format text net xs from mid → AreReceived format text net ys mid upto → AreReceived format text net (xs ++ ys) from upto
    append_received [] ys from mid upto h k = sooner_received ys from mid upto h k
    append_received (x ∷ xs) ys from mid upto h k = (h.0, h.1, append_received xs ys h.0 mid upto h.2 k)

    -- ---- a seat's list

    pub fresh_received : (list : List Made) → list ≡ [] → (upto : ℕ) → AreReceived format text net list 0 upto
    fresh_received list e upto = subst (λ (l : List Made). AreReceived format text net l 0 upto) (sym e) (let z : 0 ≤ upto = omega arith in z)

    quiet_call : (c : Call) → IsNoReport c → (from : ℕ) → IsReceivedCall format text net c from from
    quiet_call (call.Report i n a) h from = absurd h
    quiet_call _ h from = omega arith

    pub quiet_received : (old new : List Made) (m : Made) → IsNoReport m.call → new ≡ old ++ m ∷ [] → IsReceivedList format text net old → IsReceivedList format text net new
    quiet_received old new m quiet e h =
        (h.0, subst (λ (l : List Made). AreReceived format text net l 0 h.0) (sym e) (append_received old (m ∷ []) 0 h.0 h.0 h.1 (h.0, quiet_call m.call quiet h.0, omega arith)))

    -- ---- a round

    module _ {P : Type 0} (sends : P → List CanFrame → P → Type 0) where
      abbrev Step : BusView P → ℕ → Question → Answer → BusView P → Type 0
      Step b i q x c = IsAskedOver sends format text i q x b c

      abbrev Ends : BusView P → ℕ → Bool → BusView P → Type 0
      Ends b i x c = EndsBoot b c

      -- the questions of a boot that goes on
      talks_on : (i begun : ℕ) (list : List (Question × Answer)) (b c : BusView P) → IsTrue b.goes_on → b.begun ≡ begun → Talks (λ b q x c. Step b i q x c) b list c
          → AreGiven format text i begun list b.heard c.heard
      talks_on i begun [] b c on at t = omega (arith, ap (λ (v : BusView P). v.heard) t)
      talks_on i begun (qx ∷ rest) b c on at t =
          let p : IsPut format text i qx.0 t.1 b t.0 = t.2.put in
          let same : t.0.begun ≡ begun = p.goes_on on ∙ at in
          let g = within_given format text i qx.0 t.1 t.0.begun begun b.heard p.from t.0.heard (omega (arith, same)) p.on p.given in
          (t.0.heard, counted_given i qx.0 begun b.heard t.0.heard qx.1 t.1 t.3 g, talks_on i begun rest t.0 c p.still same t.4)

      -- those of a boot that begins with the first of them
      talks_given : (i : ℕ) (list : List (Question × Answer)) (b c : BusView P) → IsFalse b.goes_on → Talks (λ b q x c. Step b i q x c) b list c
          → (begun : ℕ) × (b.heard ≤ begun) × AreGiven format text i begun list begun c.heard
      talks_given i [] b c off t = (c.heard, omega (arith, ap (λ (v : BusView P). v.heard) t), omega arith)
      talks_given i (qx ∷ rest) b c off t =
          let p : IsPut format text i qx.0 t.1 b t.0 = t.2.put in
          let same : t.0.begun ≡ p.from = p.begins off in
          let g = within_given format text i qx.0 t.1 t.0.begun p.from p.from p.from t.0.heard (omega (arith, same)) (omega arith) p.given in
          (p.from, p.on, (t.0.heard, counted_given i qx.0 p.from p.from t.0.heard qx.1 t.1 t.3 g, talks_on i p.from rest t.0 c p.still same t.4))

      -- the answers of a boot, behind whose end the bus is where it was
      abbrev IsBootGiven : ℕ → Answers → BusView P → BusView P → Type 0
      IsBootGiven i a b c = (begun : ℕ) × (b.heard ≤ begun) × AreGiven format text i begun (asked (entry net i) a) begun c.heard

      boot_given : (i : ℕ) (a : Answers) (b d c : BusView P) → IsFalse b.goes_on → Talks (λ b q x c. Step b i q x c) b (asked (entry net i) a) d → EndsBoot d c → IsBootGiven i a b c
      boot_given i a b d c off t e =
          let h = talks_given i (asked (entry net i) a) b d off t in
          (h.0, h.1, subst (λ (n : ℕ). AreGiven format text i h.0 (asked (entry net i) a) h.0 n) (sym e.heard) h.2)

      boot_on : (i : ℕ) (a : Answers) (b c : BusView P) → IsBootGiven i a b c → b.heard ≤ c.heard
      boot_on i a b c h = omega (arith, h.1, given_on i h.0 (asked (entry net i) a) h.0 c.heard h.2)

      -- of a bus over which no boot goes on, before and behind it
      attempt_received : (i : ℕ) (b : BusView P) (t : Attempt) (c : BusView P) → IsFalse b.goes_on → Gives Step Ends net i b t c
          → AreReceived format text net (calls_in i t) b.heard c.heard × IsFalse c.goes_on
      attempt_received i b (attempt.NotBegun f) c off g = (omega (arith, ap (λ (v : BusView P). v.heard) g), subst (λ (v : BusView P). IsFalse v.goes_on) g off)
      attempt_received i b (attempt.Refused r n) c off g =
          ((b.heard, omega arith, omega (arith, ap (λ (v : BusView P). v.heard) g.1)), subst (λ (v : BusView P). IsFalse v.goes_on) g.1 off)
      attempt_received i b (attempt.Left r n a) c off g =
          ((b.heard, omega arith, boot_on i a b c (boot_given i a b g.1 c off g.2.talk g.3)), g.3.ended)
      attempt_received i b (attempt.NotReported r n a f) c off g =
          ((b.heard, omega arith, boot_on i a b c (boot_given i a b g.1 c off g.2.talk g.3)), g.3.ended)
      attempt_received i b (attempt.Ended r n a s l) c off g =
          ((b.heard, omega arith, (c.heard, boot_given i a b g.1 c off g.2.talk g.3, omega arith)), g.3.ended)

      attempts_received : (i : ℕ) (b : BusView P) (ts : List Attempt) (list : List Made) (c : BusView P) → IsFalse b.goes_on → Fail Step Ends net i b ts list c
          → AreReceived format text net list b.heard c.heard × IsFalse c.goes_on
      attempts_received i b [] list c off f = (
        subst (λ (l : List Made). AreReceived format text net l b.heard c.heard) (sym f.0) (let z : b.heard ≤ c.heard = omega (arith, ap (λ (v : BusView P). v.heard) f.1) in z),
        subst (λ (v : BusView P). IsFalse v.goes_on) f.1 off,
      )
      attempts_received i b (t ∷ ts) list c off f =
          let first = attempt_received i b t f.1 off f.2 in
          let others = attempts_received i f.1 ts f.0 c first.1 f.4 in
          (subst (λ (l : List Made). AreReceived format text net l b.heard c.heard) (sym f.5) (append_received (calls_in i t) f.0 b.heard f.1.heard c.heard first.0 others.0), others.1)

      pub round_received : (i m : ℕ) (o : Outcome) (old new : List Made) (b c : BusView P) → IsFalse b.goes_on → HasRound Step Ends net i m o old new b c
          → AreReceived format text net old 0 b.heard → AreReceived format text net new 0 c.heard
      round_received i m o old new b c off r h =
          let f = attempts_received i b r.round.failed r.round.before r.round.between off r.round.fails in
          let g = attempt_received i r.round.between r.round.final c f.1 r.round.gives in
          let added = append_received r.round.before (calls_in i r.round.final) b.heard r.round.between.heard c.heard f.0 g.0 in
          subst (λ (l : List Made). AreReceived format text net l 0 c.heard) (sym r.grown)
          (append_received old r.added 0 b.heard c.heard h (subst (λ (l : List Made). AreReceived format text net l b.heard c.heard) (sym r.round.calls) added))

    -- ---- a call that is no report

    pub called : (r : Result Receipt CallFault) (old new : SeatView) (c : Call) → IsNoReport c → IfOk r (λ k. (new.number ≡ old.number) × (new.list ≡ old.list ++ made k.position c k.reply ∷ [])) → OnErr r (new ≡ old)
        → IsReceivedList format text net old.list → IsReceivedList format text net new.list
    called (Ok k) old new c quiet ok err h = quiet_received old.list new.list (made k.position c k.reply) quiet ok.1 h
    called (Err f) old new c quiet ok err h = subst (λ (s : SeatView). IsReceivedList format text net s.list) (sym err) h
