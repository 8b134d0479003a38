-- How an answer was given.
use Rattle.std.proofs.Common.{◌≡◌, ◌<◌, ◌≤◌, ◌-◌, ℕ, Bool, true, false, List, refl, subst, inl, inr, arith}
use Rattle.std.specs.Prelude.{Option, if◌then◌else◌, IsFalse, IsTrue}
use Rattle.cm_boot.specs.declared.question.Question.{Question}
use Rattle.cm_boot.specs.declared.question.Answer.{Answer}
use Rattle.cm_boot.specs.declared.question.Answer.TheVariants as answer
use Rattle.cm_can.specs.declared.frame.CanFrame.{CanFrame}
use Rattle.cm_can.specs.Questions.{IsAnswer}
use Rattle.cm_can.specs.declared.format.Format.{Format}
use Rattle.cm_receiving.specs.Identifiers.{IsOfNode}
use Rattle.cm_bus.specs.Receiving.{BusView, IsGiven, IsPut}
use Rattle.cm_receiving.specs.Places.{NoBootUp, Placed, StandsIn}
use Rattle.cm_bus.specs.Waits.{behind}
use Rattle.cm_receiving.proofs.Nodes.{answer_is_of}
use Rattle.std.proofs.Math.Nat.{le-max_left}

chosen : (b : Bool) (x y z : ℕ) → z ≡ (if b then x else y) → IsTrue b → z ≡ x
chosen true x y z e h = e
chosen false x y z e h = absurd cc

kept : (b : Bool) (x y z : ℕ) → z ≡ (if b then x else y) → IsFalse b → z ≡ y
kept false x y z e h = e
kept true x y z e h = absurd cc

module _ (format : Format) (text : Option (List ℕ)) (node : ℕ) (q : Question) where
  -- a frame whose node hasn't booted up since the boot began is heard
  pub given_frame : (x : Answer) (begun from mid upto : ℕ) (r : Placed) (f : CanFrame) → from ≤ mid → (mid < r.place) × (upto ≡ r.place) → f ≡ r.frame → StandsIn format text r.place r.frame → IsAnswer node q f x
      → r.since ≤ begun → ((n : ℕ) → IsOfNode n r.frame → NoBootUp format text n r.since r.place) → IsGiven format text node q x begun from upto
  given_frame x begun from mid upto r f on there same stands answers early none =
      let is : IsAnswer node q r.frame x = subst (λ (g : CanFrame). IsAnswer node q g x) same answers in
      record {
        on = omega (arith, on, there.0, there.1);
        given = inr (record {
          place = r.place;
          frame = r.frame;
          behind = omega (arith, on, there.0);
          within = omega (arith, there.1);
          stands = stands;
          answers = is;
          same = λ t e place low high has. none node (answer_is_of node q r.frame x has.control.0 is) t e place (omega (arith, low, early)) high has;
        });
      }

  pub given_silent : (begun from mid upto : ℕ) → from ≤ mid → upto ≡ mid → IsGiven format text node q answer.Silent begun from upto
  given_silent begun from mid upto on same = record { on = omega (arith, on, same); given = inl refl }

  -- a question is put: its answer is behind what had been read, and behind the frame that was heard last
  pub put : {P : Type 0} (x : Answer) (b c : BusView P) (read from : ℕ) → from ≡ behind b.heard read → c.begun ≡ (if b.goes_on then b.begun else from) → IsTrue c.goes_on → IsGiven format text node q x c.begun from c.heard
      → IsPut format text node q x b c
  put {P} x b c read from is begun still given = record {
    from = from;
    on = omega (arith, is, le-max_left b.heard (read - 1));
    begins = kept b.goes_on b.begun from c.begun begun;
    goes_on = chosen b.goes_on b.begun from c.begun begun;
    still = still;
    given = given;
  }
