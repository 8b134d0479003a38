-- An answer that was given between two places was given between places around them.
use Rattle.std.proofs.Common.{◌≡◌, ◌≤◌, ◌⊎◌, ℕ, List, inl, inr, arith}
use Rattle.std.specs.Prelude.{Option}
use Rattle.cm_boot.specs.declared.question.Question.{Question}
use Rattle.cm_boot.specs.declared.question.Answer.{Answer}
use Rattle.cm_boot.specs.declared.question.Answer.TheVariants as answer
use Rattle.cm_can.specs.declared.format.Format.{Format}
use Rattle.cm_bus.specs.Receiving.{IsGiven, IsHeard}

module _ (format : Format) (text : Option (List ℕ)) where
  -- what was heard in a boot that began before a place was heard in one that began there, and behind an earlier place too
  within_or : (node : ℕ) (q : Question) (x : Answer) (began begun before from upto : ℕ) → began ≤ begun → before ≤ from → (x ≡ answer.Silent) ⊎ IsHeard format text node q x began from upto
      → (x ≡ answer.Silent) ⊎ IsHeard format text node q x begun before upto
  within_or node q x began begun before from upto later le (inl s) = inl s
  within_or node q x began begun before from upto later le (inr h) = inr (record {
    place = h.place;
    frame = h.frame;
    behind = omega (arith, le, h.behind);
    within = h.within;
    stands = h.stands;
    answers = h.answers;
    same = λ t e place behind within. h.same t e place (omega (arith, later, behind)) within;
  })

  pub within_given : (node : ℕ) (q : Question) (x : Answer) (began begun before from upto : ℕ) → began ≤ begun → before ≤ from → IsGiven format text node q x began from upto → IsGiven format text node q x begun before upto
  within_given node q x began begun before from upto later le g = record { on = omega (arith, le, g.on); given = within_or node q x began begun before from upto later le g.given }
