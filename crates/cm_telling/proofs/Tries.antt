-- Which moments leave what came of the boots as it is.
use Rattle.std.proofs.Common.{◌≡◌, ◌∙◌, ℕ, ◌∷◌, refl, sym, false}
use Rattle.cm_watched.specs.Pasts.{Past}
use Rattle.cm_telling.specs.Tried.{Tries, boots_of, may_change_boots}
use Rattle.cm_watched.specs.declared.happening.Happening.TheVariants as happening
use Rattle.cm_watched.specs.declared.happening.Moment.{Moment}
use Rattle.cm_watched.specs.declared.happening.Moment.TheVariants as moment
use Rattle.cm_watched.specs.declared.happening.Step.TheVariants as step
use Rattle.cm_telling.specs.declared.tried.Tried.{Tried}

-- any other than an entry, or a step that hands a slave to its worker
pub same_boots : (now : ℕ) (m : Moment) (past : Past) (i : ℕ) → may_change_boots m ≡ false → boots_of ((now, m) ∷ past) i ≡ boots_of past i
same_boots now (moment.Happened (happening.Heard j b)) past i other = refl
same_boots now (moment.Happened (happening.Called e)) past i other = absurd (cc)
same_boots now (moment.Happened (happening.Ended j)) past i other = refl
same_boots now (moment.Happened (happening.Asked j)) past i other = refl
same_boots now (moment.Happened (happening.Ends at)) past i other = refl
same_boots now (moment.Gave (step.Lost j)) past i other = refl
same_boots now (moment.Gave (step.Boot j)) past i other = absurd (cc)
same_boots now (moment.Gave (step.Wake j)) past i other = refl
same_boots now (moment.Gave (step.Signal j b)) past i other = refl
same_boots now (moment.Gave (step.LeftOut j n)) past i other = refl
same_boots now (moment.Gave (step.TimeOver ms)) past i other = refl
same_boots now (moment.Gave (step.AllTried ms)) past i other = refl
same_boots now (moment.Gave (step.Beat b)) past i other = refl
same_boots now (moment.Gave (step.Guard j)) past i other = refl
same_boots now (moment.Gave step.End) past i other = refl

pub same_tries : (t : Tried) (now : ℕ) (m : Moment) (past : Past) → may_change_boots m ≡ false → Tries t past → Tries t ((now, m) ∷ past)
same_tries t now m past other tries i low high = tries i low high ∙ sym (same_boots now m past i other)
