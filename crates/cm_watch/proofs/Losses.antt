-- A slave is given as lost once, until it is booted again.
use Rattle.std.proofs.Common.{◌≡◌, ◌∙◌, ℕ, ◌==◌, ◌&&◌, not, Bool, true, false, [], ◌∷◌, ◌++◌, ap, refl, Some, None, unwrap_or, eq-eqb}
use Rattle.std.specs.Bool.{if◌then◌else◌}
use Rattle.cm_watch.specs.Losses.{IsLostOnce, NoneBoots, is_boot_of}
use Rattle.cm_watched.specs.Pasts.{Past}
use Rattle.cm_watched.specs.Slaves.{booted_since, heard_last, is_lost_given, lost_by}
use Rattle.cm_watched.specs.Guarding.{most_silence_of}
use Rattle.cm_watched.specs.Slaves.{is_overdue}
use Rattle.cm_watched.specs.declared.happening.Happening.TheVariants as happening
use Rattle.cm_watched.specs.declared.happening.Moment.{Moment}
use Rattle.cm_watched.specs.declared.happening.Moment.TheVariants as moment
use Rattle.cm_watched.specs.declared.happening.Step.TheVariants as step

stays : (m : Moment) (i : ℕ) (rest : Bool) → is_boot_of m i ≡ false → rest ≡ true → unwrap_or (lost_by m i) rest ≡ true
stays (moment.Happened (happening.Heard j b)) i rest none yet = yet
stays (moment.Happened (happening.Called e)) i rest none yet = ap (λ b. unwrap_or (if b then Some false else None) rest) none ∙ yet
stays (moment.Happened (happening.Ended j)) i rest none yet = yet
stays (moment.Happened (happening.Asked j)) i rest none yet = yet
stays (moment.Happened (happening.Ends at)) i rest none yet = yet
stays (moment.Gave (step.Lost j)) i rest none yet = elim (j == i) as (λ b. unwrap_or (if b then Some true else None) rest ≡ true) [ true ↦ refl | false ↦ yet ]
stays (moment.Gave (step.Boot j)) i rest none yet = yet
stays (moment.Gave (step.Wake j)) i rest none yet = yet
stays (moment.Gave (step.Signal j b)) i rest none yet = yet
stays (moment.Gave (step.LeftOut j n)) i rest none yet = yet
stays (moment.Gave (step.TimeOver ms)) i rest none yet = yet
stays (moment.Gave (step.AllTried ms)) i rest none yet = yet
stays (moment.Gave (step.Beat b)) i rest none yet = yet
stays (moment.Gave (step.Guard j)) i rest none yet = yet
stays (moment.Gave step.End) i rest none yet = yet

given_until : (newer past : Past) (t i : ℕ) → NoneBoots newer i → is_lost_given (newer ++ (t, moment.Gave (step.Lost i)) ∷ past) i ≡ true
given_until [] past t i none = ap (λ b. unwrap_or (if b then Some true else None) (is_lost_given past i)) (eq-eqb i i refl)
given_until (x ∷ newer) past t i none = stays x.1 i (is_lost_given (newer ++ (t, moment.Gave (step.Lost i)) ∷ past) i) none.0 (given_until newer past t i none.1)

never_both : (b : Bool) → b && false ≡ false
never_both true = refl
never_both false = refl

pub lost_once : IsLostOnce
lost_once net newer past t now i none =
    let all = newer ++ (t, moment.Gave (step.Lost i)) ∷ past in
    let late = is_overdue (most_silence_of net i) now (heard_last all i) (booted_since all i) in
    ap (λ b. late && not b) (given_until newer past t i none) ∙ never_both late
