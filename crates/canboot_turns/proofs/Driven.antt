-- What the operator's seat did in a run that began with the start and ended as it was asked to.
use Rattle.std.proofs.Common.{◌≡◌, ◌∷◌, ◌++◌, [], ◌∙◌, ℕ, List, Option, ap, subst}
use Rattle.cm_bus.specs.declared.options.LiveOptions.{LiveOptions}
use Rattle.cm_can.specs.declared.format.Format.{Format}
use Rattle.cm_crew.specs.CallsMade.{calls_made}
use Rattle.cm_history.specs.declared.call.Call.{Call}
use Rattle.cm_history.specs.declared.call.Call.TheVariants as call
use Rattle.canboot_turns.specs.Causes.{AreCauses, IsAskedToEnd, Stand, calls_behind}
use Rattle.canboot_turns.specs.Driven.{IsDriven, settings_of}
use Rattle.canboot_turns.specs.Going.{Follows}

pub driven : (format : Format) (received typed : Option (List ℕ)) (options : LiveOptions) (a b : Stand) → Follows a.progress a.net (settings_of options) [] → a.heard ≡ 0
    → calls_made a.seat ≡ call.StartNetwork ∷ [] → IsAskedToEnd format received typed a b → IsDriven format received typed a.net options (calls_made b.seat)
driven format received typed options a b follows none start asked =
    let h = asked (settings_of options) [] follows in
    record {
      causes = h.causes;
      upto = b.heard;
      each = subst (λ (n : ℕ). AreCauses format received typed h.causes n b.heard) none h.each;
      made = h.made ∙ ap (λ (l : List Call). l ++ calls_behind a.net (settings_of options) h.causes []) start;
      ended = h.course;
    }
