-- The calls that the operator's seat has made, step by step.
use Rattle.std.proofs.Common.{◌≡◌, List, [], ◌∷◌, ◌++◌, Result, Ok, Err, ap, sym, ◌∙◌, append_assoc}
use Rattle.std.specs.Prelude.{IfOk, Option, Some, None, map, filter_map}
use Rattle.std.proofs.lemmas.List.{append-nil, map-append}
use Rattle.std.proofs.lemmas.List.Elements.{filter_map-append}
use Rattle.cm_history.specs.declared.call.Call.{Call}
use Rattle.cm_register.specs.SeatCalls.{made}
use Rattle.cm_register.specs.SeatViews.{SeatView}
use Rattle.cm_history.specs.declared.call_fault.CallFault.{CallFault}
use Rattle.cm_register.specs.declared.made.Made.{Made}
use Rattle.cm_register.specs.declared.made.Receipt.{Receipt}
use Rattle.cm_watched.specs.declared.happening.Step.{Step}
use Rattle.canboot_turns.specs.Steps.{HasMade, call_for}
use Rattle.cm_crew.specs.CallsMade.{calls_made}

-- a call that is made stands behind those before
pub called_more : (r : Result Receipt CallFault) (old new : SeatView) (c : Call)
    → IfOk r (λ k. (new.number ≡ old.number) × (new.list ≡ old.list ++ made k.position c k.reply ∷ []))
    → IfOk r (λ _. calls_made new ≡ calls_made old ++ c ∷ [])
called_more (Ok k) old new c is =
    ap (λ (l : List Made). map (λ (m : Made). m.call) l) is.1 ∙ map-append (λ (m : Made). m.call) old.list (made k.position c k.reply ∷ [])
called_more (Err f) old new c is = is

-- a step whose call was made, or that is none
pub step_called : (s : Step) (old new : SeatView) (c : Call) → Some c ≡ call_for s → calls_made new ≡ calls_made old ++ c ∷ [] → HasMade (s ∷ []) old new
step_called s old new c is called = called ∙ ap (λ (o : Option Call). calls_made old ++ filter_map (λ (_ : Step). o) (s ∷ [])) is

pub step_quiet : (s : Step) (old new : SeatView) → None ≡ call_for s → new ≡ old → HasMade (s ∷ []) old new
step_quiet s old new is same =
    ap calls_made same ∙ (sym (append-nil (calls_made old)) ∙ ap (λ (o : Option Call). calls_made old ++ filter_map (λ (_ : Step). o) (s ∷ [])) is)

pub no_steps : (old new : SeatView) → new ≡ old → HasMade [] old new
no_steps old new same = ap calls_made same ∙ sym (append-nil (calls_made old))

-- one step more
pub steps_more : (steps : List Step) (s : Step) (old mid new : SeatView) → HasMade steps old mid → HasMade (s ∷ []) mid new → HasMade (steps ++ s ∷ []) old new
steps_more steps s old mid new before one =
    one ∙ (ap (λ (l : List Call). l ++ filter_map call_for (s ∷ [])) before
    ∙ (append_assoc (calls_made old) (filter_map call_for steps) (filter_map call_for (s ∷ []))
    ∙ ap (λ (l : List Call). calls_made old ++ l) (sym (filter_map-append call_for steps (s ∷ [])))))
