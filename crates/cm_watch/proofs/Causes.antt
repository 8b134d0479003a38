-- No cause for a boot is forgotten.
use Rattle.std.proofs.Common.{◌≡◌, ℕ, ◌==◌, ◌&&◌, ◌||◌, Bool, true, false, [], ◌∷◌, refl, Option, Some, None, is_some, unwrap_or}
use Rattle.std.specs.Bool.{if◌then◌else◌}
use Rattle.std.specs.Prelude.{option_map}
use Rattle.std.specs.Option.{option_or}
use Rattle.cm_history.specs.History.{boots_by, clears_by, holds_by, is_boot_again, is_good_report, is_granted, is_handled, is_reset_value, is_start_by}
use Rattle.cm_history.specs.Orders.{is_reset_all}
use Rattle.cm_history.specs.declared.call.Call.{Call}
use Rattle.cm_history.specs.declared.call.Call.TheVariants as call
use Rattle.cm_history.specs.declared.call.Orders.{Orders}
use Rattle.cm_history.specs.declared.call.Reply.{Reply}
use Rattle.cm_netlist.specs.Network.{Network}
use Rattle.cm_watch.specs.Causes.{IsNotForgotten, given_up_by, is_given_up_in}
use Rattle.cm_watch.specs.Course.{started_at, started_by}
use Rattle.cm_watched.specs.Schedules.{cause_by, cause_by_call, schedule_after, schedule_in}
use Rattle.cm_watched.specs.Slaves.{booted_by, booted_since, busy_by, held_by, is_busy_in, is_held_in}
use Rattle.cm_watched.specs.declared.happening.Happening.TheVariants as happening
use Rattle.cm_watched.specs.declared.happening.Moment.{Moment}
use Rattle.cm_watched.specs.declared.happening.Moment.TheVariants as moment
use Rattle.cm_watched.specs.declared.happening.Step.TheVariants as step
use Rattle.cm_watched.specs.declared.schedule.Cause.TheVariants as cause
use Rattle.cm_watched.specs.declared.schedule.Schedule.{Schedule}
use Rattle.cm_watched.specs.declared.settings.Settings.{Settings}

-- one of five
due_is : (p q r g : Bool) → (p || (q || (r || (g || true)))) ≡ true
due_is true q r g = refl
due_is false true r g = refl
due_is false false true g = refl
due_is false false false true = refl
due_is false false false false = refl

given_up_is : (p q r d : Bool) → (p || (q || (r || (true || d)))) ≡ true
given_up_is true q r d = refl
given_up_is false true r d = refl
given_up_is false false true d = refl
given_up_is false false false d = refl

held_is : (p q g : Bool) → (p || (q || (true || g))) ≡ true
held_is true q g = refl
held_is false true g = refl
held_is false false g = refl

busy_is : (p r : Bool) → (p || (true || r)) ≡ true
busy_is true r = refl
busy_is false r = refl

false_true : {A : Type 0} → false ≡ true → A
false_true e = absurd (cc)

abbrev Known : Option ℕ → Bool → Bool → Bool → Schedule → Type 0
Known b busy held up k = (is_some b || (busy || (held || (up || is_some k.due)))) ≡ true

module _ (net : Network) (s : Settings) (i t : ℕ) where
  -- a call
  called_case : (c : Call) (r : Reply) (o : Orders) (at b : Option ℕ) (busy held up : Bool) (k : Schedule) → (is_some at ≡ true → Known b busy held up k)
      → is_some (option_or (if is_start_by c r then Some t else None) at) ≡ true
      → Known (unwrap_or (if boots_by c r i then Some (Some t) else (if clears_by c r o i then Some None else None)) b) busy (unwrap_or (holds_by c r i) held)
      (unwrap_or (option_map (λ x. false) (cause_by_call c r o i)) up) (schedule_after net s t i (cause_by_call c r o i) k)
  called_case call.StartNetwork r o at b busy held up k before =
      elim (is_granted r) as (λ g. is_some (option_or (if g then Some t else None) at) ≡ true → Known (unwrap_or (if g then Some None else None) b) busy held
      (unwrap_or (option_map (λ x. false) (if g then Some cause.Started else None)) up) (schedule_after net s t i (if g then Some cause.Started else None) k)) [
        | true ↦ λ started. due_is false busy held false
        | false ↦ before
      ]
  called_case (call.Begin j) r o at b busy held up k before = before
  called_case (call.Report j n a) r o at b busy held up k before =
      elim (is_good_report r && j == i) as (λ g. is_some at ≡ true → Known (unwrap_or (if g then Some (Some t) else None) b) busy held up k) [ true ↦ λ started. refl | false ↦ before ]
  called_case (call.Signal j m) r o at b busy held up k before =
      elim (is_boot_again r && j == i) as (λ g. is_some at ≡ true → Known (unwrap_or (if g then Some None else None) b) busy held
      (unwrap_or (option_map (λ x. false) (if g then Some cause.BootUp else None)) up) (schedule_after net s t i (if g then Some cause.BootUp else None) k)) [
        | true ↦ λ started. due_is false busy held false
        | false ↦ before
      ]
  called_case (call.Lost j) r o at b busy held up k before = lost_case (is_handled r) (j == i) (is_reset_all o)
    where
      lost_case : (h same all : Bool) → is_some at ≡ true → Known (unwrap_or (if h && (same || all) then Some None else None) b) busy held
          (unwrap_or (option_map (λ x. false) (if h && same then Some cause.Lost else (if h && all then Some cause.Reset else None))) up)
          (schedule_after net s t i (if h && same then Some cause.Lost else (if h && all then Some cause.Reset else None)) k)
      lost_case true true all started = due_is false busy held false
      lost_case true false true started = due_is false busy held false
      lost_case true false false started = before started
      lost_case false same all started = before started
  called_case (call.Request j v) r o at b busy held up k before =
      elim (is_granted r && (is_reset_value v && (j == i || j == 128))) as (λ g. is_some at ≡ true → Known (unwrap_or (if g then Some None else None) b) busy held
      (unwrap_or (option_map (λ x. false) (if g then Some cause.Reset else None)) up) (schedule_after net s t i (if g then Some cause.Reset else None) k)) [
        | true ↦ λ started. due_is false busy held false
        | false ↦ before
      ]
  called_case (call.Read j) r o at b busy held up k before = before
  called_case (call.Elapsed ms) r o at b busy held up k before = before
  called_case (call.Hold j) r o at b busy held up k before =
      elim (is_granted r && j == i) as (λ g. is_some at ≡ true → Known (unwrap_or (if g then Some None else None) b) busy (unwrap_or (if g then Some true else None) held)
      (unwrap_or (option_map (λ x. false) (if g then Some cause.Dropped else None)) up) (schedule_after net s t i (if g then Some cause.Dropped else None) k)) [
        | true ↦ λ started. held_is false busy false
        | false ↦ before
      ]
  called_case (call.Release j) r o at b busy held up k before =
      elim (is_granted r && j == i) as (λ g. is_some at ≡ true → Known b busy (unwrap_or (if g then Some false else None) held)
      (unwrap_or (option_map (λ x. false) (if g then Some cause.Wanted else None)) up) (schedule_after net s t i (if g then Some cause.Wanted else None) k)) [
        | true ↦ λ started. due_is (is_some b) busy false false
        | false ↦ before
      ]

  -- a moment
  moment_case : (m : Moment) (at b : Option ℕ) (busy held up : Bool) (k : Schedule) → (is_some at ≡ true → Known b busy held up k)
      → is_some (option_or (started_by t m) at) ≡ true
      → Known (unwrap_or (booted_by t m i) b) (unwrap_or (busy_by m i) busy) (unwrap_or (held_by m i) held) (unwrap_or (given_up_by m i) up) (schedule_after net s t i (cause_by m i) k)
  moment_case (moment.Happened (happening.Heard j n)) at b busy held up k before = before
  moment_case (moment.Happened (happening.Called e)) at b busy held up k before = called_case e.call e.reply e.orders at b busy held up k before
  moment_case (moment.Happened (happening.Ended j)) at b busy held up k before =
      elim (j == i) as (λ g. is_some at ≡ true → Known b (unwrap_or (if g then Some false else None) busy) held (unwrap_or (if g then Some true else None) up) k) [
        | true ↦ λ started. given_up_is (is_some b) false held (is_some k.due)
        | false ↦ before
      ]
  moment_case (moment.Happened (happening.Asked j)) at b busy held up k before =
      elim (j == i) as (λ g. is_some at ≡ true → Known b busy held (unwrap_or (option_map (λ x. false) (if g then Some cause.Wanted else None)) up) (schedule_after net s t i (if g then Some cause.Wanted else None) k)) [
        | true ↦ λ started. due_is (is_some b) busy held false
        | false ↦ before
      ]
  moment_case (moment.Happened (happening.Ends ms)) at b busy held up k before = before
  moment_case (moment.Gave (step.Lost j)) at b busy held up k before = before
  moment_case (moment.Gave (step.Boot j)) at b busy held up k before =
      elim (j == i) as (λ g. is_some at ≡ true → Known b (unwrap_or (if g then Some true else None) busy) held
      (unwrap_or (option_map (λ x. false) (if g then Some cause.Dropped else None)) up) (schedule_after net s t i (if g then Some cause.Dropped else None) k)) [
        | true ↦ λ started. busy_is (is_some b) (held || (false || false))
        | false ↦ before
      ]
  moment_case (moment.Gave (step.Wake j)) at b busy held up k before =
      elim (j == i) as (λ g. is_some at ≡ true → Known b busy held (unwrap_or (option_map (λ x. false) (if g then Some cause.Woken else None)) up) (schedule_after net s t i (if g then Some cause.Woken else None) k)) [
        | true ↦ λ started. due_is (is_some b) busy held false
        | false ↦ before
      ]
  moment_case (moment.Gave (step.Signal j n)) at b busy held up k before = before
  moment_case (moment.Gave (step.LeftOut j n)) at b busy held up k before = before
  moment_case (moment.Gave (step.TimeOver ms)) at b busy held up k before = before
  moment_case (moment.Gave (step.AllTried ms)) at b busy held up k before = before
  moment_case (moment.Gave (step.Beat x)) at b busy held up k before = before
  moment_case (moment.Gave (step.Guard j)) at b busy held up k before = before
  moment_case (moment.Gave step.End) at b busy held up k before = before

pub not_forgotten : IsNotForgotten
not_forgotten net s [] i started = false_true started
not_forgotten net s (x ∷ past) i started =
    moment_case net s i x.0 x.1 (started_at past) (booted_since past i) (is_busy_in past i) (is_held_in past i) (is_given_up_in past i) (schedule_in net s past i)
    (not_forgotten net s past i) started
