-- What a watch gives by what it keeps is what the past says.
use Rattle.std.proofs.Common.{◌≡◌, ◌∙◌, ℕ, ◌≤◌, ◌<◌, ◌-◌, List, [], ◌∷◌, ◌++◌, ap, refl, map, min, nat_lt, Bool, ◌&&◌, ◌||◌, not, is_some, unwrap_or}
use Rattle.cm_history.specs.Phases.{is_booting, is_ready}
use Rattle.std.specs.Bool.{if◌then◌else◌}
use Rattle.std.specs.List.{filter}
use Rattle.cm_history.specs.History.{is_empty}
use Rattle.cm_netlist.specs.Network.{Network, is_listed}
use Rattle.cm_nmt.specs.Listing.{node_ids}
use Rattle.cm_watch.specs.Ends.{has_come, is_run_over}
use Rattle.cm_watched.specs.Beats.{beat_byte, beat_last, is_beat_due, own_in}
use Rattle.cm_watch.specs.ErrorControl.{error_control_at}
use Rattle.cm_watched.specs.Guarding.{counts, counts_for, guard_of, is_asked_again, is_guard_due, most_silence_of}
use Rattle.cm_watch.specs.Kept.{course_of, slave_of}
use Rattle.cm_watched.specs.Pasts.{Past}
use Rattle.cm_watched.specs.Signals.{is_allowed, is_urgent, news_of, pending_of}
use Rattle.cm_watched.specs.Slaves.{is_tried_in}
use Rattle.cm_watch.specs.Steps.{are_tried, boot_of, elapsed_at, given, is_end, is_late, is_left_out, is_time_over, is_to_be_booted, is_to_be_told, left_out_of, signal_of, steps_at, step_if, takes_boots}
use Rattle.cm_watched.specs.Slaves.{is_free, is_overdue}
use Rattle.cm_watch.specs.Watches.{Watches, are_tried_by, boot_by, counts_by, elapsed_by, error_control_by, is_end_by, is_guard_due_by, is_late_by, is_left_out_by, is_pending_by, is_run_over_by, is_time_over_by, is_to_be_booted_by, is_to_be_told_by, kept_at, left_out_by, signal_by, steps_by, steps_of_kind}
use Rattle.cm_watch.specs.declared.watch.Kind.TheVariants as kind
use Rattle.cm_watch.specs.declared.watch.Pending.TheVariants as pending
use Rattle.cm_watch.specs.declared.course.Course.{Course}
use Rattle.cm_watched.specs.declared.happening.Moment.TheVariants as moment
use Rattle.cm_watched.specs.declared.happening.Step.{Step}
use Rattle.cm_watched.specs.declared.happening.Step.TheVariants as step
use Rattle.cm_watched.specs.declared.settings.Settings.{Settings}
use Rattle.cm_watched.specs.declared.slave.Slave.{Slave}
use Rattle.cm_watch.specs.declared.watch.Watch.{Watch}
use Rattle.cm_watch.proofs.Lists.{same_chosen, same_mapped}

module _ (w : Watch) (net : Network) (s : Settings) (past : Past) (has : Watches w net s past) where
  same_late : (now i : ℕ) → 1 ≤ i → i < 128 → is_late_by w net now i ≡ is_late net past now i
  same_late now i low high = ap (λ (k : Slave). is_overdue (most_silence_of net i) now k.heard k.booted && not k.is_lost) (has.slaves i low high)

  same_boot : (now i : ℕ) → 1 ≤ i → i < 128 → is_to_be_booted_by w net now i ≡ is_to_be_booted net s past now i
  same_boot now i low high =
      ap (λ (k : Slave). takes_boots w.course.phase && ((not w.course.is_stopped || k.is_asked) && (is_listed net i && (not k.news.boot_up && is_free now k.schedule k.is_busy k.is_held k.budget)))) (has.slaves i low high)
      ∙ ap (λ (c : Course). let k = slave_of net s past i in takes_boots c.phase && ((not c.is_stopped || k.is_asked) && (is_listed net i && (not k.news.boot_up && is_free now k.schedule k.is_busy k.is_held k.budget)))) has.course

  same_told : (now i : ℕ) → 1 ≤ i → i < 128 → is_to_be_told_by w net now i ≡ is_to_be_told net s past now i
  same_told now i low high =
      ap (λ (k : Slave). is_listed net i && (is_some (news_of k.news) && ((is_urgent k.news || is_allowed now k.budget) && not (is_to_be_booted_by w net now i)))) (has.slaves i low high)
      ∙ ap (λ (b : Bool). let k = slave_of net s past i in is_listed net i && (is_some (news_of k.news) && ((is_urgent k.news || is_allowed now k.budget) && not b))) (same_boot now i low high)

  same_left_out : (now i : ℕ) → 1 ≤ i → i < 128 → is_left_out_by w net now i ≡ is_left_out net s past now i
  same_left_out now i low high =
      ap (λ (b : Bool). b && nat_lt (pending_of (kept_at w.slaves i).news) (kept_at w.slaves i).news.changes) (same_told now i low high)
      ∙ ap (λ (k : Slave). is_to_be_told net s past now i && nat_lt (pending_of k.news) k.news.changes) (has.slaves i low high)

  same_amount : (i : ℕ) → 1 ≤ i → i < 128 → left_out_by w i ≡ left_out_of past i
  same_amount i low high = ap (λ (k : Slave). step.LeftOut i (k.news.changes - pending_of k.news)) (has.slaves i low high)

  same_boot_step : (i : ℕ) → 1 ≤ i → i < 128 → boot_by w i ≡ boot_of net past i
  same_boot_step i low high = ap (λ (k : Slave). if k.is_stopped then step.Wake i else step.Boot i) (has.slaves i low high)

  same_signal : (i : ℕ) → 1 ≤ i → i < 128 → signal_by w i ≡ signal_of past i
  same_signal i low high = ap (λ (k : Slave). step.Signal i (unwrap_or (news_of k.news) 0)) (has.slaves i low high)

  same_tried : are_tried_by w net ≡ are_tried net past
  same_tried = ap is_empty
      (same_chosen (is_pending_by w.slaves net pending.Untried) (λ i. is_listed net i && not (is_tried_in past i))
      (λ i low high. ap (λ (k : Slave). is_listed net i && not k.is_tried) (has.slaves i low high)))

  same_elapsed : (now : ℕ) → elapsed_by w now ≡ elapsed_at past now
  same_elapsed now = ap (λ (c : Course). min (now - unwrap_or c.started 0) 0xFFFFFFFF) has.course

  same_over : (now : ℕ) → is_time_over_by w net now ≡ is_time_over net past now
  same_over now = ap (λ (c : Course). is_booting c.phase && (not c.is_over_given && (nat_lt 0 net.boot_time && nat_lt net.boot_time (now - unwrap_or c.started 0)))) has.course

  same_end : is_end_by w net ≡ is_end net past
  same_end =
      ap (λ (c : Course). takes_boots c.phase && (not c.is_end_given && (is_ready c.phase || are_tried_by w net))) has.course
      ∙ ap (λ (b : Bool). let c = course_of net past in takes_boots c.phase && (not c.is_end_given && (is_ready c.phase || b))) same_tried

  same_run_over : (now : ℕ) → is_run_over_by w now ≡ is_run_over past now
  same_run_over now = ap (has_come now) has.ends

  -- the steps are those that the past says
  pub same_steps : (now : ℕ) → steps_by w net now ≡ steps_at net s past now
  same_steps now =
      let losses : steps_of_kind w net now kind.Lost ≡ map step.Lost (filter (is_late net past now) node_ids) =
      ap (map step.Lost) (same_chosen (is_late_by w net now) (is_late net past now) (same_late now)) in
      let boots : steps_of_kind w net now kind.Boot ≡ map (boot_of net past) (filter (is_to_be_booted net s past now) node_ids) =
      ap (map (boot_by w)) (same_chosen (is_to_be_booted_by w net now) (is_to_be_booted net s past now) (same_boot now))
      ∙ same_mapped (boot_by w) (boot_of net past) (is_to_be_booted net s past now) same_boot_step in
      let signals : steps_of_kind w net now kind.Signal ≡ map (signal_of past) (filter (is_to_be_told net s past now) node_ids) =
      ap (map (signal_by w)) (same_chosen (is_to_be_told_by w net now) (is_to_be_told net s past now) (same_told now))
      ∙ same_mapped (signal_by w) (signal_of past) (is_to_be_told net s past now) same_signal in
      let left_out : steps_of_kind w net now kind.LeftOut ≡ map (left_out_of past) (filter (is_left_out net s past now) node_ids) =
      ap (map (left_out_by w)) (same_chosen (is_left_out_by w net now) (is_left_out net s past now) (same_left_out now))
      ∙ same_mapped (left_out_by w) (left_out_of past) (is_left_out net s past now) same_amount in
      let over : is_time_over_by w net now ≡ is_time_over net past now = same_over now in
      let ended : is_end_by w net ≡ is_end net past = same_end in
      let elapsed : elapsed_by w now ≡ elapsed_at past now = same_elapsed now in
      let run_over : is_run_over_by w now ≡ is_run_over past now = same_run_over now in
      rw (losses, boots, left_out, signals, over, ended, elapsed, run_over) refl

  -- ---- error control

  same_guard : (now i : ℕ) → 1 ≤ i → i < 128 → is_guard_due_by w net now i ≡ is_guard_due net past now i
  same_guard now i low high = ap (λ (k : Slave). is_asked_again (guard_of net i) now k.guarded k.booted) (has.slaves i low high)

  same_beat : (now : ℕ) → step_if (is_beat_due w.settings.heartbeat_ms now w.course.beat) (step.Beat (beat_byte w.course.beat w.course.own))
      ≡ step_if (is_beat_due s.heartbeat_ms now (beat_last past)) (step.Beat (beat_byte (beat_last past) (own_in net past)))
  same_beat now =
      ap (λ (x : Settings). step_if (is_beat_due x.heartbeat_ms now w.course.beat) (step.Beat (beat_byte w.course.beat w.course.own))) has.settings
      ∙ ap (λ (c : Course). step_if (is_beat_due s.heartbeat_ms now c.beat) (step.Beat (beat_byte c.beat c.own))) has.course

  -- what is sent for error control is what the past says
  pub same_error_control : (now : ℕ) → error_control_by w net now ≡ error_control_at net s past now
  same_error_control now =
      let beat = same_beat now in
      let guards : steps_of_kind w net now kind.Guard ≡ map step.Guard (filter (is_guard_due net past now) node_ids) =
      ap (map step.Guard) (same_chosen (is_guard_due_by w net now) (is_guard_due net past now) (same_guard now)) in
      rw (beat, guards) refl

  pub same_counts : (i b : ℕ) → 1 ≤ i → i < 128 → counts_by w net i b ≡ counts net past i b
  same_counts i b low high = ap (λ (k : Slave). counts_for (guard_of net i) k.booted k.toggle b) (has.slaves i low high)

-- one step more
pub given_more : (now : ℕ) (xs : List Step) (x : Step) (past : Past) → given now (xs ++ x ∷ []) past ≡ (now, moment.Gave x) ∷ given now xs past
given_more now [] x past = refl
given_more now (y ∷ xs) x past = given_more now xs x ((now, moment.Gave y) ∷ past)

pub given-append : (now : ℕ) (xs ys : List Step) (past : Past) → given now (xs ++ ys) past ≡ given now ys (given now xs past)
given-append now [] ys past = refl
given-append now (x ∷ xs) ys past = given-append now xs ys ((now, moment.Gave x) ∷ past)
