-- What is kept of the network is what the past says: a slave is booted where the history says so, and the phase is that of the
-- history. Whether a slave is open matters only while the mandatory ones are being booted.
use Rattle.std.proofs.Common.{◌≡◌, ◌∙◌, ℕ, ◌&&◌, ◌||◌, not, Bool, true, false, List, [], ◌∷◌, ap, refl, sym, Option, Some, None, is_some, unwrap_or}
use Rattle.std.specs.Bool.{if◌then◌else◌}
use Rattle.std.specs.List.{filter}
use Rattle.cm_history.specs.History.{boots, clears, is_booted, is_empty, is_start_by, open_of, own_of, phase_of}
use Rattle.cm_history.specs.Machine.{phase_then}
use Rattle.cm_history.specs.Phases.{is_booting}
use Rattle.cm_history.specs.declared.call.Entry.{Entry}
use Rattle.cm_history.specs.declared.phase.Phase.{Phase}
use Rattle.cm_history.specs.declared.phase.Phase.TheVariants as phase
use Rattle.cm_history.proofs.PhaseSteps.{phase_more}
use Rattle.cm_netlist.specs.Network.{Network, listing}
use Rattle.cm_nmt.specs.Listing.{is_mandatory, node_ids}
use Rattle.cm_nmt.specs.declared.state.NmtState.{NmtState}
use Rattle.cm_watch.specs.Kept.{course_after, course_of, own_behind, phase_behind}
use Rattle.cm_watched.specs.Pasts.{Past, entries_in, with_entry}
use Rattle.cm_watched.specs.Slaves.{booted_by, booted_since}
use Rattle.cm_watch.specs.Watches.{AreSlaves, is_pending_by}
use Rattle.cm_watch.specs.declared.course.Course.{Course}
use Rattle.cm_watch.specs.declared.watch.Pending.TheVariants as pending
use Rattle.cm_watched.specs.declared.happening.Happening.TheVariants as happening
use Rattle.cm_watched.specs.declared.happening.Moment.{Moment}
use Rattle.cm_watched.specs.declared.happening.Moment.TheVariants as moment
use Rattle.cm_watched.specs.declared.settings.Settings.{Settings}
use Rattle.cm_watched.specs.declared.slave.Slave.{Slave}
use Rattle.cm_watch.proofs.Lists.{same_chosen}

-- ---- booted

entry_step : (p q r : Bool) (t : ℕ) (b : Option ℕ) → is_some b ≡ r
    → is_some (unwrap_or (if p then Some (Some t) else (if q then Some None else None)) b) ≡ (p || (not q && r))
entry_step true q r t b is = refl
entry_step false true r t b is = refl
entry_step false false r t b is = is

booted_step : (t : ℕ) (m : Moment) (es : List Entry) (b : Option ℕ) (i : ℕ) → is_some b ≡ is_booted es i
    → is_some (unwrap_or (booted_by t m i) b) ≡ is_booted (with_entry m es) i
booted_step t (moment.Happened (happening.Called e)) es b i is = entry_step (boots e i) (clears e i) (is_booted es i) t b is
booted_step t (moment.Happened (happening.Heard j k)) es b i is = is
booted_step t (moment.Happened (happening.Ended j)) es b i is = is
booted_step t (moment.Happened (happening.Asked j)) es b i is = is
booted_step t (moment.Happened (happening.Ends at)) es b i is = is
booted_step t (moment.Gave g) es b i is = is

-- since some time i is booted exactly where the history says that it is
pub booted_agrees : (past : Past) (i : ℕ) → is_some (booted_since past i) ≡ is_booted (entries_in past) i
booted_agrees [] i = refl
booted_agrees (x ∷ past) i = booted_step x.0 x.1 (entries_in past) (booted_since past i) i (booted_agrees past i)

-- the mandatory slaves that are open are those of the history
pub same_open : (slaves : List Slave) (net : Network) (s : Settings) (past : Past) → AreSlaves slaves net s past
    → filter (is_pending_by slaves net pending.Open) node_ids ≡ open_of (listing net) (entries_in past)
same_open slaves net s past has =
    same_chosen (is_pending_by slaves net pending.Open) (λ i. is_mandatory (listing net) i && not (is_booted (entries_in past) i))
    (λ i low high. ap (λ (k : Slave). is_mandatory (listing net) i && not (is_some k.booted)) (has i low high)
    ∙ ap (λ (b : Bool). is_mandatory (listing net) i && not b) (booted_agrees past i))

-- ---- the phase

phase_step : (net : Network) (m : Moment) (es : List Entry)
    → phase_behind net m (open_of (listing net) (with_entry m es)) (phase_of (listing net) es) ≡ phase_of (listing net) (with_entry m es)
phase_step net (moment.Happened (happening.Called e)) es = sym (phase_more (listing net) es e)
phase_step net (moment.Happened (happening.Heard j k)) es = refl
phase_step net (moment.Happened (happening.Ended j)) es = refl
phase_step net (moment.Happened (happening.Asked j)) es = refl
phase_step net (moment.Happened (happening.Ends at)) es = refl
phase_step net (moment.Gave g) es = refl

own_step : (net : Network) (m : Moment) (es : List Entry)
    → own_behind net m (phase_of (listing net) es) (phase_of (listing net) (with_entry m es)) (own_of (listing net) es) ≡ own_of (listing net) (with_entry m es)
own_step net (moment.Happened (happening.Called e)) es = refl
own_step net (moment.Happened (happening.Heard j k)) es = refl
own_step net (moment.Happened (happening.Ended j)) es = refl
own_step net (moment.Happened (happening.Asked j)) es = refl
own_step net (moment.Happened (happening.Ends at)) es = refl
own_step net (moment.Gave g) es = refl

-- what is kept of the network, after one moment more
pub course_step : (net : Network) (past : Past) (t : ℕ) (m : Moment)
    → course_after net t m (open_of (listing net) (entries_in ((t, m) ∷ past))) (course_of net past) ≡ course_of net ((t, m) ∷ past)
course_step net past t m =
    ap (λ p. record {
      phase = p;
      own = own_behind net m (course_of net past).phase p (course_of net past).own;
      started = (course_of net ((t, m) ∷ past)).started;
      is_stopped = (course_of net ((t, m) ∷ past)).is_stopped;
      is_over_given = (course_of net ((t, m) ∷ past)).is_over_given;
      is_end_given = (course_of net ((t, m) ∷ past)).is_end_given;
      beat = (course_of net ((t, m) ∷ past)).beat;
    }) (phase_step net m (entries_in past))
    ∙ ap (λ (o : NmtState). record (course_of net ((t, m) ∷ past)) { own = o }) (own_step net m (entries_in past))

-- in another phase than Booting no call decides
same_then : (p : Phase) (a b : Option Phase) → is_booting p ≡ false → phase_then p a ≡ phase_then p b
same_then phase.Booting a b other = absurd (cc)
same_then phase.Idle a b other = refl
same_then phase.Ready a b other = refl
same_then phase.Halted a b other = refl

same_behind : (net : Network) (m : Moment) (xs ys : List ℕ) (p : Phase) → is_booting p ≡ false → phase_behind net m xs p ≡ phase_behind net m ys p
same_behind net (moment.Happened (happening.Called e)) xs ys p other =
    ap (λ (q : Phase). if is_start_by e.call e.reply then phase.Booting else q) (same_then p _ _ other)
same_behind net (moment.Happened (happening.Heard j k)) xs ys p other = refl
same_behind net (moment.Happened (happening.Ended j)) xs ys p other = refl
same_behind net (moment.Happened (happening.Asked j)) xs ys p other = refl
same_behind net (moment.Happened (happening.Ends at)) xs ys p other = refl
same_behind net (moment.Gave g) xs ys p other = refl

-- what is kept of the network by the open slaves is known by those that are open while they are being booted
pub course_while : (net : Network) (t : ℕ) (m : Moment) (xs : List ℕ) (c after : Course) (none : Bool) → none ≡ (is_booting c.phase && is_empty xs)
    → ((ys : List ℕ) → none ≡ is_empty ys → after ≡ course_after net t m ys c) → after ≡ course_after net t m xs c
course_while net t m xs c after none is known = by_booting (is_booting c.phase) refl
  where
    by_booting : (b : Bool) → is_booting c.phase ≡ b → after ≡ course_after net t m xs c
    by_booting true booting = known xs (is ∙ ap (λ b. b && is_empty xs) booting)
    by_booting false other =
        known (0 ∷ []) (is ∙ ap (λ b. b && is_empty xs) other)
        ∙ ap (λ p. record {
          phase = p;
          own = own_behind net m c.phase p c.own;
          started = (course_after net t m xs c).started;
          is_stopped = (course_after net t m xs c).is_stopped;
          is_over_given = (course_after net t m xs c).is_over_given;
          is_end_given = (course_after net t m xs c).is_end_given;
          beat = (course_after net t m xs c).beat;
        }) (same_behind net m (0 ∷ []) xs c.phase other)
