-- Lines of the frames of steps, one by one.
use Rattle.std.proofs.Common.{◌≡◌, ℕ, Bool, true, false, List, [], ◌∷◌, ◌++◌, Option, refl, sym, subst, map, append_assoc, append-nil}
use Rattle.std.proofs.KnownBytes.{Appends-nil, Appends-trans}
use Rattle.std.specs.List.{filter}
use Rattle.cm_can.specs.declared.frame.CanFrame.{CanFrame}
use Rattle.cm_bus.specs.Outlets.{IsLine, Writes}
use Rattle.cm_can.specs.declared.format.Format.{Format}
use Rattle.cm_netlist.specs.Network.{Network}
use Rattle.cm_nmt.specs.Listing.{node_ids}
use Rattle.cm_telling.proofs.Tries.{same_tries}
use Rattle.cm_watched.specs.Beats.{beat_byte, beat_last, is_beat_due, own_in}
use Rattle.cm_watch.specs.ErrorControl.{error_control_at}
use Rattle.cm_watched.specs.Guarding.{is_guard_due}
use Rattle.cm_watched.specs.Pasts.{Past}
use Rattle.cm_watch.specs.Steps.{given, step_if}
use Rattle.cm_telling.specs.Tried.{Tries}
use Rattle.cm_watched.specs.declared.happening.Moment.TheVariants as moment
use Rattle.cm_watched.specs.declared.happening.Step.{Step}
use Rattle.cm_watched.specs.declared.happening.Step.TheVariants as step
use Rattle.cm_watched.specs.declared.settings.Settings.{Settings}
use Rattle.cm_telling.specs.declared.tried.Tried.{Tried}
use Rattle.cm_watch.proofs.Steps.{given-append}
use Rattle.canboot_turns.specs.Sendings.{AreStepLines, IsFrameFor, WritesSteps, is_frame}

-- ---- lines

-- the line of a step's frame
one_line : (format : Format) (net : Network) (s : Step) (f : CanFrame) (line : List ℕ) → IsFrameFor net s f → IsLine format f line → AreStepLines format net (s ∷ []) line
one_line format net (step.Beat byte) f line is of = (f, line, [], is, of, refl, sym (append-nil line))
one_line format net (step.Guard i) f line is of = (f, line, [], is, of, refl, sym (append-nil line))
one_line format net (step.Lost i) f line is of = elim is [ ]
one_line format net (step.Boot i) f line is of = elim is [ ]
one_line format net (step.Wake i) f line is of = elim is [ ]
one_line format net (step.Signal i b) f line is of = elim is [ ]
one_line format net (step.LeftOut i n) f line is of = elim is [ ]
one_line format net (step.TimeOver ms) f line is of = elim is [ ]
one_line format net (step.AllTried ms) f line is of = elim is [ ]
one_line format net step.End f line is of = elim is [ ]

-- a step that is no frame has none
no_line : (format : Format) (net : Network) (s : Step) → is_frame s ≡ false → AreStepLines format net (s ∷ []) []
no_line format net (step.Beat byte) none = absurd (cc)
no_line format net (step.Guard i) none = absurd (cc)
no_line format net (step.Lost i) none = refl
no_line format net (step.Boot i) none = refl
no_line format net (step.Wake i) none = refl
no_line format net (step.Signal i b) none = refl
no_line format net (step.LeftOut i n) none = refl
no_line format net (step.TimeOver ms) none = refl
no_line format net (step.AllTried ms) none = refl
no_line format net step.End none = refl

-- one step more
lines_more : (format : Format) (net : Network) (steps : List Step) (s : Step) (text line : List ℕ) → AreStepLines format net steps text → AreStepLines format net (s ∷ []) line
    → AreStepLines format net (steps ++ s ∷ []) (text ++ line)
lines_more format net [] s text line are one = subst (λ (t : List ℕ). AreStepLines format net (s ∷ []) (t ++ line)) (sym are) one
lines_more format net (step.Beat byte ∷ steps) s text line are one =
    subst (λ (t : List ℕ). AreStepLines format net (step.Beat byte ∷ (steps ++ s ∷ [])) (t ++ line)) (sym are.6)
    (are.0, are.1, are.2 ++ line, are.3, are.4, lines_more format net steps s are.2 line are.5 one, append_assoc are.1 are.2 line)
lines_more format net (step.Guard i ∷ steps) s text line are one =
    subst (λ (t : List ℕ). AreStepLines format net (step.Guard i ∷ (steps ++ s ∷ [])) (t ++ line)) (sym are.6)
    (are.0, are.1, are.2 ++ line, are.3, are.4, lines_more format net steps s are.2 line are.5 one, append_assoc are.1 are.2 line)
lines_more format net (_ ∷ steps) s text line are one = lines_more format net steps s text line are one

-- ---- what was written

pub wrote_line : (format : Format) (net : Network) (s : Step) (f : CanFrame) (old new : Option (List ℕ)) → IsFrameFor net s f → Writes format f old new → WritesSteps format net (s ∷ []) old new
wrote_line format net s f old new is wrote = (wrote.0, one_line format net s f wrote.0 is wrote.1, wrote.2)

pub wrote_none : (format : Format) (net : Network) (s : Step) (old : Option (List ℕ)) → is_frame s ≡ false → WritesSteps format net (s ∷ []) old old
wrote_none format net s old none = ([], no_line format net s none, Appends-nil old)

pub no_steps_written : (format : Format) (net : Network) (old : Option (List ℕ)) → WritesSteps format net [] old old
no_steps_written format net old = ([], refl, Appends-nil old)

pub written_more : (format : Format) (net : Network) (steps : List Step) (s : Step) (a b c : Option (List ℕ)) → WritesSteps format net steps a b → WritesSteps format net (s ∷ []) b c
    → WritesSteps format net (steps ++ s ∷ []) a c
written_more format net steps s a b c had more =
    (had.0 ++ more.0, lines_more format net steps s had.0 more.0 had.1 more.1, Appends-trans a b c had.0 more.0 had.2 more.2)

-- ---- what came of the boots

beat_tried : (b : Bool) (byte : ℕ) (t : Tried) (now : ℕ) (past : Past) → Tries t past → Tries t (given now (step_if b (step.Beat byte)) past)
beat_tried true byte t now past tries = same_tries t now (moment.Gave (step.Beat byte)) past refl tries
beat_tried false byte t now past tries = tries

guards_tried : (ids : List ℕ) (t : Tried) (now : ℕ) (past : Past) → Tries t past → Tries t (given now (map step.Guard ids) past)
guards_tried [] t now past tries = tries
guards_tried (i ∷ ids) t now past tries = guards_tried ids t now ((now, moment.Gave (step.Guard i)) ∷ past) (same_tries t now (moment.Gave (step.Guard i)) past refl tries)

-- what is sent for error control leaves what came of the boots as it is
pub sent_tried : (net : Network) (s : Settings) (t : Tried) (now : ℕ) (past : Past) → Tries t past → Tries t (given now (error_control_at net s past now) past)
sent_tried net s t now past tries =
    let b = is_beat_due s.heartbeat_ms now (beat_last past) in
    let byte = beat_byte (beat_last past) (own_in net past) in
    let ids = filter (is_guard_due net past now) node_ids in
    subst (λ (q : Past). Tries t q) (sym (given-append now (step_if b (step.Beat byte)) (map step.Guard ids) past))
    (guards_tried ids t now (given now (step_if b (step.Beat byte)) past) (beat_tried b byte t now past tries))
