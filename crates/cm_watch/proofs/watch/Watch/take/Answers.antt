use Rattle.std.proofs.Common.{◌≡◌, ◌∙◌, ◌∷◌, Bool, ap, refl}
use Rattle.cm_history.specs.Phases.{is_halted, is_ready}
use Rattle.cm_watch.specs.Course.{is_stopped_in, phase_in}
use Rattle.cm_watched.specs.Pasts.{Past}
use Rattle.cm_watch.specs.Telling.{back_while, becomes, told_of}
use Rattle.cm_watch.specs.declared.course.Course.{Course}
use Rattle.cm_watched.specs.declared.happening.Moment.TheVariants as moment
use Rattle.cm_watch.proofs.watch.Watch.take.Goals as goal

pub returns-clause-told : goal.returns-clause-told
returns-clause-told c = λ s past w.
    let net = c.args.network.now in
    let h = c.args.happening.now in
    let after : Past = (0, moment.Happened h) ∷ past in
    let a = c.note.ensures s past w in
    let ready : c.becomes.result ≡ (told_of net s past h).is_ready =
    c.becomes.ensures
    ∙ ap (λ (b : Bool). becomes b c.is_ready-2.result) (c.is_ready.ensures ∙ ap (λ (x : Course). is_ready x.phase) w.course)
    ∙ ap (λ (b : Bool). becomes (is_ready (phase_in net past)) b) (c.is_ready-2.ensures ∙ ap (λ (x : Course). is_ready x.phase) a.course) in
    let halted : c.becomes-2.result ≡ (told_of net s past h).is_halted =
    c.becomes-2.ensures
    ∙ ap (λ (b : Bool). becomes b c.is_halted-2.result) (c.is_halted.ensures ∙ ap (λ (x : Course). is_halted x.phase) w.course)
    ∙ ap (λ (b : Bool). becomes (is_halted (phase_in net past)) b) (c.is_halted-2.ensures ∙ ap (λ (x : Course). is_halted x.phase) a.course) in
    let stopped : c.becomes-3.result ≡ (told_of net s past h).is_stopped =
    c.becomes-3.ensures
    ∙ ap (λ (x : Course). becomes x.is_stopped c.note.new.self.course.is_stopped) w.course
    ∙ ap (λ (x : Course). becomes (is_stopped_in past) x.is_stopped) a.course in
    let back : c.back_while.result ≡ (told_of net s past h).back = c.back_while.ensures ∙ ap (λ (x : Course). back_while x.is_stopped h) w.course in
    let given_up : c.given_up-given_up.result ≡ (told_of net s past h).given_up = c.given_up-given_up.ensures net s past w in
    rw (ready, halted, stopped, back, c.unwatched_by.ensures, given_up) refl
