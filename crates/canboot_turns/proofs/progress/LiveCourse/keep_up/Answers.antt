use Rattle.std.proofs.Common.{ℕ, ap, refl}
use Rattle.cm_register.specs.SeatViews.{SeatView}
use Rattle.canboot_turns.specs.Causes.{Any, GoesOnAs, HasSent, course_stand}
use Rattle.canboot_turns.proofs.Going.{keeps_sent, ok_always, on_as, sent_on, still}
use Rattle.canboot_turns.proofs.progress.LiveCourse.keep_up.Goals as goal

pub returns-clause-goes_on : goal.returns-clause-goes_on
returns-clause-goes_on g c =
    let now = c.args.now in
    let began = c.args.self.now in
    let told = c.tell.new.self in
    let sent = c.send_error_control.new.self in
    let all : (seat : SeatView) (heard : ℕ) → GoesOnAs (HasSent now) g.B.BusName.format g.B.BusName.text g.B.BusName.typed (course_stand began seat heard) (course_stand sent seat heard) = λ seat heard.
    on_as g.B.BusName.format g.B.BusName.text g.B.BusName.typed (HasSent now) Any (keeps_sent now) (course_stand began seat heard) (course_stand told seat heard) (course_stand sent seat heard)
    (still g.B.BusName.format g.B.BusName.text g.B.BusName.typed (course_stand began seat heard) (course_stand told seat heard) (ap (λ n. n.now) c.tell.ensures.network) refl refl c.tell.ensures.follows)
    (sent_on g.B.BusName.format g.B.BusName.text g.B.BusName.typed (course_stand told seat heard) (course_stand sent seat heard) now (ap (λ n. n.now) c.send_error_control.ensures.network) refl refl c.in_ok-send_error_control.ensures.given) in
    ok_always c.can_go_on.result all
