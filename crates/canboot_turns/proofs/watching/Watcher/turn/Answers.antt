use Rattle.std.proofs.Common.{◌≡◌, ◌∙◌, ap, subst, sym}
use Rattle.std.specs.Prelude.{is_some}
use Rattle.cm_history.specs.declared.call.Entry.{Entry}
use Rattle.cm_watch.specs.Paces.{behind_at}
use Rattle.canboot_turns.specs.Causes.{Any, GoesOnAs, HasSent, course_stand, stand_of}
use Rattle.canboot_turns.specs.Going.{Follows}
use Rattle.canboot_turns.specs.declared.progress.Progress.{Progress}
use Rattle.canboot_turns.proofs.Ends.{ended_on, late_on, none_if, some_if, turned_on}
use Rattle.canboot_turns.proofs.Going.{keeps_sent, on_and_on, on_as, still}
use Rattle.canboot_turns.proofs.watching.Watcher.turn.Goals as goal
use Rattle.canboot_turns.proofs.watching.Watcher.turn.Goals.{After-keep_up}

-- what happened was taken, and shown, and the rest kept up with it
so_far : (g : _) (c : After-keep_up g)
    → GoesOnAs (HasSent c.now-now.result) g.B.BusName.format g.B.BusName.text g.B.BusName.typed (stand_of c.show.new.self) (course_stand c.keep_up.new.self c.show.new.self.operator c.show.new.self.heard_upto)
    → GoesOnAs (HasSent c.now-now.result) g.B.BusName.format g.B.BusName.text g.B.BusName.typed (stand_of c.args.self.now) (course_stand c.keep_up.new.self c.show.new.self.operator c.show.new.self.heard_upto)
so_far g c kept =
    let began = stand_of c.args.self.now in
    let took = stand_of c.take_all.new.self in
    let shown = stand_of c.show.new.self in
    let kept_up = course_stand c.keep_up.new.self c.show.new.self.operator c.show.new.self.heard_upto in
    on_as g.B.BusName.format g.B.BusName.text g.B.BusName.typed (HasSent c.now-now.result) Any (keeps_sent c.now-now.result) began shown kept_up
    (on_and_on g.B.BusName.format g.B.BusName.text g.B.BusName.typed began took shown c.in_ok-take_all.ensures.goes_on
    (still g.B.BusName.format g.B.BusName.text g.B.BusName.typed took shown (ap (λ k. k.network.now) c.show.ensures.course) c.show.ensures.calls c.show.ensures.heard
    (λ s past f. subst (λ (p : Progress Entry). Follows p took.net s past) (sym (ap (λ k. k.progress) c.show.ensures.course)) f)))
    kept

pub returns-then-not-look-clause-goes_on : goal.returns-then-not-look-clause-goes_on
returns-then-not-look-clause-goes_on g c =
    let shown = c.show.new.self in
    let kept_up = course_stand c.keep_up.new.self shown.operator shown.heard_upto in
    let now = c.now-now.result in
    let received = c.bytes.result in (
      shown.pace,
      now,
      received,
      c.look.ensures.kept,
      late_on g.B.BusName.format g.B.BusName.text g.B.BusName.typed (stand_of c.args.self.now) kept_up now (is_some (behind_at shown.pace now received))
          (some_if (behind_at shown.pace now received) (sym c.look.ensures.answer ∙ c.if-not-look.true))
          (so_far g (goal.at.returns-then-not-look-clause-goes_on g c).After-keep_up (c.in_ok-keep_up.ensures.goes_on shown.operator shown.heard_upto)),
    )

pub returns-clause-goes_on : goal.returns-clause-goes_on
returns-clause-goes_on g c =
    let shown = c.show.new.self in
    let kept_up = course_stand c.keep_up.new.self shown.operator shown.heard_upto in
    let now = c.now-now.result in
    let received = c.bytes.result in (
      shown.pace,
      now,
      received,
      c.make_steps.ensures.pace ∙ c.look.ensures.kept,
      turned_on g.B.BusName.format g.B.BusName.text g.B.BusName.typed (stand_of c.args.self.now) kept_up (stand_of c.make_steps.new.self) now (is_some (behind_at shown.pace now received))
          (none_if (behind_at shown.pace now received) (sym c.look.ensures.answer ∙ c.if-not-look.false))
          (so_far g (goal.at.returns-clause-goes_on g c).After-keep_up (c.in_ok-keep_up.ensures.goes_on shown.operator shown.heard_upto))
          (ap (λ n. n.now) c.make_steps.ensures.network) c.make_steps.ensures.heard c.in_ok-make_steps.ensures.given c.in_ok-make_steps.ensures.made,
    )

pub returns-then-branch-clause-asked : goal.returns-then-branch-clause-asked
returns-then-branch-clause-asked g c = λ e.
    let shown = c.show.new.self in
    let kept_up = course_stand c.keep_up.new.self shown.operator shown.heard_upto in
    ended_on g.B.BusName.format g.B.BusName.text g.B.BusName.typed (stand_of c.args.self.now) kept_up (stand_of c.make_steps.new.self) c.now-now.result
    (so_far g (goal.at.returns-then-branch-clause-asked g c).After-keep_up (c.in_ok-keep_up.ensures.goes_on shown.operator shown.heard_upto))
    c.make_steps.ensures.heard c.in_ok-make_steps.ensures.given c.in_ok-make_steps.ensures.made (λ s past f. sym (c.in_ok-make_steps.ensures.ended s past f) ∙ c.if-branch.true)
