use Rattle.std.proofs.Common.{◌∙◌, ◌∷◌, ◌&&◌, ℕ, List, ap, subst, sym}
use Rattle.cm_history.specs.History.{is_empty, open_of}
use Rattle.cm_history.specs.Phases.{is_booting}
use Rattle.cm_netlist.specs.Network.{listing}
use Rattle.cm_watch.specs.Ends.{ends_by}
use Rattle.cm_watch.specs.Kept.{course_after}
use Rattle.cm_watched.specs.Pasts.{entries_in}
use Rattle.cm_watch.specs.Watches.{AreSlaves}
use Rattle.cm_watch.specs.declared.course.Course.{Course}
use Rattle.cm_watched.specs.declared.settings.Settings.{Settings}
use Rattle.cm_watch.proofs.Courses.{course_step, course_while, same_open}
use Rattle.cm_watch.proofs.watch.Watch.note.Goals as goal

pub returns : goal.returns
returns c = λ s past w.
    let net = c.args.network.now in
    let t = c.args.now_ms in
    let m = c.args.moment.now in
    let old = c.args.self.now in
    let before : AreSlaves old.slaves net old.settings past = subst (λ (x : Settings). AreSlaves old.slaves net x past) (sym w.settings) w.slaves in
    let after : AreSlaves c.take_all.new.slaves net s ((t, m) ∷ past) = subst (λ (x : Settings). AreSlaves c.take_all.new.slaves net x ((t, m) ∷ past)) w.settings (c.take_all.ensures past before) in
    let open_is = same_open c.take_all.new.slaves net s ((t, m) ∷ past) after in
    record {
      settings = w.settings;
      slaves = after;
      course = course_while net t m (open_of (listing net) (entries_in ((t, m) ∷ past))) old.course c.after-self.result c.is_none_open-none_open.result
          (c.is_none_open-none_open.ensures ∙ ap (λ (xs : List ℕ). is_booting old.course.phase && is_empty xs) open_is) c.after-self.ensures
          ∙ ap (λ (x : Course). course_after net t m (open_of (listing net) (entries_in ((t, m) ∷ past))) x) w.course
          ∙ course_step net past t m;
      ends = c.ends_by-self.ensures ∙ ap (ends_by m) w.ends;
    }
