use Rattle.std.proofs.Common.{◌≡◌, ◌∙◌, ◌∷◌, [], Err, Ok, Result, ap, subst, sym}
use Rattle.cm_crew.specs.CallsMade.{calls_made}
use Rattle.cm_netlist.specs.Network.{Network}
use Rattle.cm_register.specs.SeatViews.{SeatView}
use Rattle.cm_run.specs.declared.recording.NoHistory.{NoHistory}
use Rattle.cm_run.specs.declared.recording.NoHistory.TheVariants.{NoWorker, NotMaster}
use Rattle.canboot_turns.specs.Causes.{stand_of}
use Rattle.canboot_turns.specs.Driven.{IsDriven}
use Rattle.canboot_turns.proofs.Driven.{driven}
use Rattle.canboot_live.proofs.threads.fn.run_threads.scope.Goals as goal
use Rattle.canboot_live.proofs.threads.fn.run_threads.scope.Goals.{then-is_started, else-is_started, then-is_started-2, else-is_started-2}

not_both : {X E : Type 0} (x : X) (e : E) (r : Result X E) → r ≡ Err e → r ≡ Ok x → ⊥
not_both x e r is so = cc

not_err : {X E : Type 0} (x : X) (e : E) (r : Result X E) → r ≡ Ok x → r ≡ Err e → ⊥
not_err x e r is so = cc

other_err : {X : Type 0} (r : Result X NoHistory) → r ≡ Err NoWorker → r ≡ Err NotMaster → ⊥
other_err r is so = cc

same_ok : {X E : Type 0} (x y : X) (r : Result X E) → r ≡ Ok x → r ≡ Ok y → x ≡ y
same_ok x y r is so = cc

pub returns : goal.returns
returns g c =
    let format = g.B.BusName.format in
    let received = g.B.BusName.text in
    let typed = g.B.BusName.typed in
    let setting = c.captures.setting.now in
    let began = c.new-watcher.result in
    let kept : c.if-is_started-2.watcher.operator ≡ c.release_workers.new.self.operator =
    elim c.if-is_started-2.branch [
      | then-is_started-2 v ↦ ap (λ k. k.operator) v.watcher-is ∙ v.tell_rest.ensures.calls
      | else-is_started-2 v ↦ ap (λ k. k.operator) v.watcher-is
    ] in
    record {
      none = λ e.
          elim c.if-is_started.branch [
            | then-is_started w ↦ absurd (not_err _ _ _ w.ending-is e)
            | else-is_started w ↦ absurd (other_err _ w.ending-is e)
          ];
      driven = λ e start.
          elim c.if-is_started.branch [
            | then-is_started w ↦
                let seat = w.watch.new.self.operator in
                let same : c.into_operator-operator.result ≡ seat = c.into_operator-operator.ensures ∙ (kept ∙ (c.release_workers.ensures.calls ∙ ap (λ k. k.operator) w.watcher-is)) in
                subst (λ (s : SeatView). IsDriven format received typed setting.bus.network.now setting.options (calls_made s)) (sym same)
                (subst (λ (n : Network). IsDriven format received typed n setting.options (calls_made seat)) (ap (λ n. n.now) c.new-watcher.ensures.network)
                (driven format received typed setting.options (stand_of began) (stand_of w.watch.new.self) (c.new-watcher.ensures.follows began.course.network.now) c.new-watcher.ensures.heard
                (ap calls_made c.new-watcher.ensures.operator ∙ start) (w.watch.ensures (same_ok _ _ _ w.ending-is e))))
            | else-is_started w ↦ absurd (not_both _ _ _ w.ending-is e)
          ];
    }
