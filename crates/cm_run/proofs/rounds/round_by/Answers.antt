use Rattle.std.proofs.Common.{◌∙◌, refl, sym, arith}
use Rattle.cm_register.proofs.MadeCalls.{more_made, none_made}
use Rattle.cm_netlist.specs.Network.{listing}
use Rattle.cm_run.proofs.Attempts.{failed_first, failed_more, finished}
use Rattle.cm_run.proofs.Faults.{cause_behind}
use Rattle.cm_run.proofs.rounds.round_by.Goals as goal

pub loop-failed-init : goal.loop-failed-init
loop-failed-init g c = record {
  number = refl;
  calls = none_made c.args.seat.now;
  failed = failed_first g.B.Bus.step g.L.Lookout.looks g.K.HistoryName.net c.args.id c.args.seat.now.list c.args.bus.now;
}

pub loop-failed-preserved : goal.loop-failed-preserved
loop-failed-preserved g c = record {
  number = c.attempt-tried.ensures.number ∙ c.loop-failed.invariant.number;
  calls = more_made _ _ _ c.loop-failed.invariant.calls c.attempt-tried.ensures.calls;
  failed = failed_more g.B.Bus.step g.L.Lookout.looks g.K.HistoryName.net c.args.id c.loop-failed.failed _ _ _ _ _ _ _ c.loop-failed.invariant.failed c.attempt-tried.ensures.gives c.attempt-tried.ensures.list (sym c.if-not-is_followed.ensures);
}

pub returns-then-not-is_followed-clause-calls : goal.returns-then-not-is_followed-clause-calls
returns-then-not-is_followed-clause-calls g c = more_made _ _ _ c.loop-failed.invariant.calls c.attempt-tried.ensures.calls

pub returns-then-not-is_followed-clause-round : goal.returns-then-not-is_followed-clause-round
returns-then-not-is_followed-clause-round g c =
    finished g.B.Bus.step g.L.Lookout.looks g.K.HistoryName.net c.args.id c.args.most _ c.loop-failed.failed _ _ _ _ _ _ _ c.loop-failed.invariant.failed c.attempt-tried.ensures.gives c.attempt-tried.ensures.list
    refl refl (omega (arith, c.loop-failed-test.true)) (λ follows. absurd (cc (c.if-not-is_followed.ensures, follows))) c.last_of.ensures

pub returns-clause-calls : goal.returns-clause-calls
returns-clause-calls g c = more_made _ _ _ c.loop-failed.invariant.calls c.attempt-tried-2.ensures.calls

pub returns-clause-round : goal.returns-clause-round
returns-clause-round g c =
    finished g.B.Bus.step g.L.Lookout.looks g.K.HistoryName.net c.args.id c.args.most _ c.loop-failed.failed _ _ _ _ _ _ _ c.loop-failed.invariant.failed c.attempt-tried-2.ensures.gives c.attempt-tried-2.ensures.list
    refl (omega (arith, c.loop-failed-test.false, c.loop-failed.auto.failed-end, c.requires)) (omega arith) (λ follows. refl) c.last_of-2.ensures

pub returns-then-not-is_followed-clause-cause : goal.returns-then-not-is_followed-clause-cause
returns-then-not-is_followed-clause-cause g c =
    rw c.last_of.ensures (cause_behind (listing g.K.HistoryName.net) g.K.RunName.seats g.K.RunName.limit c.args.id _ _ _ c.loop-failed.invariant.calls c.attempt-tried.ensures.cause)

pub returns-clause-cause : goal.returns-clause-cause
returns-clause-cause g c =
    rw c.last_of-2.ensures (cause_behind (listing g.K.HistoryName.net) g.K.RunName.seats g.K.RunName.limit c.args.id _ _ _ c.loop-failed.invariant.calls c.attempt-tried-2.ensures.cause)
