-- A live run of a list that was read.
use Rattle.std.proofs.Common.{ℕ, Bool, List, Option, inl, inr}
use Rattle.cm_netlist.specs.Network.{Network}
use Rattle.cm_netlist.specs.ListsRead.{IsList}
use Rattle.cm_format.specs.Runs.{IsRunOn}
use Rattle.cm_format.proofs.Runs.{run_of}
use Rattle.cm_report.specs.declared.report_form.ReportForm.{ReportForm}
use Rattle.cm_can.specs.declared.format.Format.{Format}
use Rattle.cm_bus.specs.declared.options.LiveOptions.{LiveOptions}
use Rattle.cm_bus.specs.declared.outlet.Outlet.{Outlet}
use Rattle.canboot_live.specs.Run.{FailsToLive, FailsToLiveOf, RunsLive, RunsLiveOf}

module _ {W : Type 0} (contents : W → Option (List ℕ)) (format : Format) (received typed : Option (List ℕ)) (net : Network) (workers limit : ℕ)
    (input input' output output' : Option (List ℕ)) (journal journal' : Option (Option (List ℕ))) (messages messages' : Option (Outlet W)) (list : IsList input input' net) where
  pub runs_of : (options : LiveOptions) (report : ReportForm) → RunsLiveOf contents format received typed options (IsRunOn net workers limit) report output output' journal journal' messages messages'
      → RunsLive contents format received typed options report workers limit input input' output output' journal journal' messages messages'
  runs_of options report r = record {
    of = r.of;
    run = run_of net workers limit input input' list r.of r.run;
    heard = r.heard;
    operated = r.operated;
    driven = r.driven;
    reported = r.reported;
    recorded = r.recorded;
    sent = r.sent;
    well = r.well;
  }

  pub fails_of : (failed : Bool) → FailsToLiveOf contents format received typed (IsRunOn net workers limit) output output' journal journal' failed messages messages'
      → FailsToLive contents format received typed workers limit input input' output output' journal journal' failed messages messages'
  fails_of failed (inl kept) = inl kept
  fails_of failed (inr r) = inr (record { of = r.of; run = run_of net workers limit input input' list r.of r.run; recorded = r.recorded; sent = r.sent })
