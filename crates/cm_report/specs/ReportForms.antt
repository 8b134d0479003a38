-- The forms of the status report (own).
use Rattle.std.specs.Prelude.{ℕ, List}
use Rattle.cm_netlist.specs.Network.{Network}
use Rattle.cm_history.specs.declared.call.Entry.{Entry}
use Rattle.cm_format.specs.Report.{report_text}
use Rattle.cm_format.specs.ReportJson.{report_json}
use Rattle.cm_report.specs.declared.report_form.ReportForm.{ReportForm}
use Rattle.cm_report.specs.declared.report_form.ReportForm.TheVariants as form

-- the report of a network and its entries, as lines or as a JSON object
abbrev pub report_in : ReportForm → Network → List Entry → List ℕ
report_in form.Text = report_text
report_in form.Json = report_json
