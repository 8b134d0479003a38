use Rattle.std.proofs.Common.{List, sym, subst}
use Rattle.std.specs.Prelude.{OnOk}
use Rattle.std.specs.Io.KnownBytes.{Appends}
use Rattle.cm_netlist.specs.Network.{Network}
use Rattle.cm_history.specs.declared.call.Entry.{Entry}
use Rattle.cm_format.specs.ReportJson.{report_json}
use Rattle.cm_sequential.specs.Compact.{IsReplayOf}
use Rattle.cm_versions.proofs.version.Version.json.Goals as goal

pub returns : goal.returns
returns g c =
    let a = g.W.Write.contents c.args.out.now in
    let b = g.W.Write.contents c.replay_json.new.out in
    let replay = c.self.inside.replay in
    let past = c.self.inside.past in
    let replayed = subst (λ (net : Network). IsReplayOf replay net past) (sym c.requires) c.self.invariant in
    subst (λ (net : Network). OnOk c.replay_json.result (Appends a b (report_json net c.args.self.now))) c.requires
    (subst (λ (entries : List Entry). OnOk c.replay_json.result (Appends a b (report_json c.args.net.now entries))) c.self.view_is
    (c.replay_json.ensures.written past replayed))
