use Rattle.std.proofs.Common.{List, refl, sym, ◌∙◌, subst}
use Rattle.std.specs.Prelude.{OnOk}
use Rattle.std.specs.Io.KnownBytes.{Appends}
use Rattle.cm_history.specs.declared.call.Entry.{Entry}
use Rattle.cm_format.specs.ReportJson.{report_json}
use Rattle.cm_versions.proofs.reader.VersionReader.json.Goals as goal

pub returns-clause-written : goal.returns-clause-written
returns-clause-written g c =
    let a = g.W.Write.contents c.args.out.now in
    let b = g.W.Write.contents c.json.new.out in
    subst (λ (entries : List Entry). OnOk c.json.result (Appends a b (report_json g.K.HistoryName.net entries)))
    (sym (c.if-not-keep.ensures.seen refl ∙ c.past.ensures)) c.json.ensures
