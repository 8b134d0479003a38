use Rattle.std.proofs.Common.{◌∙◌, List, subst, sym}
use Rattle.std.specs.Prelude.{All}
use Rattle.canboot_scan.specs.declared.found.Found.{Found}
use Rattle.canboot_scan.specs.Scanning.{IsHeardDevice}
use Rattle.canboot_scan.proofs.HeardDevices.{all_heard_as_listed}
use Rattle.canboot_scan.proofs.scan.scan_check.Goals as goal

pub returns-in-Ok-compare-clause-done : goal.returns-in-Ok-compare-clause-done
returns-in-Ok-compare-clause-done g c = λ e.
    let format = c.args.scan.options.format in
    let text = g.I.Read.remaining c.args.scan.ends.received in
    all_heard_as_listed format text c.args.network.now c.as_slice.result.now
    (subst (All (IsHeardDevice format text)) (sym c.as_slice.ensures.value) c.in-Ok.ensures)
    (c.in-Ok-compare.ensures (sym c.as_slice-in-Ok-compare.ensures.value ∙ c.put_compared.ensures.none e))
