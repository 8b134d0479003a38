use Rattle.std.proofs.lemmas.List.Elements.{All-push, All-same}
use Rattle.canboot_scan.specs.Scanning.{IsHeardDevice}
use Rattle.canboot_scan.specs.declared.found.Found.{Found}
use Rattle.canboot_scan.proofs.scanned.in_order.Goals as goal

pub loop-device-preserved : goal.loop-device-preserved
loop-device-preserved g c =
    let P : Found → Type 0 = IsHeardDevice g.B.BusName.format g.B.BusName.text in
    All-same P _ _ c.in_ok-push.ensures.items
    (All-push P c.loop-device.found.items c.found.result c.loop-device.invariant c.found.ensures.heard)
