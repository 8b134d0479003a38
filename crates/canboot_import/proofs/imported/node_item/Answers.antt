use Rattle.std.proofs.Common.{inl, inr}
use Rattle.std.specs.Prelude.{codes}
use Rattle.cm_device.specs.FileValues.{Stands}
use Rattle.canboot_import.specs.LinesRead.{StandsAsNode}
use Rattle.canboot_import.proofs.Given.{if_there, renamed}
use Rattle.canboot_import.proofs.imported.node_item.Goals as goal

pub returns-in-Some : goal.returns-in-Some
returns-in-Some c = λ file all.
    inl (renamed file (codes "DeviceComissioning") c.as_bytes.result.now (codes "NodeID") c.as_bytes-2.result.now c.in-Some.item.now.value.now
    c.as_bytes.ensures.value c.as_bytes-2.ensures.value (c.in-Some.ensures.given file all))

pub returns-in-None : goal.returns-in-None
returns-in-None c = λ file all.
    let name = c.as_bytes-in-None.result.now in
    let key = c.as_bytes-in-None-2.result.now in
    if_there c.given_item-in-None.result (λ i. Stands file name key i.now.value.now) (λ i. StandsAsNode file i.now.value.now)
    (λ i stands. inr (renamed file (codes "DeviceCommissioning") name (codes "NodeID") key i.now.value.now c.as_bytes-in-None.ensures.value c.as_bytes-in-None-2.ensures.value stands))
    (c.given_item-in-None.ensures.given file all)
