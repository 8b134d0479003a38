use Rattle.std.proofs.Common.{ap, sym, subst, ◌∙◌}
use Rattle.canboot_scan.specs.Scanning.{IsHeardDevice}
use Rattle.canboot_scan.specs.declared.found.Found.{Found}
use Rattle.canboot_scan.proofs.HeardDevices.{heard_device}
use Rattle.canboot_scan.proofs.device.hear_device.Goals as goal

pub of-requires : goal.of-requires
of-requires g c =
    subst (λ (f : Found). IsHeardDevice g.B.BusName.format g.B.BusName.text f) (sym c.found_as.ensures)
    (heard_device g.B.BusName.format g.B.BusName.text c.args.id g.P.Port.sends c.end_boot.new.self c.identify.new.bus c.in_ok-identity.identity c.end_boot.ensures.ended c.in_ok-identity.ensures.some)

pub returns : goal.returns
returns g c = ap (λ (f : Found). f.id) (c.of.ensures ∙ c.found_as.ensures)
