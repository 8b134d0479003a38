use Rattle.std.proofs.Common.{◌≡◌, subst}
use Rattle.std.specs.Prelude.{Some}
use Rattle.std.specs.List.{All}
use Rattle.std.proofs.lemmas.List.{take_all}
use Rattle.std.proofs.lemmas.List.Elements.{All-more}
use Rattle.cm_netlist.specs.Network.{Network, terms}
use Rattle.canboot_scan.specs.Scans.{listed_as}
use Rattle.canboot_scan.specs.declared.found.Found.{Found}
use Rattle.canboot_scan.proofs.listing.are_listed.Goals as goal

-- the device is listed as it was found
abbrev IsListed : Network → Found → Type 0
IsListed net f = terms net f.id ≡ Some (listed_as f)

pub loop-one-preserved : goal.loop-one-preserved
loop-one-preserved c =
    let P : Found → Type 0 = IsListed c.args.network.now in
    All-more P c.args.found.now c.loop-one.one-index c.one-item.result c.loop-one-test.true c.loop-one.invariant
    (subst P c.one-item.is (c.is_listed.ensures c.if-not-is_listed.false))

pub returns : goal.returns
returns c = λ yes.
    let P : Found → Type 0 = IsListed c.args.network.now in
    subst (All P) (take_all c.loop-one.one-index c.args.found.now c.loop-one-test.false) c.loop-one.invariant
