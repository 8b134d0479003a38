use Rattle.std.proofs.Common.{ap, [], ◌∙◌}
use Rattle.cm_netlist.specs.Network.{listing}
use Rattle.cm_nmt.specs.Listing.{Listing}
use Rattle.cm_history.proofs.Runs.{run_said}
use Rattle.cm_sequential.proofs.Listings.{lists_nodes}
use Rattle.cm_sequential.proofs.Standing.{said_shown}
use Rattle.cm_sequential.proofs.manager.Manager.new.Goals as goal

pub returns-clause-stands : goal.returns-clause-stands
returns-clause-stands c =
    let net = listing c.args.net.now in
    record {
      network = c.of-listing.ensures.kept;
      same_listing = c.of-listing.ensures.value;
      same_state = said_shown c.idle.result net [] (c.idle.ensures.fits.own_id ∙ ap (λ (l : Listing). l.own) c.of-listing.ensures.value)
          (c.idle.ensures.machine ∙ run_said net [] (lists_nodes c.args.net.now c.of-listing.ensures.kept) tt);
    }
