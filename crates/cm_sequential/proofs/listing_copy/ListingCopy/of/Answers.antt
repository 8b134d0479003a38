use Rattle.cm_sequential.proofs.Listings.{copied}
use Rattle.cm_sequential.proofs.listing_copy.ListingCopy.of.Goals as goal

pub returns-clause-value : goal.returns-clause-value
returns-clause-value c = copied _ c.args.net.now c.own_id.ensures.kept c.own_id.ensures.value c.startup.ensures c.boot_time.ensures c.terms_by_node.ensures.sized c.terms_by_node.ensures.each
