use Rattle.std.proofs.Common.{sym, ◌∙◌}
use Rattle.cm_sequential.proofs.Listings.{none_first}
use Rattle.cm_sequential.proofs.listing_copy.mandatory_slaves.Goals as goal

pub loop-node-init : goal.loop-node-init
loop-node-init c = λ i. c.empty-slaves.ensures i ∙ sym (none_first c.args.net.now c.own_id-own.ensures.kept i)
