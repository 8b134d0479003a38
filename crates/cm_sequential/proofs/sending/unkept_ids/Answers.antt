use Rattle.std.proofs.Common.{rules}
use Rattle.arrayvec.proofs.ArrayVecLemmas.{filter-from_retain}
use Rattle.cm_sequential.proofs.Resets.{unkept}
use Rattle.cm_sequential.proofs.sending.unkept_ids.Goals as goal

pub returns : goal.returns
returns c = unkept c.args.net.now _ _ c.listed_ids-ids.ensures (filter-from_retain _ _ _ (λ x b f' y called. search rules) _ _ c.retain.ensures.filtered)
