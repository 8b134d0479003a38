use Rattle.cm_nmt.proofs.Agreeing.{agreeing_is_identified}
use Rattle.cm_nmt.proofs.verdict.status_of_agreeing.Goals as goal

pub status_after_identity-requires : goal.status_after_identity-requires
status_after_identity-requires c = agreeing_is_identified c.args.terms.now c.args.answers.now c.requires.agrees c.requires.settled
