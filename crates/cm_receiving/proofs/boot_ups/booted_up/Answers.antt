use Rattle.cm_receiving.proofs.boot_ups.booted_up.Goals as goal

pub returns-in_err-message : goal.returns-in_err-message
returns-in_err-message c = λ n is. absurd (c.in_err-message.ensures.none n is.0 is.1)
