-- Why a call of an attempt wasn't made, seen from an earlier moment of its seat.
use Rattle.std.proofs.Common.{ℕ, List, [], ◌∷◌, ◌++◌}
use Rattle.std.specs.Prelude.{All}
use Rattle.std.proofs.lemmas.List.Elements.{All-push}
use Rattle.cm_nmt.specs.Listing.{Listing}
use Rattle.cm_register.specs.Reads.{HasMadeCalls}
use Rattle.cm_register.specs.SeatViews.{SeatView}
use Rattle.cm_register.proofs.MadeCalls.{more_made}
use Rattle.cm_run.specs.Faults.{EndsForCause, FailsForCause}
use Rattle.cm_run.specs.declared.outcome.Last.{Last}
use Rattle.cm_run.specs.declared.outcome.Last.TheVariants as last
use Rattle.cm_run.specs.declared.outcome.Outcome.{Outcome}

module _ (net : Listing) (seats limit : ℕ) where
  pub cause_behind : (i : ℕ) (first seat : SeatView) (l : Last) → HasMadeCalls first seat → EndsForCause net seats limit i seat l → EndsForCause net seats limit i first l
  cause_behind i first seat (last.Fault f) m c = record { then = c.then; made = more_made first seat c.then m c.made; call = c.call; boots = c.boots; cause = c.cause }
  cause_behind i first seat (last.Status s) m c = tt
  cause_behind i first seat (last.Refused r) m c = tt
  cause_behind i first seat last.Left m c = tt

  pub causes_more : (first seat : SeatView) (os : List Outcome) (o : Outcome) → HasMadeCalls first seat → All (FailsForCause net seats limit first) os → FailsForCause net seats limit seat o
      → All (FailsForCause net seats limit first) (os ++ o ∷ [])
  causes_more first seat os o m all c =
      All-push (FailsForCause net seats limit first) os o all (cause_behind o.id first seat o.last m c)
