use Rattle.cm_growing.specs.Unnamed.{log_of}
use Rattle.register_tests.proofs.versions.versions_follow_a_register.Given as goal

abbrev pub ghosts-follow-K-Ledger : goal.ghosts-follow-K-Ledger
ghosts-follow-K-Ledger g a = record { name = a.opened.blank.name; parts = a.opened.seats }

abbrev pub ghosts-follow-K-HistoryName : goal.ghosts-follow-K-HistoryName
ghosts-follow-K-HistoryName g a = record { net = a.opened.net.now; log = log_of a.opened.log }

abbrev pub ghosts-follow-K-RunName : goal.ghosts-follow-K-RunName
ghosts-follow-K-RunName g a = record { seats = a.opened.seats; limit = a.opened.limit }
