use Rattle.cm_growing.specs.Unnamed.{log_of}
use Rattle.register_tests.proofs.readers.opens_and_works.Given as goal

abbrev pub ghosts-works-K-Ledger : goal.ghosts-works-K-Ledger
ghosts-works-K-Ledger g a = record { name = a.opened.blank.name; parts = a.opened.seats }

abbrev pub ghosts-works-K-HistoryName : goal.ghosts-works-K-HistoryName
ghosts-works-K-HistoryName g a = record { net = a.opened.net.now; log = log_of a.opened.log }

abbrev pub ghosts-works-K-RunName : goal.ghosts-works-K-RunName
ghosts-works-K-RunName g a = record { seats = a.opened.seats; limit = a.opened.limit }
