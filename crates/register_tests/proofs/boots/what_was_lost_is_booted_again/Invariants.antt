use Rattle.cm_growing.specs.Unnamed.{log_of}
use Rattle.register_tests.proofs.boots.what_was_lost_is_booted_again.Given as goal

abbrev pub ghosts-boots_again-K-Ledger : goal.ghosts-boots_again-K-Ledger
ghosts-boots_again-K-Ledger g a = record { name = a.opened.blank.name; parts = a.opened.seats }

abbrev pub ghosts-boots_again-K-HistoryName : goal.ghosts-boots_again-K-HistoryName
ghosts-boots_again-K-HistoryName g a = record { net = a.opened.net.now; log = log_of a.opened.log }

abbrev pub ghosts-boots_again-K-RunName : goal.ghosts-boots_again-K-RunName
ghosts-boots_again-K-RunName g a = record { seats = a.opened.seats; limit = a.opened.limit }
