use Rattle.cm_growing.specs.Unnamed.{log_of}
use Rattle.register_tests.proofs.closing.a_seat_that_was_dropped_is_missing.Given as goal

abbrev pub ghosts-drops_a_seat-K-Ledger : goal.ghosts-drops_a_seat-K-Ledger
ghosts-drops_a_seat-K-Ledger g a = record { name = a.opened.blank.name; parts = a.opened.seats }

abbrev pub ghosts-drops_a_seat-K-HistoryName : goal.ghosts-drops_a_seat-K-HistoryName
ghosts-drops_a_seat-K-HistoryName g a = record { net = a.opened.net.now; log = log_of a.opened.log }

abbrev pub ghosts-drops_a_seat-K-RunName : goal.ghosts-drops_a_seat-K-RunName
ghosts-drops_a_seat-K-RunName g a = record { seats = a.opened.seats; limit = a.opened.limit }
