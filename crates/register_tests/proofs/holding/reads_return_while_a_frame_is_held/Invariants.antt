use Rattle.cm_growing.specs.Unnamed.{log_of}
use Rattle.register_tests.proofs.holding.reads_return_while_a_frame_is_held.Given as goal

abbrev pub ghosts-reads_beside_a_held_frame-K-Ledger : goal.ghosts-reads_beside_a_held_frame-K-Ledger
ghosts-reads_beside_a_held_frame-K-Ledger g a = record { name = a.opened.blank.name; parts = a.opened.seats }

abbrev pub ghosts-reads_beside_a_held_frame-K-HistoryName : goal.ghosts-reads_beside_a_held_frame-K-HistoryName
ghosts-reads_beside_a_held_frame-K-HistoryName g a = record { net = a.opened.net.now; log = log_of a.opened.log }

abbrev pub ghosts-reads_beside_a_held_frame-K-RunName : goal.ghosts-reads_beside_a_held_frame-K-RunName
ghosts-reads_beside_a_held_frame-K-RunName g a = record { seats = a.opened.seats; limit = a.opened.limit }
