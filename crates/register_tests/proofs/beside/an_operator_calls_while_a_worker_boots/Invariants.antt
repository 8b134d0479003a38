use Rattle.cm_growing.specs.Unnamed.{log_of}
use Rattle.register_tests.proofs.beside.an_operator_calls_while_a_worker_boots.Given as goal

abbrev pub ghosts-tells-K-Ledger : goal.ghosts-tells-K-Ledger
ghosts-tells-K-Ledger g a = record { name = a.opened.blank.name; parts = a.opened.seats }

abbrev pub ghosts-tells-K-HistoryName : goal.ghosts-tells-K-HistoryName
ghosts-tells-K-HistoryName g a = record { net = a.opened.net.now; log = log_of a.opened.log }

abbrev pub ghosts-tells-K-RunName : goal.ghosts-tells-K-RunName
ghosts-tells-K-RunName g a = record { seats = a.opened.seats; limit = a.opened.limit }
