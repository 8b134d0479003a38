use Rattle.cm_growing.specs.Unnamed.{log_of}
use Rattle.register_tests.proofs.teams.teams_make_131072_calls.Given as goal

abbrev pub ghosts-make_calls-K-Ledger : goal.ghosts-make_calls-K-Ledger
ghosts-make_calls-K-Ledger g a = record { name = a.opened.blank.name; parts = a.opened.seats }

abbrev pub ghosts-make_calls-K-HistoryName : goal.ghosts-make_calls-K-HistoryName
ghosts-make_calls-K-HistoryName g a = record { net = a.opened.net.now; log = log_of a.opened.log }

abbrev pub ghosts-make_calls-K-RunName : goal.ghosts-make_calls-K-RunName
ghosts-make_calls-K-RunName g a = record { seats = a.opened.seats; limit = a.opened.limit }
