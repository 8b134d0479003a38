use Rattle.cm_growing.specs.Unnamed.{log_of}
use Rattle.register_tests.proofs.closing.a_full_wire_refuses_a_call.Given as goal

abbrev pub ghosts-lacks_room-K-Ledger : goal.ghosts-lacks_room-K-Ledger
ghosts-lacks_room-K-Ledger g a = record { name = a.opened.blank.name; parts = a.opened.seats }

abbrev pub ghosts-lacks_room-K-HistoryName : goal.ghosts-lacks_room-K-HistoryName
ghosts-lacks_room-K-HistoryName g a = record { net = a.opened.net.now; log = log_of a.opened.log }

abbrev pub ghosts-lacks_room-K-RunName : goal.ghosts-lacks_room-K-RunName
ghosts-lacks_room-K-RunName g a = record { seats = a.opened.seats; limit = a.opened.limit }
