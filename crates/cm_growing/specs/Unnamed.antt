-- Which history it is that has no name yet (own).
use Rattle.logbook.specs.Pages.{Book}
use Rattle.cm_netlist.specs.Network.{Network}
use Rattle.cm_growing.specs.Items.{net_in}
use Rattle.cm_growing.specs.declared.unnamed_history.UnnamedHistory.{UnnamedHistory}

-- its log
abbrev pub log_of : UnnamedHistory → Book
log_of h = h.seen.book

-- its network list
abbrev pub net_of : UnnamedHistory → Network
net_of h = net_in h.seen.log
