-- What a log says: the entries of a history, and what the row of words shows of them (own).
use Rattle.std.specs.Prelude.{◌≡◌, ◌≤◌, ℕ, List, [], ◌∷◌, ◌==◌, if◌then◌else◌, Option, Some, None, take, reverse, max}
use mathlib.Core.List.{IsPrefix}
use Rattle.std.specs.FinMap as map
use Rattle.cm_nmt.specs.Listing.{Listing}
use Rattle.cm_netlist.specs.Network.{Network}
use Rattle.cm_history.specs.History.{shown}
use Rattle.cm_history.specs.declared.call.Entry.{Entry}
use Rattle.cm_growing.specs.declared.log_item.LogItem.{LogItem}
use Rattle.cm_growing.specs.declared.log_item.LogItem.TheVariants as item

-- the entries, the oldest first
abbrev pub entries_in : List LogItem → List Entry
entries_in [] = []
entries_in (item.Entry e ∷ is) = e ∷ entries_in is
entries_in (item.Moved e n k ∷ is) = e ∷ entries_in is
entries_in (_ ∷ is) = entries_in is

-- up to so many entries the words of all nodes are right, but for the one whose state the first word has
abbrev pub done_in : List LogItem → ℕ
done_in [] = 0
done_in (item.Moved e n k ∷ is) = max n (done_in is)
done_in (item.Shown n ∷ is) = max n (done_in is)
done_in (_ ∷ is) = done_in is

-- with so many entries the word of the node was stored last, 0 where it never was
abbrev pub since_in : List LogItem → ℕ → ℕ
since_in [] t = 0
since_in (item.Stored node n ∷ is) t = if node == t then max n (since_in is t) else since_in is t
since_in (_ ∷ is) t = since_in is t

-- the number of a node, 0 for none
abbrev pub number_of : Option ℕ → ℕ
number_of None = 0
number_of (Some t) = t

-- the node whose state the first word has after these items, where it had this one's before them; 0 for none
abbrev pub current_from : ℕ → List LogItem → ℕ
current_from k [] = k
current_from k (item.Entry e ∷ is) = current_from 0 is
current_from k (item.Moved e n t ∷ is) = current_from (number_of t) is
current_from k (_ ∷ is) = current_from k is

abbrev pub current_in : List LogItem → ℕ
current_in log = current_from 0 log

-- the log is that of a history of this network
abbrev pub IsOf : Network → List LogItem → Type 0
IsOf net log = IsPrefix (item.Opened net ∷ []) log

-- what the first m entries show of a node; entries are given with the oldest first
abbrev pub shown_at : Listing → List Entry → ℕ → ℕ → ℕ
shown_at net es m t = shown net (reverse (take m es)) t

-- from where the node's word was stored last up to c entries, what is shown of the node is the same
abbrev pub IsSame : Listing → List LogItem → ℕ → ℕ → Type 0
IsSame net log c t =
    (m : ℕ) → since_in log t ≤ m → m ≤ c
    → shown_at net (entries_in log) m t ≡ shown_at net (entries_in log) (since_in log t) t

-- the network list with which the log opens
abbrev pub net_in : List LogItem → Network
net_in (item.Opened net ∷ is) = net
net_in _ = record { own = 0; startup = 0; boot_time = 0; slaves = map.empty }
