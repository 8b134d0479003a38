-- Working definitions: how a row of words keeps to its log, and what a step on it tells (own).
use Rattle.std.specs.Prelude.{◌≡◌, ◌≤◌, ◌<◌, ◌⊎◌, ◌+◌, ◌-◌, ◌==◌, ℕ, true, List, [], ◌∷◌, ◌++◌, length, reverse, take}
use Rattle.std.specs.Prelude.{slice_index_or, MatchBool}
use mathlib.Core.List.{IsPrefix}
use Rattle.logbook.specs.Pages.{Book, Cell, cell, Named, Step, View}
use Rattle.cm_nmt.specs.Listing.{Listing}
use Rattle.cm_netlist.specs.Network.{Network, listing}
use Rattle.cm_history.specs.History.{shown}
use Rattle.cm_history.specs.Legal.{IsLegal, most_entries}
use Rattle.cm_history.specs.declared.call.Entry.{Entry}
use Rattle.cm_growing.specs.declared.current.Current.{Current}
use Rattle.cm_growing.specs.declared.log_item.LogItem.{LogItem}
use Rattle.cm_growing.specs.declared.status.Status.{Status}
use Rattle.cm_growing.specs.Changes.{OthersStay}
use Rattle.cm_growing.specs.Items.{IsOf, IsSame, current_in, done_in, entries_in, number_of, shown_at, since_in}
use Rattle.cm_growing.specs.Words.{IsByte, IsWord, gone_word, packed_status}

-- what the first word says where there are so many entries, with which the words of all nodes but this one are right
abbrev pub status_at : ℕ → Current → Status
status_at count c = record { count = count; done = count; node = number_of c.node; state = c.state }

-- the entries are a legal history, and what was stored of each node but one is what it shows, up to where the words are
-- right
pub record IsRight (net : Listing) (log : List LogItem) : Type 0 where
  pub legal : IsLegal net (reverse (entries_in log))
  pub few : length (entries_in log) ≤ most_entries
  pub done : done_in log ≤ length (entries_in log)
  pub since : (t : ℕ) → 1 ≤ t → t < 128 → since_in log t ≤ length (entries_in log)
  pub same : (t : ℕ) → 1 ≤ t → t < 128 → (t ≡ current_in log → ⊥) → IsSame net log (done_in log) t

-- what the first word says of a node is what is shown of it, up to where the words are right
pub record IsFirst (net : Listing) (log : List LogItem) (state : ℕ) : Type 0 where
  pub node : current_in log < 128
  pub byte : IsByte state
  pub shown : 1 ≤ current_in log → state ≡ shown_at net (entries_in log) (done_in log) (current_in log)

-- the word of a node says what its log does: with how many entries it was stored last, what these show of the node, and
-- what one less do
abbrev pub IsWordOf : Listing → List LogItem → ℕ → ℕ → Type 0
IsWordOf net log t word =
    IsWord word (since_in log t) (shown_at net (entries_in log) (since_in log t) t)
    (shown_at net (entries_in log) (since_in log t - 1) t)

-- the words are those of the log
pub record IsRow (net : Network) (cells : List Cell) (log : List LogItem) : Type 0 where
  pub of : IsOf net log
  pub long : length cells ≡ 128
  pub state : ℕ
  pub first : IsFirst (listing net) log state
  pub status :
      (cell cells 0 ≡ (packed_status (length (entries_in log)) (done_in log) (current_in log) state, true))
      ⊎ (cell cells 0 ≡ (gone_word, true))
  pub home : (t : ℕ) → 1 ≤ t → t < 128 → (cell cells t).1 ≡ true
  pub words : (t : ℕ) → 1 ≤ t → t < 128 → IsWordOf (listing net) log t (cell cells t).0
  pub right : IsRight (listing net) log

abbrev pub HasRow : List Cell → List LogItem → Type 0
HasRow cells log = (net : Network) × IsRow net cells log

-- the word of this key
abbrev pub word_of : Book → ℕ → Named
word_of book key = record { tracked = true; key = key; book = book }

-- the words of all keys, in order
abbrev pub AreWords : Book → List Named → Type 0
AreWords book words = (length words ≡ 128) × ((k : ℕ) (d : Named) → k < length words → slice_index_or words k d ≡ word_of book k)

-- the number was found in the word, at this log
abbrev pub Found : ℕ → ℕ → List LogItem → Type 0
Found key found log = (cells : List Cell) × HasRow cells log × ((cell cells key).0 ≡ found)

-- what a step tells: the number was found in the word
abbrev pub Looks : Step LogItem → View LogItem ℕ → ℕ → View LogItem ℕ → Type 0
Looks step before found after = Found step.key found after.0

-- what a step tells: the item asked for was added where the number was in the word
abbrev pub Puts : Step LogItem → View LogItem ℕ → ℕ → View LogItem ℕ → Type 0
Puts step before found after =
    MatchBool (found == step.old)
    ((log : List LogItem) × Found step.key step.old log × IsPrefix before.0 log × (after.0 ≡ log ++ step.ask ∷ []))
    (Unit {0})

-- what a step tells: nothing
abbrev pub Ends : Step LogItem → View LogItem ℕ → ℕ → View LogItem ℕ → Type 0
Ends step before found after = Unit {0}

-- the entry was added to so many, whose words were all right, and the words may not be right with it yet
pub record IsPending (net : Listing) (log : List LogItem) (count : ℕ) (e : Entry) : Type 0 where
  pub next : take (count + 1) (entries_in log) ≡ take count (entries_in log) ++ e ∷ []
  pub there : count + 1 ≤ length (entries_in log)
  pub same : (t : ℕ) → 1 ≤ t → t < 128 → IsSame net log count t

-- the entry was added to so many
pub record IsAdded (log : List LogItem) (count : ℕ) (e : Entry) : Type 0 where
  pub next : take (count + 1) (entries_in log) ≡ take count (entries_in log) ++ e ∷ []
  pub there : count + 1 ≤ length (entries_in log)

-- with so many entries the first word has this node's state, which was shown first with so many, and before it this;
-- the words of all others are right
pub record IsCurrent (net : Listing) (log : List LogItem) (count : ℕ) (c : Current) : Type 0 where
  pub node : number_of c.node < 128
  pub since : c.since ≤ count
  pub now : 1 ≤ number_of c.node → (m : ℕ) → c.since ≤ m → m ≤ count → shown_at net (entries_in log) m (number_of c.node) ≡ c.state
  pub before : 1 ≤ number_of c.node → 0 < c.since → shown_at net (entries_in log) (c.since - 1) (number_of c.node) ≡ c.before
  pub same : (t : ℕ) → 1 ≤ t → t < 128 → (t ≡ number_of c.node → ⊥) → IsSame net log count t

-- the entry can be added to so many in one step, with which the first word has this node's state: the words of all
-- others are right with it
pub record IsReady (net : Listing) (log : List LogItem) (count : ℕ) (e : Entry) (c : Current) : Type 0 where
  pub node : number_of c.node < 128
  pub since : c.since ≤ count + 1
  pub now : 1 ≤ number_of c.node → (m : ℕ) → c.since ≤ m → m ≤ count → shown_at net (entries_in log) m (number_of c.node) ≡ c.state
  pub next : 1 ≤ number_of c.node → c.state ≡ shown net (e ∷ reverse (take count (entries_in log))) (number_of c.node)
  pub before : 1 ≤ number_of c.node → 0 < c.since → shown_at net (entries_in log) (c.since - 1) (number_of c.node) ≡ c.before
  pub same : (t : ℕ) → 1 ≤ t → t < 128 → (t ≡ number_of c.node → ⊥) → IsSame net log count t
  pub others : OthersStay net (take count (entries_in log)) e (number_of c.node)

-- what was found in a node's word: with how many entries it was stored, and the state
pub record IsFound (net : Listing) (log : List LogItem) (t word since state : ℕ) : Type 0 where
  pub low : 1 ≤ t
  pub small : t < 128
  pub said : IsWordOf net log t word
  pub stored : since ≡ since_in log t
  pub shown : state ≡ shown_at net (entries_in log) (since_in log t) t

-- what a reader sees: a beginning of the history, and what it shows of the node
pub record IsLooked (net : Network) (log : List LogItem) (t state count : ℕ) : Type 0 where
  pub there : count ≤ length (entries_in log)
  pub few : count ≤ most_entries
  pub legal : IsLegal (listing net) (reverse (take count (entries_in log)))
  pub shows : state ≡ shown_at (listing net) (entries_in log) count t
