-- What is known where an entry is added, and what is told then, from one step to the next.
use Rattle.std.proofs.Common.{◌≡◌, Bool, false, [], ◌∷◌, ◌∙◌, arith, refl}
use mathlib.Core.List.{IsPrefix}
use base.Growing.{prefix_trans}
use Rattle.logbook.specs.Pages.{Book}
use Rattle.cm_netlist.specs.Network.{Network, listing}
use Rattle.cm_nmt.specs.Listing.{Listing}
use Rattle.cm_growing.specs.declared.change.Change.{Change}
use Rattle.cm_growing.specs.declared.current.Current.{Current}
use Rattle.cm_growing.specs.declared.log_item.LogItem.TheVariants as item
use Rattle.cm_growing.specs.Growing.{Adds, IsMoving, IsNext, SeenLog}
use Rattle.cm_growing.proofs.Items.{entries_count}
use Rattle.cm_growing.proofs.Refreshing.{change_later, pending_later}

-- what is known stays while no entry is added
pub next_later : (net : Network) (own : Book) (xs ys : SeenLog) (d : Change) → ys.book ≡ xs.book → IsPrefix xs.log ys.log → IsNext net own xs d → IsNext net own ys d
next_later net own xs ys d book later was = record {
  book = book ∙ was.book;
  of = prefix_trans (item.Opened net ∷ []) xs.log ys.log was.of later;
  there = omega (arith, was.there, entries_count xs.log ys.log later);
  change = change_later (listing net) xs.log ys.log d.count d.entry.now d.node d.value d.own d.own_value later was.there was.change;
}

pub moving_later : (net : Network) (own : Book) (xs ys : SeenLog) (d : Change) → ys.book ≡ xs.book → IsPrefix xs.log ys.log → IsMoving net own xs d → IsMoving net own ys d
moving_later net own xs ys d book later was = record {
  book = book ∙ was.book;
  of = prefix_trans (item.Opened net ∷ []) xs.log ys.log was.of later;
  pending = pending_later (listing net) xs.log ys.log d.count d.entry.now later was.pending;
  change = change_later (listing net) xs.log ys.log d.count d.entry.now d.node d.value d.own d.own_value later (omega (arith, was.pending.there)) was.change;
}

-- where nothing is added, what is current stays
pub adds_nothing : (net : Listing) (xs ys : SeenLog) (d : Change) (was : Current) → ys.book ≡ xs.book → IsPrefix xs.log ys.log → Adds net xs ys d was was false
adds_nothing net xs ys d was book later =
    record { book = book; later = later; added = λ yes. absurd (cc yes); current = λ yes. absurd (cc yes); same = λ no. refl }

-- what is added behind steps with which the log only went on is added since before them
pub adds_since : (net : Listing) (xs ys zs : SeenLog) (d : Change) (was now : Current) (is_added : Bool) → ys.book ≡ xs.book → IsPrefix xs.log ys.log
    → Adds net ys zs d was now is_added → Adds net xs zs d was now is_added
adds_since net xs ys zs d was now is_added book later a =
    record { book = a.book ∙ book; later = prefix_trans xs.log ys.log zs.log later a.later; added = a.added; current = a.current; same = a.same }
