-- The node whose state the first word has, from one entry to the next.
use Rattle.std.proofs.Common.{◌≡◌, ℕ, ◌+◌, ◌-◌, ◌<◌, ◌≤◌, inl, inr, List, ◌∷◌, length, take, ap, sym, subst, ◌∙◌, arith}
use Rattle.std.specs.Prelude.{reverse}
use Rattle.std.proofs.lemmas.Bool.{cases_eq, ne_eqb}
use mathlib.Core.List.{IsPrefix}
use Rattle.cm_nmt.specs.Listing.{Listing}
use Rattle.cm_history.specs.History.{shown}
use Rattle.cm_history.specs.declared.call.Entry.{Entry}
use Rattle.cm_growing.specs.declared.current.Current.{Current}
use Rattle.cm_growing.specs.declared.log_item.LogItem.{LogItem}
use Rattle.cm_growing.specs.Changes.{IsChange, OthersStay, Stays, StaysShown}
use Rattle.cm_growing.specs.Items.{IsSame, entries_in, number_of, shown_at, since_in}
use Rattle.cm_growing.specs.Row.{IsAdded, IsCurrent, IsFound, IsReady}
use Rattle.cm_growing.proofs.Items.{same_later, shown_same, take_same}
use Rattle.cm_growing.proofs.Refreshing.{below, same_stays, shown_before, shown_next}

-- what is known of it stays while no entry is added
pub current_later : (net : Listing) (xs ys : List LogItem) (c : ℕ) (cur : Current) → IsPrefix xs ys → c ≤ length (entries_in xs) → IsCurrent net xs c cur → IsCurrent net ys c cur
current_later net xs ys c cur p there was = record {
  node = was.node;
  since = was.since;
  now = λ some m low high. sym (shown_same net xs ys m (number_of cur.node) p (omega (arith, high, there))) ∙ was.now some m low high;
  before = λ some since. sym (shown_same net xs ys (cur.since - 1) (number_of cur.node) p (omega (arith, was.since, there))) ∙ was.before some since;
  same = λ t low small away. same_later net xs ys c t p there (was.same t low small away);
}

-- what was found in the word of another node is what is shown of it
pub found_shown : (net : Listing) (xs ys : List LogItem) (c t : ℕ) (cur : Current) (word since state : ℕ) → IsPrefix xs ys → c ≤ length (entries_in xs) → IsCurrent net xs c cur
    → IsFound net ys t word since state → (t ≡ number_of cur.node → ⊥) → since ≤ c → state ≡ shown net (reverse (take c (entries_in ys))) t
found_shown net xs ys c t cur word since state p there was found away near =
    let now = current_later net xs ys c cur p there was in
    shown_before net ys c t state (now.same t found.low found.small away) (omega (arith, near, found.stored)) found.shown

-- it is right with the entry that was found right to add
pub current_next : (net : Listing) (xs ys : List LogItem) (c : ℕ) (e : Entry) (to : Current) → IsPrefix xs ys → c ≤ length (entries_in xs) → IsReady net xs c e to → IsAdded ys c e
    → IsCurrent net ys (c + 1) to
current_next net xs ys c e to p there ready added = record {
  node = ready.node;
  since = ready.since;
  now = λ some m low high. elim (cases_eq m (c + 1)) [
    | inl last ↦ ap (λ (i : ℕ). shown_at net (entries_in ys) i (number_of to.node)) last ∙ shown_next net ys c e (number_of to.node) added.next
        ∙ ap (λ (h : List Entry). shown net (e ∷ reverse h) (number_of to.node)) (sym first) ∙ sym (ready.next some)
    | inr other ↦ let few : m ≤ c = omega (arith, below m (c + 1) high other) in
        sym (shown_same net xs ys m (number_of to.node) p (omega (arith, few, there))) ∙ ready.now some m low few
  ];
  before = λ some since. sym (shown_same net xs ys (to.since - 1) (number_of to.node) p (omega (arith, ready.since, there))) ∙ ready.before some since;
  same = λ t low small away. same_stays net ys c t (same_later net xs ys c t p there (ready.same t low small away))
      (shown_next net ys c e t added.next ∙ subst (λ (h : List Entry). StaysShown net h e t) first (ready.others t low small away));
}
  where
    first : take c (entries_in xs) ≡ take c (entries_in ys)
    first = take_same xs ys c p there

-- a word that was stored since its state is shown is right
stored_same : (net : Listing) (log : List LogItem) (c : ℕ) (cur : Current) → IsCurrent net log c cur → 1 ≤ number_of cur.node → cur.since ≤ since_in log (number_of cur.node)
    → IsSame net log c (number_of cur.node)
stored_same net log c cur was some stored m low high =
    was.now some m (omega (arith, stored, low)) high ∙ sym (was.now some (since_in log (number_of cur.node)) stored (omega (arith, low, high)))

-- where its own word was stored, or it is no node's, the words of all nodes are right
pub all_stored : (net : Listing) (log : List LogItem) (c : ℕ) (cur : Current) → IsCurrent net log c cur → (1 ≤ number_of cur.node → cur.since ≤ since_in log (number_of cur.node))
    → (t : ℕ) → 1 ≤ t → t < 128 → IsSame net log c t
all_stored net log c cur was stored t low small = elim (cases_eq t (number_of cur.node)) [
  | inl here ↦ let some : 1 ≤ number_of cur.node = omega (arith, here, low) in
      subst (IsSame net log c) (sym here) (stored_same net log c cur was some (stored some))
  | inr away ↦ was.same t low small away
]

-- it is no node's where the words of all nodes are right
pub none_current : (net : Listing) (log : List LogItem) (c : ℕ) (cur : Current) → number_of cur.node ≡ 0 → cur.since ≤ c → ((t : ℕ) → 1 ≤ t → t < 128 → IsSame net log c t)
    → IsCurrent net log c cur
none_current net log c cur none since same = record {
  node = omega (arith, none);
  since = since;
  now = λ some. absurd (omega (arith, some, none));
  before = λ some. absurd (omega (arith, some, none));
  same = λ t low small away. same t low small;
}

-- nothing else is shown of any node but the one that the change is of
pub all_but_one : (net : Listing) (before : List Entry) (e : Entry) (node own : ℕ) → Stays net before e node own → StaysShown net before e own → OthersStay net before e node
all_but_one net before e node own others that t low small away = elim (cases_eq t own) [
  | inl here ↦ subst (StaysShown net before e) (sym here) that
  | inr not_own ↦ others t low small (ne_eqb node t (λ z. away (sym z))) (ne_eqb t own not_own)
]

-- the change is of the node whose state the first word has
pub ready_same : (net : Listing) (log : List LogItem) (c : ℕ) (e : Entry) (node value own own_value : ℕ) (cur to : Current)
    → IsChange net (take c (entries_in log)) e node value own own_value → Stays net (take c (entries_in log)) e node own → StaysShown net (take c (entries_in log)) e own
    → IsCurrent net log c cur → node ≡ number_of cur.node → to.node ≡ cur.node → to.state ≡ value → to.since ≡ c + 1 → to.before ≡ cur.state → IsReady net log c e to
ready_same net log c e node value own own_value cur to change others that was is same state since before = record {
  node = rw same was.node;
  since = omega (arith, since);
  now = λ some m low high. absurd (omega (arith, low, high, since));
  next = λ some. state ∙ change.of_node ∙ ap (shown net (e ∷ reverse (take c (entries_in log)))) (is ∙ ap number_of (sym same));
  before = λ some some_since. let last : to.since - 1 ≡ c = omega (arith, since) in
      rw (last, before, same) (was.now (rw (← same) some) c was.since (omega arith));
  same = rw same was.same;
  others = rw (same, ← is) (all_but_one net (take c (entries_in log)) e node own others that);
}

-- the change is of the node whose state the first word has, and its state stays
pub stays_current : (net : Listing) (log : List LogItem) (c : ℕ) (e : Entry) (node value own own_value : ℕ) (cur : Current)
    → IsChange net (take c (entries_in log)) e node value own own_value → IsCurrent net log c cur → 1 ≤ node → node ≡ number_of cur.node → cur.state ≡ value
    → StaysShown net (take c (entries_in log)) e node
stays_current net log c e node value own own_value cur change was low is same =
    sym change.of_node ∙ sym same ∙ sym (was.now (omega (arith, low, is)) c was.since (omega arith)) ∙ ap (shown_at net (entries_in log) c) (sym is)

-- what is shown of no node changes
pub ready_kept : (net : Listing) (log : List LogItem) (c : ℕ) (e : Entry) (node own : ℕ) (cur : Current)
    → Stays net (take c (entries_in log)) e node own → StaysShown net (take c (entries_in log)) e own → StaysShown net (take c (entries_in log)) e node
    → IsCurrent net log c cur → IsReady net log c e cur
ready_kept net log c e node own cur others that this was = record {
  node = was.node;
  since = omega (arith, was.since);
  now = was.now;
  next = λ some. sym (was.now some c was.since (omega arith)) ∙ sym (all (number_of cur.node) some was.node);
  before = was.before;
  same = was.same;
  others = λ t low small away. all t low small;
}
  where
    all : (t : ℕ) → 1 ≤ t → t < 128 → StaysShown net (take c (entries_in log)) e t
    all t low small = elim (cases_eq t node) [
      | inl here ↦ subst (StaysShown net (take c (entries_in log)) e) (sym here) this
      | inr away ↦ all_but_one net (take c (entries_in log)) e node own others that t low small away
    ]

-- the change is of another node, and the words of all are right
pub ready_other : (net : Listing) (log : List LogItem) (c : ℕ) (e : Entry) (node value own own_value : ℕ) (to : Current)
    → IsChange net (take c (entries_in log)) e node value own own_value → Stays net (take c (entries_in log)) e node own → StaysShown net (take c (entries_in log)) e own
    → ((t : ℕ) → 1 ≤ t → t < 128 → IsSame net log c t) → node < 128 → number_of to.node ≡ node → to.since ≡ c + 1 → to.state ≡ value
    → to.before ≡ shown net (reverse (take c (entries_in log))) node → IsReady net log c e to
ready_other net log c e node value own own_value to change others that same small is since state before = record {
  node = omega (arith, is, small);
  since = omega (arith, since);
  now = λ some m low high. absurd (omega (arith, low, high, since));
  next = λ some. state ∙ change.of_node ∙ ap (shown net (e ∷ reverse (take c (entries_in log)))) (sym is);
  before = λ some some_since. let last : to.since - 1 ≡ c = omega (arith, since) in rw (last, is) (sym before);
  same = λ t low high away. same t low high;
  others = rw is (all_but_one net (take c (entries_in log)) e node own others that);
}
