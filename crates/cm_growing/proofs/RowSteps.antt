-- Each step on a row leaves a row.
use Rattle.std.proofs.Common.{◌≡◌, ℕ, ◌+◌, ◌-◌, ◌<◌, ◌≤◌, ◌⊎◌, inl, inr, max, true, false, List, [], ◌∷◌, ◌++◌, length, replicate, slice_set, take, refl, ap, sym, subst, ◌∙◌, arith, length-append}
use Rattle.std.specs.Prelude.{reverse}
use Rattle.std.proofs.lemmas.List.{get_or-replicate, length-replicate, get_or-set_other, length-set, take_at, take_all, append-nil}
use Rattle.std.proofs.lemmas.Grind.{get_or-set_at}
use Rattle.std.proofs.lemmas.Bool.{cases_eq}
use Rattle.std.proofs.lemmas.Bool.Decides.{nat_tests}
use mathlib.Core.List.{IsPrefix}
use base.Growing.{prefix_trans}
use Rattle.logbook.specs.Pages.{Cell, cell}
use Rattle.cm_netlist.specs.Network.{Network, listing}
use Rattle.cm_history.specs.Legal.{IsAnswered, most_entries}
use Rattle.cm_history.specs.declared.call.Entry.{Entry}
use Rattle.cm_growing.specs.declared.log_item.LogItem.{LogItem}
use Rattle.cm_growing.specs.declared.log_item.LogItem.TheVariants as item
use Rattle.cm_growing.specs.declared.current.Current.{Current}
use Rattle.cm_growing.specs.Items.{IsOf, IsSame, current_from, current_in, done_in, entries_in, number_of, shown_at, since_in}
use Rattle.cm_growing.specs.Row.{Found, HasRow, IsAdded, IsCurrent, IsPending, IsReady, IsRow, IsWordOf}
use Rattle.cm_growing.specs.Words.{IsByte, gone_word, node_word, packed_status, word_since}
use Rattle.cm_growing.proofs.Items.{current_more, done_more, entries_count, entries_more, same_later, same_net, shown_same, since_more, take_same}
use Rattle.cm_growing.proofs.LegalEnds.{legal_longer}
use Rattle.cm_growing.proofs.CurrentNode.{current_next}

-- what a log begins with stays
of_later : (net : Network) (xs ys : List LogItem) → IsOf net xs → IsPrefix xs ys → IsOf net ys
of_later net xs ys p q = prefix_trans (item.Opened net ∷ []) xs ys p q

-- what the first word says, where it is there
pub record IsStatus (net : Network) (log : List LogItem) (c d k v : ℕ) : Type 0 where
  pub count : length (entries_in log) ≡ c
  pub done : done_in log ≡ d
  pub node : current_in log ≡ k
  pub shown : 1 ≤ k → v ≡ shown_at (listing net) (entries_in log) d k

pub status_is : (net : Network) (cs : List Cell) (log : List LogItem) (c d k v : ℕ) → IsRow net cs log → (cell cs 0).0 ≡ packed_status c d k v → c ≤ most_entries → d ≤ most_entries
    → k < 128 → IsByte v → IsStatus net log c d k v
status_is net cs log c d k v is_row found small less node byte = by is_row.status
  where
    by : (cell cs 0 ≡ (packed_status (length (entries_in log)) (done_in log) (current_in log) is_row.state, true)) ⊎ (cell cs 0 ≡ (gone_word, true)) → IsStatus net log c d k v
    by (inl p) =
        let word : packed_status (length (entries_in log)) (done_in log) (current_in log) is_row.state ≡ packed_status c d k v = sym (ap (λ (w : Cell). w.0) p) ∙ found in
        let count : length (entries_in log) ≡ c = omega (arith, word, small, less, node, byte, is_row.right.few, is_row.right.done, is_row.first.node, is_row.first.byte) in
        let done : done_in log ≡ d = omega (arith, word, small, less, node, byte, is_row.right.few, is_row.right.done, is_row.first.node, is_row.first.byte) in
        let current : current_in log ≡ k = omega (arith, word, small, less, node, byte, is_row.right.few, is_row.right.done, is_row.first.node, is_row.first.byte) in
        let state : is_row.state ≡ v = omega (arith, word, count, done, current) in
        record {
          count = count;
          done = done;
          node = current;
          shown = λ some. sym state ∙ is_row.first.shown (omega (arith, some, current)) ∙ ap (λ (m : ℕ). shown_at (listing net) (entries_in log) m (current_in log)) done
              ∙ ap (shown_at (listing net) (entries_in log) d) current;
        }
    by (inr p) = absurd (omega (arith, found, ap (λ (w : Cell). w.0) p, small, less, node, byte))

-- what is known where an entry was added
added_from : (net : Network) (log now : List LogItem) (e : Entry) (c : ℕ) → length (entries_in log) ≡ c → entries_in now ≡ entries_in log ++ e ∷ [] → IsAdded now c e
added_from net log now e c count entries = record {
  next = rw (entries, take_at (entries_in log) (e ∷ []) c count) (take_all (c + 1) (entries_in log ++ e ∷ []) (omega (arith, length-append (entries_in log) (e ∷ []), count)));
  there = omega (arith, ap length entries, length-append (entries_in log) (e ∷ []), count);
}

-- an entry that was found right to add is added
pub added_now : (log now : List LogItem) (i : LogItem) (e : Entry) (c k v : ℕ) → c < most_entries → k < 128 → IsByte v → Found 0 (packed_status c c k v) log
    → now ≡ log ++ i ∷ [] → entries_in (i ∷ []) ≡ e ∷ [] → IsAdded now c e
added_now log now i e c k v few node byte (cs, (n, is_row), found) is entry =
    added_from n log now e c (status_is n cs log c c k v is_row found (omega (arith, few)) (omega (arith, few)) node byte).count
    (ap entries_in is ∙ entries_more log (i ∷ []) ∙ ap (λ (es : List Entry). entries_in log ++ es) entry)

pub pending_now : (net : Network) (seen log now : List LogItem) (e : Entry) (c k v : ℕ) → c < most_entries → c ≤ length (entries_in seen) → k < 128 → IsByte v
    → ((t : ℕ) → 1 ≤ t → t < 128 → IsSame (listing net) seen c t) → IsPrefix seen log → Found 0 (packed_status c c k v) log
    → now ≡ log ++ item.Entry e ∷ [] → IsPending (listing net) now c e
pending_now net seen log now e c k v few fits node byte same pre there is =
    let added = added_now log now (item.Entry e) e c k v few node byte there is refl in
    record {
      next = added.next;
      there = added.there;
      same = λ t low small. same_later (listing net) seen now c t (prefix_trans seen log now pre (item.Entry e ∷ [], sym is)) fits (same t low small);
    }

-- a row whose words stay, but for one that is set
module _ (net : Network) (cs : List Cell) (log : List LogItem) (is_row : IsRow net cs log) where
  long_set : (k : ℕ) (x : Cell) → length (slice_set cs k x) ≡ 128
  long_set k x = length-set cs k x ∙ is_row.long

  at_set : (k n : ℕ) → k < 128 → cell (slice_set cs k (n, true)) k ≡ (n, true)
  at_set k n small = get_or-set_at cs k k (n, true) (0, false) refl (omega (arith, small, is_row.long))

  at_other : (k t : ℕ) (x : Cell) → (t ≡ k → ⊥) → cell (slice_set cs k x) t ≡ cell cs t
  at_other k t x away = get_or-set_other cs k t x (0, false) away

  -- a node's word that isn't stored is right in the longer log
  word_later : (ys : List LogItem) (t : ℕ) (x : Cell) (k : ℕ) → 1 ≤ t → t < 128 → (t ≡ k → ⊥) → IsPrefix log ys → since_in ys t ≡ since_in log t
      → IsWordOf (listing net) ys t (cell (slice_set cs k x) t).0
  word_later ys t x k low small away p same =
      rw (ap (λ (w : Cell). w.0) (at_other k t x away), same, sym (shown_same (listing net) log ys (since_in log t) t p (is_row.right.since t low small)), sym (shown_same (listing net) log ys (since_in log t - 1) t p (omega (arith, is_row.right.since t low small)))) (is_row.words t low small)

  home_later : (k n t : ℕ) → k < 128 → 1 ≤ t → t < 128 → (cell (slice_set cs k (n, true)) t).1 ≡ true
  home_later k n t inside low small = elim (cases_eq t k) [
    | inl here ↦ subst (λ (i : ℕ). (cell (slice_set cs k (n, true)) i).1 ≡ true) (sym here) (ap (λ (w : Cell). w.1) (at_set k n inside))
    | inr away ↦ ap (λ (w : Cell). w.1) (at_other k t (n, true) away) ∙ is_row.home t low small
  ]

-- an entry is added, with which the words of all nodes but one are right up to so many
adds : (net : Network) (seen : List LogItem) (i : LogItem) (e : Entry) (c d p s k v : ℕ) (cs : List Cell) (log : List LogItem)
    → IsOf net seen → c ≤ length (entries_in seen) → c < most_entries → IsAnswered (listing net) e (reverse (take c (entries_in seen)))
    → p < 128 → IsByte s → HasRow cs log → IsPrefix seen log → (cell cs 0).0 ≡ packed_status c c p s
    → entries_in (i ∷ []) ≡ e ∷ [] → max c (done_in (i ∷ [])) ≡ d → d ≤ c + 1 → current_from (current_in log) (i ∷ []) ≡ k → k < 128 → IsByte v
    → ((t : ℕ) → since_in (i ∷ []) t ≡ 0)
    → (1 ≤ k → v ≡ shown_at (listing net) (entries_in (log ++ i ∷ [])) d k)
    → ((t : ℕ) → 1 ≤ t → t < 128 → (t ≡ k → ⊥) → IsSame (listing net) (log ++ i ∷ []) d t)
    → HasRow (slice_set cs 0 (packed_status (c + 1) d k v, true)) (log ++ i ∷ [])
adds net seen i e c d p s k v cs log of there few next old byte (n, is_row) pre found entry dones most node small less none shows same = (
  n,
  record {
    of = of_later n log (log ++ i ∷ []) is_row.of (i ∷ [], refl);
    long = long_set n cs log is_row 0 (packed_status (c + 1) d k v, true);
    state = v;
    first = record {
      node = omega (arith, current, small);
      byte = less;
      shown = λ some. shows (omega (arith, some, current)) ∙ rw (current, done, net_is) refl;
    };
    status = inl (at_set n cs log is_row 0 (packed_status (c + 1) d k v) (omega arith) ∙ ap (λ (w : ℕ). (w, true)) (omega (arith, count, done, current)));
    home = λ t low high. home_later n cs log is_row 0 (packed_status (c + 1) d k v) t (omega arith) low high;
    words = λ t low high. word_later n cs log is_row (log ++ i ∷ []) t (packed_status (c + 1) d k v, true) 0 low high (λ z. absurd (omega (arith, z, low))) (i ∷ [], refl) (since t);
    right = record {
      legal = rw entries (legal_longer (listing n) (entries_in log) e is_row.right.legal answered);
      few = omega (arith, count, few);
      done = omega (arith, count, done, most);
      since = λ t low high. omega (arith, since t, is_row.right.since t low high, count, is.count);
      same = λ t low high away. rw (done, ← net_is) (same t low high (λ z. away (z ∙ sym current)));
    };
  },
)
  where
    is : IsStatus n log c c p s
    is = status_is n cs log c c p s is_row found (omega (arith, few)) (omega (arith, few)) old byte

    net_is : net ≡ n
    net_is = same_net net n log (of_later net seen log of pre) is_row.of

    entries : entries_in (log ++ i ∷ []) ≡ entries_in log ++ e ∷ []
    entries = entries_more log (i ∷ []) ∙ ap (λ (es : List Entry). entries_in log ++ es) entry

    done : done_in (log ++ i ∷ []) ≡ d
    done = done_more log (i ∷ []) ∙ ap (λ (m : ℕ). max m (done_in (i ∷ []))) is.done ∙ dones

    current : current_in (log ++ i ∷ []) ≡ k
    current = current_more 0 log (i ∷ []) ∙ node

    since : (t : ℕ) → since_in (log ++ i ∷ []) t ≡ since_in log t
    since t = since_more log (i ∷ []) t ∙ omega (arith, none t)

    count : length (entries_in (log ++ i ∷ [])) ≡ c + 1
    count = omega (arith, ap length entries, length-append (entries_in log) (e ∷ []), is.count)

    all : take c (entries_in seen) ≡ entries_in log
    all = take_same seen log c pre there ∙ take_all c (entries_in log) (omega (arith, is.count))

    answered : IsAnswered (listing n) e (reverse (entries_in log))
    answered = subst (λ (w : Network). IsAnswered (listing w) e (reverse (entries_in log))) net_is (subst (λ (w : List Entry). IsAnswered (listing net) e (reverse w)) all next)

-- an entry is added, and the words may not be right with it yet
pub adds_entry : (net : Network) (seen : List LogItem) (e : Entry) (c p s : ℕ) (cs : List Cell) (log : List LogItem)
    → IsOf net seen → c ≤ length (entries_in seen) → c < most_entries → IsAnswered (listing net) e (reverse (take c (entries_in seen)))
    → ((t : ℕ) → 1 ≤ t → t < 128 → IsSame (listing net) seen c t)
    → p < 128 → IsByte s → HasRow cs log → IsPrefix seen log → (cell cs 0).0 ≡ packed_status c c p s
    → HasRow (slice_set cs 0 (packed_status (c + 1) c 0 0, true)) (log ++ item.Entry e ∷ [])
adds_entry net seen e c p s cs log of there few next same old byte row pre found =
    adds net seen (item.Entry e) e c c p s 0 0 cs log of there few next old byte row pre found refl (omega arith) (omega arith) refl (omega arith) (omega arith) (λ t. refl)
    (λ some. absurd (omega (arith, some)))
    (λ t low high away. same_later (listing net) seen (log ++ item.Entry e ∷ []) c t (prefix_trans seen log (log ++ item.Entry e ∷ []) pre (item.Entry e ∷ [], refl)) there (same t low high))

-- an entry is added, with which nothing else is shown of any node but one
pub adds_moved : (net : Network) (seen : List LogItem) (e : Entry) (c p s : ℕ) (to : Current) (cs : List Cell) (log : List LogItem)
    → IsOf net seen → c ≤ length (entries_in seen) → c < most_entries → IsAnswered (listing net) e (reverse (take c (entries_in seen)))
    → IsReady (listing net) seen c e to → IsByte to.state
    → p < 128 → IsByte s → HasRow cs log → IsPrefix seen log → (cell cs 0).0 ≡ packed_status c c p s
    → HasRow (slice_set cs 0 (packed_status (c + 1) (c + 1) (number_of to.node) to.state, true)) (log ++ item.Moved e (c + 1) to.node ∷ [])
adds_moved net seen e c p s to cs log of there few next ready less old byte row pre found =
    adds net seen (item.Moved e (c + 1) to.node) e c (c + 1) p s (number_of to.node) to.state cs log of there few next old byte row pre found refl (omega arith) (omega arith) refl
    ready.node less (λ t. refl) (λ some. sym (is.now some (c + 1) ready.since (omega arith))) is.same
  where
    now : List LogItem
    now = log ++ item.Moved e (c + 1) to.node ∷ []

    is : IsCurrent (listing net) now (c + 1) to
    is = current_next (listing net) seen now c e to (prefix_trans seen log now pre (item.Moved e (c + 1) to.node ∷ [], refl)) there ready
        (added_now log now (item.Moved e (c + 1) to.node) e c p s few old byte (cs, row, found) refl refl)

-- the word of a node is stored
pub stores : (net : Network) (seen : List LogItem) (k old c v b : ℕ) (cs : List Cell) (log : List LogItem)
    → IsOf net seen → 1 ≤ k → k < 128 → c ≤ length (entries_in seen) → c ≤ most_entries → word_since old < c → IsByte v → IsByte b
    → v ≡ shown_at (listing net) (entries_in seen) c k → b ≡ shown_at (listing net) (entries_in seen) (c - 1) k
    → HasRow cs log → IsPrefix seen log → (cell cs k).0 ≡ old
    → HasRow (slice_set cs k (node_word c v b, true)) (log ++ item.Stored k c ∷ [])
stores net seen k old c v b cs log of low small there few older byte less_byte state state_before (n, is_row) pre found = (
  n,
  record {
    of = of_later n log (log ++ item.Stored k c ∷ []) is_row.of (item.Stored k c ∷ [], refl);
    long = long_set n cs log is_row k (node_word c v b, true);
    state = is_row.state;
    first = record {
      node = omega (arith, current, is_row.first.node);
      byte = is_row.first.byte;
      shown = λ some. is_row.first.shown (omega (arith, some, current)) ∙ rw (entries, dones, current) refl;
    };
    status = rw (at_other n cs log is_row k 0 (node_word c v b, true) (λ z. absurd (omega (arith, z, low))), entries, dones, current) is_row.status;
    home = λ t l s. home_later n cs log is_row k (node_word c v b) t small l s;
    words = words;
    right = record {
      legal = rw entries is_row.right.legal;
      few = rw entries is_row.right.few;
      done = rw (entries, dones) is_row.right.done;
      since = since;
      same = λ t l s away. rw dones (same_later (listing n) log (log ++ item.Stored k c ∷ []) (done_in log) t (item.Stored k c ∷ [], refl) is_row.right.done (is_row.right.same t l s (λ z. away (z ∙ sym current))));
    };
  },
)
  where
    net_is : net ≡ n
    net_is = same_net net n log (of_later net seen log of pre) is_row.of

    entries : entries_in (log ++ item.Stored k c ∷ []) ≡ entries_in log
    entries = entries_more log (item.Stored k c ∷ []) ∙ append-nil (entries_in log)

    dones : done_in (log ++ item.Stored k c ∷ []) ≡ done_in log
    dones = done_more log (item.Stored k c ∷ []) ∙ omega arith

    current : current_in (log ++ item.Stored k c ∷ []) ≡ current_in log
    current = current_more 0 log (item.Stored k c ∷ [])

    count : c ≤ length (entries_in log)
    count = omega (arith, there, entries_count seen log pre)

    since_here : since_in (log ++ item.Stored k c ∷ []) k ≡ max (since_in log k) c
    since_here = since_more log (item.Stored k c ∷ []) k ∙ ap (max (since_in log k)) (grind (nat_tests, arith))

    since_other : (t : ℕ) → (t ≡ k → ⊥) → since_in (log ++ item.Stored k c ∷ []) t ≡ since_in log t
    since_other t away = since_more log (item.Stored k c ∷ []) t ∙ grind (nat_tests, arith, away)

    since : (t : ℕ) → 1 ≤ t → t < 128 → since_in (log ++ item.Stored k c ∷ []) t ≤ length (entries_in (log ++ item.Stored k c ∷ []))
    since t l s = elim (cases_eq t k) [
      | inl here ↦ rw (here, entries, since_here) (omega (arith, count, is_row.right.since k low small))
      | inr away ↦ rw (entries, since_other t away) (is_row.right.since t l s)
    ]

    -- it was stored with fewer entries before
    less : since_in log k < c
    less = by (is_row.words k low small)
      where
        by : IsWordOf (listing n) log k (cell cs k).0 → since_in log k < c
        by (inl p) = omega (arith, p.0, older)
        by (inr p) = omega (arith, p.1, found, older)

    now : since_in (log ++ item.Stored k c ∷ []) k ≡ c
    now = since_here ∙ omega (arith, less)

    shows : v ≡ shown_at (listing n) (entries_in (log ++ item.Stored k c ∷ [])) c k
    shows = state ∙ ap (λ (w : Network). shown_at (listing w) (entries_in seen) c k) net_is ∙ shown_same (listing n) seen log c k pre there ∙ ap (λ (w : List Entry). shown_at (listing n) w c k) (sym entries)

    shows_before : b ≡ shown_at (listing n) (entries_in (log ++ item.Stored k c ∷ [])) (c - 1) k
    shows_before = state_before ∙ ap (λ (w : Network). shown_at (listing w) (entries_in seen) (c - 1) k) net_is ∙ shown_same (listing n) seen log (c - 1) k pre (omega (arith, there)) ∙ ap (λ (w : List Entry). shown_at (listing n) w (c - 1) k) (sym entries)

    words : (t : ℕ) → 1 ≤ t → t < 128 → IsWordOf (listing n) (log ++ item.Stored k c ∷ []) t (cell (slice_set cs k (node_word c v b, true)) t).0
    words t l s = elim (cases_eq t k) [
      | inl here ↦ subst (λ (i : ℕ). IsWordOf (listing n) (log ++ item.Stored k c ∷ []) i (cell (slice_set cs k (node_word c v b, true)) i).0) (sym here)
          (rw (ap (λ (w : Cell). w.0) (at_set n cs log is_row k (node_word c v b) small), now, sym shows, sym shows_before) (inr (omega (arith, less), refl, byte, less_byte)))
      | inr away ↦ word_later n cs log is_row (log ++ item.Stored k c ∷ []) t (node_word c v b, true) k l s away (item.Stored k c ∷ [], refl) (since_other t away)
    ]

-- the words of all nodes are right
pub shows_all : (net : Network) (seen : List LogItem) (c : ℕ) (cs : List Cell) (log : List LogItem)
    → IsOf net seen → 0 < c → c ≤ most_entries → c ≤ length (entries_in seen)
    → ((t : ℕ) → 1 ≤ t → t < 128 → IsSame (listing net) seen c t)
    → HasRow cs log → IsPrefix seen log → (cell cs 0).0 ≡ packed_status c (c - 1) 0 0
    → HasRow (slice_set cs 0 (packed_status c c 0 0, true)) (log ++ item.Shown c ∷ [])
shows_all net seen c cs log of some few there same (n, is_row) pre found = (
  n,
  record {
    of = of_later n log (log ++ item.Shown c ∷ []) is_row.of (item.Shown c ∷ [], refl);
    long = long_set n cs log is_row 0 (packed_status c c 0 0, true);
    state = 0;
    first = record {
      node = omega (arith, current);
      byte = omega arith;
      shown = λ node. absurd (omega (arith, node, current));
    };
    status = inl (at_set n cs log is_row 0 (packed_status c c 0 0) (omega arith) ∙ ap (λ (k : ℕ). (k, true)) (omega (arith, ap length entries, is.count, dones, current)));
    home = λ t low small. home_later n cs log is_row 0 (packed_status c c 0 0) t (omega arith) low small;
    words = λ t low small. word_later n cs log is_row (log ++ item.Shown c ∷ []) t (packed_status c c 0 0, true) 0 low small (λ z. absurd (omega (arith, z, low))) (item.Shown c ∷ [], refl) (since t);
    right = record {
      legal = rw entries is_row.right.legal;
      few = rw entries is_row.right.few;
      done = omega (arith, dones, is.count, ap length entries);
      since = λ t low small. omega (arith, since t, is_row.right.since t low small, ap length entries);
      same = λ t low small away. rw dones (same_later (listing n) seen (log ++ item.Shown c ∷ []) c t (prefix_trans seen log (log ++ item.Shown c ∷ []) pre (item.Shown c ∷ [], refl)) there (rw (← net_is) (same t low small)));
    };
  },
)
  where
    is : IsStatus n log c (c - 1) 0 0
    is = status_is n cs log c (c - 1) 0 0 is_row found few (omega (arith, few)) (omega arith) (omega arith)

    net_is : net ≡ n
    net_is = same_net net n log (of_later net seen log of pre) is_row.of

    entries : entries_in (log ++ item.Shown c ∷ []) ≡ entries_in log
    entries = entries_more log (item.Shown c ∷ []) ∙ append-nil (entries_in log)

    dones : done_in (log ++ item.Shown c ∷ []) ≡ c
    dones = done_more log (item.Shown c ∷ []) ∙ omega (arith, is.done)

    current : current_in (log ++ item.Shown c ∷ []) ≡ 0
    current = current_more 0 log (item.Shown c ∷ []) ∙ is.node

    since : (t : ℕ) → since_in (log ++ item.Shown c ∷ []) t ≡ since_in log t
    since t = since_more log (item.Shown c ∷ []) t ∙ omega arith

-- the history is shown no more
pub gone : (net : Network) (cs : List Cell) (log : List LogItem) → IsRow net cs log → IsRow net (slice_set cs 0 (gone_word, true)) log
gone net cs log is_row = record {
  of = is_row.of;
  long = long_set net cs log is_row 0 (gone_word, true);
  state = is_row.state;
  first = is_row.first;
  status = inr (at_set net cs log is_row 0 gone_word (omega arith));
  home = λ t low small. home_later net cs log is_row 0 gone_word t (omega arith) low small;
  words = λ t low small. word_later net cs log is_row log t (gone_word, true) 0 low small (λ z. absurd (omega (arith, z, low))) ([], append-nil log) refl;
  right = is_row.right;
}

-- what is known where a node's word was stored
pub stored_now : (log now : List LogItem) (k c : ℕ) → now ≡ log ++ item.Stored k c ∷ [] → c ≤ since_in now k
stored_now log now k c is =
    let since : since_in now k ≡ max (since_in log k) c = ap (λ w. since_in w k) is ∙ since_more log (item.Stored k c ∷ []) k ∙ ap (max (since_in log k)) (grind (nat_tests, arith)) in
    omega (arith, since)

-- the words of a history without an entry
pub first_row : (net : Network) → HasRow (replicate 128 (0, true)) (item.Opened net ∷ [])
first_row net = (
  net,
  record {
    of = ([], refl);
    long = length-replicate {A = Cell} 128 (0, true);
    state = 0;
    first = record { node = omega arith; byte = omega arith; shown = λ some. absurd (omega (arith, some)) };
    status = inl (get_or-replicate {A = Cell} 128 0 (0, true) (0, false) (omega arith));
    home = λ t low small. ap (λ (w : Cell). w.1) (get_or-replicate {A = Cell} 128 t (0, true) (0, false) small);
    words = λ t low small. inl (refl, ap (λ (w : Cell). w.0) (get_or-replicate {A = Cell} 128 t (0, true) (0, false) small));
    right = record {
      legal = tt;
      few = omega arith;
      done = omega arith;
      since = λ t low small. omega arith;
      same = λ t low small away m a b. let z : m ≡ 0 = omega (arith, b) in ap (λ (i : ℕ). shown_at (listing net) [] i t) z;
    };
  },
)
