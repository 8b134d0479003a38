-- What a reader sees, by the first word and then the word of a node.
use Rattle.std.proofs.Common.{◌≡◌, ℕ, ◌-◌, ◌<◌, ◌≤◌, ◌⊎◌, inl, inr, true, List, [], ◌∷◌, length, ap, sym, subst, ◌∙◌, arith}
use mathlib.Core.List.{IsPrefix}
use base.Growing.{prefix_trans}
use Rattle.logbook.specs.Pages.{Cell, cell}
use Rattle.cm_netlist.specs.Network.{Network, listing}
use Rattle.cm_history.proofs.LegalHistories.{legal_take}
use Rattle.cm_growing.specs.declared.log_item.LogItem.{LogItem}
use Rattle.cm_growing.specs.declared.log_item.LogItem.TheVariants as item
use Rattle.cm_growing.specs.Items.{IsOf, IsSame, current_in, done_in, entries_in, shown_at, since_in}
use Rattle.cm_growing.specs.Row.{Found, IsLooked, IsRight, IsRow}
use Rattle.cm_growing.specs.Words.{gone_word, status_done, status_node, status_state, packed_status}
use Rattle.cm_growing.proofs.Items.{entries_count, same_later, same_net}

-- what the first word says
record IsRead (net : Network) (log : List LogItem) (n : ℕ) : Type 0 where
  pub done : done_in log ≡ status_done n
  pub node : current_in log ≡ status_node n
  pub shown : 1 ≤ current_in log → status_state n ≡ shown_at (listing net) (entries_in log) (done_in log) (current_in log)

read_status : (net : Network) (cs : List Cell) (log : List LogItem) (n : ℕ) → IsRow net cs log → (cell cs 0).0 ≡ n → (n ≡ gone_word → ⊥) → IsRead net log n
read_status net cs log n row found here = by row.status
  where
    by : (cell cs 0 ≡ (packed_status (length (entries_in log)) (done_in log) (current_in log) row.state, true)) ⊎ (cell cs 0 ≡ (gone_word, true)) → IsRead net log n
    by (inl p) =
        let word : n ≡ packed_status (length (entries_in log)) (done_in log) (current_in log) row.state = sym found ∙ ap (λ (w : Cell). w.0) p in
        let state : status_state n ≡ row.state = omega (arith, word, row.first.byte) in
        record {
          done = omega (arith, word, row.right.few, row.right.done, row.first.node, row.first.byte);
          node = omega (arith, word, row.right.few, row.right.done, row.first.node, row.first.byte);
          shown = λ some. state ∙ row.first.shown some;
        }
    by (inr p) = absurd (here (sym found ∙ ap (λ (w : Cell). w.0) p))

-- the entries are right in a row of this network
right_of : (net : Network) (log : List LogItem) (t found : ℕ) → IsOf net log → Found t found log → IsRight (listing net) log
right_of net log t found of (cs, (n, row), is) = subst (λ (w : Network). IsRight (listing w) log) (sym (same_net net n log of row.of)) row.right

-- what the first word says of a node is what is shown of it
pub looked_current : (net : Network) (log : List LogItem) (t status : ℕ) → Found 0 status log → (status ≡ gone_word → ⊥) → IsOf net log → 1 ≤ t → status_node status ≡ t
    → IsLooked net log t (status_state status) (status_done status)
looked_current net log t status (cs, (n, row), found) here of low is = record {
  there = omega (arith, read.done, row.right.done);
  few = omega (arith, read.done, row.right.done, row.right.few);
  legal = rw same (legal_take (listing n) (entries_in log) (status_done status) row.right.legal);
  shows = rw (same, ← is, ← read.node, ← read.done) (read.shown (omega (arith, read.node, is, low)));
}
  where
    read : IsRead n log status
    read = read_status n cs log status row found here

    same : net ≡ n
    same = same_net net n log of row.of

-- what is shown of another node is the same from where its word was stored up to where the words are right
same_read : (net : Network) (xs ys : List LogItem) (t status : ℕ) → Found 0 status xs → (status ≡ gone_word → ⊥) → IsPrefix xs ys → IsOf net ys → 1 ≤ t → t < 128
    → (status_node status ≡ t → ⊥) → (status_done status ≤ length (entries_in xs)) × IsSame (listing net) ys (status_done status) t
same_read net xs ys t status (cs, (n, row), found) here p of low small away =
    let read = read_status n cs xs status row found here in
    let same : net ≡ n = same_net net n ys of (prefix_trans (item.Opened n ∷ []) xs ys row.of p) in (
      omega (arith, read.done, row.right.done),
      rw (same, ← read.done) (same_later (listing n) xs ys (done_in xs) t p row.right.done (row.right.same t low small (λ z. away (sym read.node ∙ sym z)))),
    )

-- where a node's word was stored with no more entries than are right, it is right with all of these
pub looked_done : (net : Network) (xs ys : List LogItem) (t status word since state : ℕ) → Found 0 status xs → (status ≡ gone_word → ⊥) → (status_node status ≡ t → ⊥) → IsPrefix xs ys
    → IsOf net ys → 1 ≤ t → t < 128 → Found t word ys → since ≡ since_in ys t → state ≡ shown_at (listing net) (entries_in ys) (since_in ys t) t
    → since ≤ status_done status → IsLooked net ys t state (status_done status)
looked_done net xs ys t status word since state first here away p of low small there stored shown behind = record {
  there = fits;
  few = omega (arith, fits, right.few);
  legal = legal_take (listing net) (entries_in ys) (status_done status) right.legal;
  shows = shown ∙ sym (same.1 (status_done status) (omega (arith, behind, stored)) (omega arith));
}
  where
    right : IsRight (listing net) ys
    right = right_of net ys t word of there

    same : (status_done status ≤ length (entries_in xs)) × IsSame (listing net) ys (status_done status) t
    same = same_read net xs ys t status first here p of low small away

    fits : status_done status ≤ length (entries_in ys)
    fits = omega (arith, same.0, entries_count xs ys p)

-- where it was stored with more, it says what was shown with one entry less
pub looked_before : (net : Network) (ys : List LogItem) (t word since before : ℕ) → IsOf net ys → 1 ≤ t → t < 128 → Found t word ys
    → since ≡ since_in ys t → (0 < since_in ys t → before ≡ shown_at (listing net) (entries_in ys) (since_in ys t - 1) t) → 0 < since
    → IsLooked net ys t before (since - 1)
looked_before net ys t word since before of low small there stored shown some = record {
  there = omega (arith, stored, right.since t low small);
  few = omega (arith, stored, right.since t low small, right.few);
  legal = legal_take (listing net) (entries_in ys) (since - 1) right.legal;
  shows = shown (omega (arith, stored, some)) ∙ ap (λ (m : ℕ). shown_at (listing net) (entries_in ys) (m - 1) t) (sym stored);
}
  where
    right : IsRight (listing net) ys
    right = right_of net ys t word of there
