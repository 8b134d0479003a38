-- How what is shown of each node is found right with one entry more.
use Rattle.std.proofs.Common.{◌≡◌, ℕ, ◌+◌, ◌-◌, ◌<◌, ◌≤◌, ◌==◌, inl, inr, cond, Bool, true, false, List, [], ◌∷◌, ◌++◌, length, take, refl, ap, sym, subst, ◌∙◌, arith}
use Rattle.std.specs.Prelude.{reverse}
use Rattle.std.proofs.lemmas.List.{reverse-append}
use Rattle.std.proofs.lemmas.Bool.{cases_eq, cases_lt, ne_eqb}
use mathlib.Core.List.{IsPrefix}
use Rattle.cm_nmt.specs.Listing.{Listing, is_listed}
use Rattle.cm_netlist.specs.Network.{Network, listing}
use Rattle.cm_history.specs.History.{shown}
use Rattle.cm_history.specs.declared.call.Entry.{Entry}
use Rattle.cm_growing.specs.declared.log_item.LogItem.{LogItem}
use Rattle.cm_growing.specs.Changes.{IsChange, Stays}
use Rattle.cm_growing.specs.Items.{IsOf, IsSame, entries_in, shown_at, since_in}
use Rattle.cm_growing.specs.Row.{Found, IsPending, IsWordOf}
use Rattle.cm_growing.specs.Words.{IsWord, word_since}
use Rattle.logbook.specs.Pages.{cell}
use Rattle.cm_growing.proofs.Items.{entries_count, same_later, same_net, take_same}

-- what is found in a node's word
pub look_word : (net : Network) (log : List LogItem) (t found : ℕ) → IsOf net log → 1 ≤ t → t < 128 → Found t found log
    → IsWordOf (listing net) log t found
look_word net log t found of low small (cs, (n, row), is) =
    let same : net ≡ n = same_net net n log of row.of in
    subst (IsWordOf (listing net) log t) is
    (subst (λ (w : Network). IsWordOf (listing w) log t (cell cs t).0) (sym same) (row.words t low small))

-- what is shown at first
unlisted : (b : Bool) → cond {A = ℕ} b 0 0 ≡ 0
unlisted true = refl
unlisted false = refl

pub first_shown : (net : Listing) (t : ℕ) → shown net [] t ≡ cond (t == net.own) 127 0
first_shown net t = by (t == net.own)
  where
    by : (b : Bool) → cond {A = ℕ} b 127 (cond (is_listed net t) 0 0) ≡ cond b 127 0
    by true = refl
    by false = unlisted (is_listed net t)

-- what a word says is what is shown with so many entries
pub split_is : (net : Network) (log : List LogItem) (t found since state before : ℕ) (own : Bool) → IsOf net log → 1 ≤ t → t < 128 → Found t found log
    → own ≡ (t == net.own)
    → ((s v b : ℕ) → IsWord found s v b → (s ≡ 0 → v ≡ cond own 127 0) → (since ≡ s) × (state ≡ v) × (0 < s → before ≡ b))
    → (since ≡ since_in log t) × (state ≡ shown_at (listing net) (entries_in log) (since_in log t) t) × (0 < since_in log t → before ≡ shown_at (listing net) (entries_in log) (since_in log t - 1) t)
split_is net log t found since state before own of low small there is says =
    says (since_in log t) (shown_at (listing net) (entries_in log) (since_in log t) t) (shown_at (listing net) (entries_in log) (since_in log t - 1) t) (look_word net log t found of low small there)
    (λ z. ap (λ (s : ℕ). shown_at (listing net) (entries_in log) s t) z ∙ first_shown (listing net) t ∙ ap (λ (b : Bool). cond b 127 0) (sym is))

-- with how many entries a word was stored is in it
pub since_is : (word since state before : ℕ) → IsWord word since state before → word_since word ≡ since
since_is word since state before (inl p) = omega (arith, p.0, p.1)
since_is word since state before (inr p) = omega (arith, p.1, p.2, p.3)

pub pending_later : (net : Listing) (xs ys : List LogItem) (c : ℕ) (e : Entry) → IsPrefix xs ys → IsPending net xs c e → IsPending net ys c e
pending_later net xs ys c e p was = record {
  next = sym (take_same xs ys (c + 1) p was.there) ∙ was.next ∙ ap (λ (w : List Entry). w ++ e ∷ []) (take_same xs ys c p (omega (arith, was.there)));
  there = omega (arith, was.there, entries_count xs ys p);
  same = λ t low small. same_later net xs ys c t p (omega (arith, was.there)) (was.same t low small);
}

pub change_later : (net : Listing) (xs ys : List LogItem) (c : ℕ) (e : Entry) (node value own own_value : ℕ) → IsPrefix xs ys → c ≤ length (entries_in xs)
    → IsChange net (take c (entries_in xs)) e node value own own_value → IsChange net (take c (entries_in ys)) e node value own own_value
change_later net xs ys c e node value own own_value p le was =
    subst (λ (w : List Entry). IsChange net w e node value own own_value) (take_same xs ys c p le) was

-- what is shown with the entry that was added
pub shown_next : (net : Listing) (log : List LogItem) (c : ℕ) (e : Entry) (t : ℕ) → take (c + 1) (entries_in log) ≡ take c (entries_in log) ++ e ∷ []
    → shown_at net (entries_in log) (c + 1) t ≡ shown net (e ∷ reverse (take c (entries_in log))) t
shown_next net log c e t next = ap (λ (w : List Entry). shown net w t) (ap reverse next ∙ reverse-append (take c (entries_in log)) (e ∷ []))

-- a word that was stored with more entries is right
pub same_far : (net : Listing) (log : List LogItem) (c t : ℕ) → c < since_in log t → IsSame net log (c + 1) t
same_far net log c t far m low high = ap (λ (i : ℕ). shown_at net (entries_in log) i t) (omega (arith, far, low, high))

pub below : (m n : ℕ) → m ≤ n → (m ≡ n → ⊥) → m + 1 ≤ n
below m n le away = elim (cases_lt m n) [
  | inl less ↦ omega (arith, less)
  | inr not ↦ absurd (away (omega (arith, le, not)))
]

-- a word is right with one entry more where what it says is shown with it
pub same_step : (net : Listing) (log : List LogItem) (c t : ℕ) → IsSame net log c t
    → shown_at net (entries_in log) (c + 1) t ≡ shown_at net (entries_in log) (since_in log t) t → IsSame net log (c + 1) t
same_step net log c t same next m low high = elim (cases_eq m (c + 1)) [
  | inl last ↦ ap (λ (i : ℕ). shown_at net (entries_in log) i t) last ∙ next
  | inr other ↦ same m low (omega (arith, below m (c + 1) high other))
]

-- what is shown of a node with the entry is what was shown of it before
pub same_stays : (net : Listing) (log : List LogItem) (c t : ℕ) → IsSame net log c t
    → shown_at net (entries_in log) (c + 1) t ≡ shown_at net (entries_in log) c t → IsSame net log (c + 1) t
same_stays net log c t same stays = elim (cases_lt c (since_in log t)) [
  | inl far ↦ same_far net log c t far
  | inr near ↦ same_step net log c t same (stays ∙ same c near (omega arith))
]

-- the word of a node that is shown as before is right
pub same_shown : (net : Listing) (log : List LogItem) (c : ℕ) (e : Entry) (t before after : ℕ) → IsPending net log c e → 1 ≤ t → t < 128
    → before ≡ shown_at net (entries_in log) (since_in log t) t → after ≡ shown net (e ∷ reverse (take c (entries_in log))) t → after ≡ before → IsSame net log (c + 1) t
same_shown net log c e t before after was low small is next same =
    same_step net log c t (was.same t low small) (shown_next net log c e t was.next ∙ sym next ∙ same ∙ is)

-- what a word says is what is shown with so many entries, where it wasn't stored with more
pub shown_before : (net : Listing) (log : List LogItem) (c t before : ℕ) → IsSame net log c t → since_in log t ≤ c
    → before ≡ shown_at net (entries_in log) (since_in log t) t → before ≡ shown net (reverse (take c (entries_in log))) t
shown_before net log c t before same near is = is ∙ sym (same c near (omega arith))

-- of each node but the two that a change sets
pub others_same : (net : Listing) (log : List LogItem) (c : ℕ) (e : Entry) (node own t : ℕ) → IsPending net log c e → Stays net (take c (entries_in log)) e node own
    → 1 ≤ t → t < 128 → (t ≡ node → ⊥) → (t ≡ own → ⊥) → IsSame net log (c + 1) t
others_same net log c e node own t was stays low small not_node not_own =
    same_stays net log c t (was.same t low small)
    (shown_next net log c e t was.next ∙ stays t low small (ne_eqb node t (λ z. not_node (sym z))) (ne_eqb t own not_own))
