-- What the steps of a row need of its rule.
use Rattle.std.proofs.Common.{◌≡◌, ℕ, zero, suc, ◌<◌, ◌==◌, Bool, true, false, List, [], ◌∷◌, ◌++◌, length, slice_set, refl, ap, sym, ◌∙◌, arith, inl, inr, ◌⊎◌, None}
use Rattle.std.proofs.lemmas.List.{append-nil, set-get_or}
use Rattle.std.proofs.lemmas.Bool.Decides.{nat_tests}
use Rattle.std.specs.Prelude.{IsTrue, MatchBool}
use mathlib.Core.List.{IsPrefix}
use prog.Atomic.{either}
use Rattle.logbook.specs.Pages.{Cell, Goes, Moves, View, cell, keeps, no_nib, step}
use Rattle.cm_netlist.specs.Network.{Network}
use Rattle.cm_growing.specs.declared.log_item.LogItem.{LogItem}
use Rattle.cm_growing.specs.Row.{Ends, Found, HasRow, IsRow, Looks, Puts}
use Rattle.cm_growing.specs.Words.{gone_word, packed_status}
use Rattle.cm_growing.proofs.RowSteps.{gone}
use Rattle.cm_growing.specs.Items.{current_in, done_in, entries_in}

-- what clients see of the log, and how their updates move it: nothing
abbrev shown : List LogItem → List LogItem
shown log = []

abbrev moved : List LogItem → List LogItem → ℕ → Type 0
moved before after answer = Unit {0}

abbrev view : List LogItem → View LogItem ℕ
view seen = (seen, (no_nib, None))

status_home : (cs : List Cell) (n : ℕ) → (cell cs 0 ≡ (n, true)) ⊎ (cell cs 0 ≡ (gone_word, true)) → (cell cs 0).1 ≡ true
status_home cs n (inl p) = ap (λ (w : Cell). w.1) p
status_home cs n (inr p) = ap (λ (w : Cell). w.1) p

at_home : (net : Network) (cs : List Cell) (log : List LogItem) (k : ℕ) → IsRow net cs log → k < 128 → (cell cs k).1 ≡ true
at_home net cs log zero row small = status_home cs (packed_status (length (entries_in log)) (done_in log) (current_in log) row.state) row.status
at_home net cs log (suc k) row small = row.home (suc k) (omega arith) small

-- a word that is written with what is in it stays
stays : (net : Network) (cs : List Cell) (log : List LogItem) (k : ℕ) → IsRow net cs log → k < 128 → slice_set cs k ((cell cs k).0, true) ≡ cs
stays net cs log k row small = ap (λ (b : Bool). slice_set cs k ((cell cs k).0, b)) (sym (at_home net cs log k row small)) ∙ set-get_or cs k (0, false)

pub looks : (seen : List LogItem) (k : ℕ) (ask : LogItem) → k < 128 → Moves HasRow shown moved k (view seen) (λ n. n) (Looks (step k 0 0 ask) (view seen))
looks seen k ask small cs log kept pre away =
    let same = stays kept.0 cs log k kept.1 small in
    let all = append-nil log in (
      omega (arith, small, kept.1.long),
      at_home kept.0 cs log k kept.1 small,
      (keeps, [], None, tt, rw (same, all) kept, inl (refl, refl), (cs, rw all kept, refl)),
    )

puts_at : (seen : List LogItem) (k old new : ℕ) (ask : LogItem) (cs : List Cell) (log : List LogItem) → k < 128 → HasRow cs log → IsPrefix seen log
    → ((cell cs k).0 ≡ old → HasRow (slice_set cs k (new, true)) (log ++ ask ∷ []))
    → (b : Bool) → ((cell cs k).0 == old) ≡ b
    → Goes HasRow shown moved k (view seen) (λ n. either (n == old) new n) (Puts (step k old new ask) (view seen)) cs log
puts_at seen k old new ask cs log small kept pre next true is =
    let here : (cell cs k).0 ≡ old = grind (arith, nat_tests) in
    (keeps, ask ∷ [], None, tt, rw is (next here), inl (refl, refl), rw is (log, (cs, kept, here), pre, refl))
puts_at seen k old new ask cs log small kept pre next false is =
    let same = stays kept.0 cs log k kept.1 small in
    (keeps, [], None, tt, rw (is, same, append-nil log) kept, inl (refl, refl), rw is tt)

-- the history is shown no more, where the first word is the one that was found
ends_at : (net : Network) (old : ℕ) (cs : List Cell) (log : List LogItem) → IsRow net cs log → (b : Bool)
    → HasRow (slice_set cs 0 (either b gone_word (cell cs 0).0, true)) (log ++ [])
ends_at net old cs log row true = rw (append-nil log) (net, gone net cs log row)
ends_at net old cs log row false = rw (stays net cs log 0 row (omega arith), append-nil log) (net, row)

pub ends : (seen : List LogItem) (old : ℕ) (ask : LogItem)
    → Moves HasRow shown moved 0 (view seen) (λ n. either (n == old) gone_word n) (Ends (step 0 old gone_word ask) (view seen))
ends seen old ask cs log kept pre away = (
  omega (arith, kept.1.long),
  at_home kept.0 cs log 0 kept.1 (omega arith),
  (keeps, [], None, tt, ends_at kept.0 old cs log kept.1 ((cell cs 0).0 == old), inl (refl, refl), tt),
)

pub puts : (seen : List LogItem) (k old new : ℕ) (ask : LogItem) → k < 128
    → ((cs : List Cell) (log : List LogItem) → HasRow cs log → IsPrefix seen log → (cell cs k).0 ≡ old → HasRow (slice_set cs k (new, true)) (log ++ ask ∷ []))
    → Moves HasRow shown moved k (view seen) (λ n. either (n == old) new n) (Puts (step k old new ask) (view seen))
puts seen k old new ask small next cs log kept pre away = (
  omega (arith, small, kept.1.long),
  at_home kept.0 cs log k kept.1 small,
  puts_at seen k old new ask cs log small kept pre (next cs log kept pre) ((cell cs k).0 == old) refl,
)

-- what a step tells where it changed the word
pub put_true : (k old new found : ℕ) (ask : LogItem) (before after : View LogItem ℕ) → IsTrue (found == old) → Puts (step k old new ask) before found after
    → (log : List LogItem) × Found k old log × IsPrefix before.0 log × (after.0 ≡ log ++ ask ∷ [])
put_true k old new found ask before after = by (found == old)
  where
    by : (b : Bool) → IsTrue b → MatchBool b ((log : List LogItem) × Found k old log × IsPrefix before.0 log × (after.0 ≡ log ++ ask ∷ [])) (Unit {0})
        → (log : List LogItem) × Found k old log × IsPrefix before.0 log × (after.0 ≡ log ++ ask ∷ [])
    by true t told = told
    by false t told = absurd (cc t)
