-- Where a register is closed, the calls of any number in its history are the list of one of its seats, or there are none.
use Rattle.std.proofs.Common.{◌≡◌, ℕ, ◌+◌, ◌==◌, ◌⊎◌, Bool, false, List, [], ◌∷◌, length, refl, sym, ap, subst, ◌∙◌, arith, inl, inr}
use Rattle.std.specs.Prelude.{if◌then◌else◌, All, Option, reverse}
use Rattle.std.proofs.lemmas.Bool.{cases_eq, ne_eqb}
use Rattle.std.proofs.lemmas.List.Elements.{All-head, All-tail}
use Rattle.cm_history.specs.Laws.{AtEach, BecomesOperationalRightly}
use Rattle.cm_history.specs.declared.call.Entry.{Entry}
use Rattle.cm_can.specs.declared.format.Format.{Format}
use Rattle.cm_netlist.specs.Network.{Network, listing}
use Rattle.cm_register.specs.Handing.{AreApart, HaveTheirCalls, count_calls}
use Rattle.cm_register.specs.SeatCalls.{calls_behind, calls_of, made}
use Rattle.cm_register.specs.SeatViews.{SeatView}
use Rattle.cm_register.proofs.SeatsClosed.{counts, counts_cons, few_counts, few_hits, hits}
use Rattle.cm_register.specs.declared.made.Made.{Made}
use Rattle.cm_crew.specs.ReceivedCalls.{IsReceivedList}
use Rattle.cm_crew.specs.Heard.{IsAllHeard}
use Rattle.cm_crew.specs.Workers.{AreOfItsSeat}
use Rattle.cm_crew.proofs.ReceivedRounds.{fresh_received}
use Rattle.cm_crew.proofs.Starts.{EachRightly, starts_heard}
use Rattle.cm_crew.proofs.StartsOfAll.{each_received, reversed_received, starts_of_all}
use Rattle.cm_crew.proofs.Working.{IsOfOwn, each_own, none_own}

-- ---- a number that no seat has

all_counts : (h : List Entry) (ss : List SeatView) → HaveTheirCalls h ss → count_calls ss ≡ counts 0 h ss
all_counts h [] a = refl
all_counts h (s ∷ ss) a =
    omega (arith, ap length (All-head (λ (t : SeatView). t.list ≡ calls_of h t.number) s ss a), all_counts h ss (All-tail (λ (t : SeatView). t.list ≡ calls_of h t.number) s ss a))

no_calls : (seat n : ℕ) (h : List Entry) (ss : List SeatView) → AreApart ss → counts n h ss ≡ length h → hits seat ss ≡ 0 → calls_behind seat n h ≡ []
no_calls seat n [] ss a all none = refl
no_calls seat n (x ∷ h) ss a all none =
    let parts = counts_cons n x h ss in
    let few = few_hits x.seat ss a in
    let rest = few_counts (n + 1) h ss a in
    let one : hits x.seat ss ≡ 1 = omega (arith, all, parts, few, rest) in
    let other : (x.seat == seat) ≡ false = ne_eqb x.seat seat (λ e. absurd (omega (arith, one, none, ap (λ (k : ℕ). hits k ss) e))) in
    ap (λ (b : Bool). if b then made (n + 1) x.call x.reply ∷ calls_behind seat (n + 1) h else calls_behind seat (n + 1) h) other
    ∙ no_calls seat (n + 1) h ss a (omega (arith, all, parts, few, rest)) none

-- ---- what holds of each seat's number and list, and of no calls, holds of each number and its calls

module _ (P : ℕ → List Made → Type 0) where
  abbrev IsOf : SeatView → Type 0
  IsOf s = P s.number s.list

  seat_list : (h : List Entry) (ss : List SeatView) → HaveTheirCalls h ss → All IsOf ss → (seat : ℕ) → (hits seat ss ≡ 0) ⊎ P seat (calls_of h seat)
  seat_list h [] a r seat = inl refl
  seat_list h (s ∷ ss) a r seat =
      let list = All-head (λ (t : SeatView). t.list ≡ calls_of h t.number) s ss a in
      let rest = seat_list h ss (All-tail (λ (t : SeatView). t.list ≡ calls_of h t.number) s ss a) (All-tail IsOf s ss r) seat in
      elim (cases_eq seat s.number) [
        | inl same ↦
            inr (subst (λ (n : ℕ). P n (calls_of h n)) (sym same) (subst (λ (l : List Made). P s.number l) list (All-head IsOf s ss r)))
        | inr other ↦ elim rest [
          | inl none ↦ inl (omega (arith, ap {B = ℕ} (λ (b : Bool). if b then 1 else 0) (ne_eqb seat s.number other), none))
          | inr k ↦ inr k
        ]
      ]

  either : (h : List Entry) (ss : List SeatView) (seat : ℕ) → AreApart ss → counts 0 h ss ≡ length h → P seat [] → (hits seat ss ≡ 0) ⊎ P seat (calls_of h seat) → P seat (calls_of h seat)
  either h ss seat a all nothing (inl none) = subst (λ (l : List Made). P seat l) (sym (no_calls seat 0 h ss a all none)) nothing
  either h ss seat a all nothing (inr k) = k

  pub each_list : (h : List Entry) (ss : List SeatView) → HaveTheirCalls h ss → AreApart ss → count_calls ss ≡ length h → All IsOf ss → ((seat : ℕ) → P seat []) → (seat : ℕ) → P seat (calls_of h seat)
  each_list h ss a apart total r nothing seat = either h ss seat apart (sym (all_counts h ss a) ∙ total) (nothing seat) (seat_list h ss a r seat)

module _ (format : Format) (text : Option (List ℕ)) (net : Network) where
  abbrev pub IsOfReceived : SeatView → Type 0
  IsOfReceived s = IsReceivedList format text net s.list

  pub all_heard : (seats : ℕ) (h : List Entry) (ss : List SeatView) → HaveTheirCalls h ss → AreApart ss → count_calls ss ≡ length h → All IsOfReceived ss → All (IsOfOwn net seats) ss → EachRightly format text net h
      → AtEach (BecomesOperationalRightly (listing net)) (reverse h) → IsAllHeard format text net seats h
  all_heard seats h ss a apart total r own rightly operational =
      let lists : (seat : ℕ) → IsReceivedList format text net (calls_of h seat) =
      each_list (λ n l. IsReceivedList format text net l) h ss a apart total r (λ n. (0, fresh_received format text net [] refl 0)) in
      let each = each_received format text net 0 h (λ seat. (0, (lists seat).0, (lists seat).1)) in
      record {
        starts = λ seat. starts_heard format text net seat 0 h 0 (lists seat).0 rightly (lists seat).1;
        all = starts_of_all format text net (reverse h) (reversed_received format text net h each) operational;
        reports = lists;
        workers = each_own net seats 0 h (each_list (λ n l. AreOfItsSeat net seats n l) h ss a apart total own (λ n. none_own net seats n));
      }
