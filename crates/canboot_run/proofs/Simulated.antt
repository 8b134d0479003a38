-- The calls of a run, by the seats that are handed in where its register is closed.
use Rattle.std.proofs.Common.{◌≡◌, ℕ, zero, suc, ◌+◌, ◌<◌, ◌==◌, ◌%◌, Bool, true, false, List, [], ◌∷◌, ◌++◌, length, get_or, map, refl, sym, ap, subst, ◌∙◌, arith, length-append}
use Rattle.std.specs.Prelude.{if◌then◌else◌, All, Err, IfOk, Ok, Result, remove}
use Rattle.std.proofs.lemmas.Bool.Decides.{nat_tests}
use Rattle.std.proofs.lemmas.List.{get_or_append_left, get_or_push, length-drop}
use Rattle.std.proofs.lemmas.List.Elements.{All-cons, All-head, All-tail}
use Rattle.std.proofs.lemmas.Grind.{get_or_after_one}
use Rattle.cm_history.specs.declared.call.Call.TheVariants as call
use Rattle.cm_history.specs.declared.call.Entry.{Entry}
use Rattle.cm_history.specs.declared.call.Reply.TheVariants as reply
use Rattle.cm_netlist.specs.Network.{Network, listed_ids}
use Rattle.cm_run.specs.Running.{AllBooted, id_of}
use Rattle.cm_run.specs.Shares.{share, share_from}
use Rattle.cm_run.specs.declared.workers.Booted.{Booted}
use Rattle.cm_register.specs.Handing.{HaveTheirCalls}
use Rattle.cm_register.specs.SeatOpening.{fresh_seat, fresh_seats}
use Rattle.cm_register.specs.SeatCalls.{calls_of, made}
use Rattle.cm_register.proofs.Seats.{fresh_length}
use Rattle.cm_register.specs.SeatViews.{SeatView}
use Rattle.cm_register.specs.declared.made.Made.{Made}
use Rattle.cm_run.specs.Buses.{Steps}
use Rattle.cm_run.specs.declared.bus.SimBus.{SimBus}
use Rattle.cm_run.specs.Operating.{with_receipts}
use Rattle.cm_run.specs.declared.outcome.Outcome.{Outcome}
use Rattle.canboot_run.specs.Simulated.{AreBusesOf, AreMade, BootsSlaves, HasEnded, HasRun, HasStartedFirst, HaveBooted, HaveWorkedOver, IsOperated, IsSimulated, calls_behind}
use Rattle.canboot_run.specs.declared.slave_faults.SlaveFaults.{SlaveFaults}

-- ---- what holds of all outcomes holds of a worker's

module _ {X : Type 0} (P : X → Type 0) where
  one : (b : Bool) (x : X) (xs : List X) → P x → All P xs → All P (if b then x ∷ xs else xs)
  one true x xs p a = All-cons P x xs p a
  one false x xs p a = a

  share_all : (w k n : ℕ) (xs : List X) → All P xs → All P (share_from w k n xs)
  share_all w k n [] a = a
  share_all w k n (x ∷ xs) a = one (n % w == k) x (share_from w k (n + 1) xs) (All-head P x xs a) (share_all w k (n + 1) xs (All-tail P x xs a))

pub have_booted : {K : Type 0} (net : Network) (seats limit attempts w : ℕ) (given : List SeatView) (buses : List SimBus) (after : Booted SimBus K)
    → map id_of after.outcomes.items ≡ listed_ids net → AllBooted Steps net seats limit attempts w given buses after → All AreMade after.outcomes.items → length given ≡ length buses → length after.seats.items ≡ length buses → w ≡ length buses
    → HaveBooted net attempts given buses after.outcomes.items after.seats.items
have_booted net seats limit attempts w given buses after slaves was all from back long = record {
  slaves = slaves;
  seats = from;
  back = back;
  each = λ k s b lt.
      let h = was k s b (omega (arith, long, lt)) in
      record {
        number = h.number;
        added = h.rounds.added;
        grown = h.rounds.grown;
        boots =
            let own : List Outcome = share w k after.outcomes.items in
            let boots : BootsSlaves net w attempts k own (get_or buses k b) h.rounds.added =
            record { slaves = h.slaves; made = share_all AreMade w k 0 after.outcomes.items all; after = get_or after.buses.items k b; rounds = h.rounds.rounds } in
            subst (λ (n : ℕ). BootsSlaves net n attempts k (share n k after.outcomes.items) (get_or buses k b) h.rounds.added) long boots;
      };
}

-- ---- the seats that a register has at first

fresh_or : (n k : ℕ) (d : SeatView) (b : Bool) → (k == n) ≡ b → k < suc n → (k < n → get_or (fresh_seats n) k d ≡ fresh_seat (k + 1)) → get_or (fresh_seats n ++ fresh_seat (n + 1) ∷ []) k d ≡ fresh_seat (k + 1)
fresh_or n k d true e lt was =
    let same : k ≡ n = grind (arith, nat_tests) in
    get_or_push (fresh_seats n) (fresh_seat (n + 1)) d k (omega (arith, fresh_length n, same)) ∙ ap (λ (m : ℕ). fresh_seat (m + 1)) (sym same)
fresh_or n k d false e lt was =
    let less : k < n = grind (arith, nat_tests) in
    get_or_append_left (fresh_seats n) (fresh_seat (n + 1) ∷ []) d k (omega (arith, fresh_length n, less)) ∙ was less

fresh_at : (n k : ℕ) (d : SeatView) → k < n → get_or (fresh_seats n) k d ≡ fresh_seat (k + 1)
fresh_at zero k d lt = absurd (omega (arith, lt))
fresh_at (suc n) k d lt = fresh_or n k d (k == n) refl lt (fresh_at n k d)

pub first_seat : (n : ℕ) (xs : List SeatView) (x : SeatView) → xs ≡ fresh_seats n → 0 < n → x ≡ get_or xs 0 x → x ≡ fresh_seat 1
first_seat n xs x e some is = is ∙ (ap (λ (l : List SeatView). get_or l 0 x) e ∙ fresh_at n 0 x some)

-- the seats of the workers are those behind the operator's
behind : (n k : ℕ) (xs ys : List SeatView) (d : SeatView) → xs ≡ fresh_seats n → ys ≡ remove xs 0 → k + 1 < n → get_or ys k d ≡ fresh_seat (k + 2)
behind n k xs ys d e is lt =
    ap (λ (l : List SeatView). get_or l k d) is ∙ (get_or_after_one xs k d ∙ (ap (λ (l : List SeatView). get_or l (1 + k) d) e ∙ (fresh_at n (1 + k) d (omega (arith, lt)) ∙ ap fresh_seat (omega arith))))

count_behind : (n : ℕ) (xs ys : List SeatView) → xs ≡ fresh_seats n → ys ≡ remove xs 0 → 0 < n → length ys + 1 ≡ n
count_behind n xs ys e is some = omega (arith, ap length is, length-drop 1 xs, ap length e, fresh_length n, some)

-- ---- the calls of each seat are those in the history

abbrev HasItsCalls : List Entry → SeatView → Type 0
HasItsCalls h s = s.list ≡ calls_of h s.number

at_last : (h : List Entry) (handed ss : List SeatView) (s : SeatView) → HaveTheirCalls h handed → handed ≡ ss ++ s ∷ [] → HasItsCalls h s
at_last h handed ss s all is =
    subst (HasItsCalls h) (ap (λ (l : List SeatView). get_or l (length ss) s) is ∙ get_or_push ss s s (length ss) refl) (all (length ss) s (omega (arith, ap length is, length-append ss (s ∷ []))))

at_place : (h : List Entry) (handed ss : List SeatView) (s : SeatView) (k : ℕ) → HaveTheirCalls h handed → handed ≡ ss ++ s ∷ [] → k < length ss → HasItsCalls h (get_or ss k s)
at_place h handed ss s k all is lt =
    subst (HasItsCalls h) (ap (λ (l : List SeatView). get_or l k s) is ∙ get_or_append_left ss (s ∷ []) s k lt) (all k s (omega (arith, lt, ap length is, length-append ss (s ∷ []))))

pub operated : (h : List Entry) (handed ss : List SeatView) (fresh started last : SeatView) (faults : SlaveFaults) (outcomes : List Outcome) → HaveTheirCalls h handed → handed ≡ ss ++ last ∷ [] → fresh ≡ fresh_seat 1 → HasStartedFirst fresh started
    → HasEnded faults outcomes started last → IsOperated faults outcomes h
operated h handed ss fresh started last faults outcomes theirs is e s d =
    let behind : List Made = with_receipts (calls_behind faults outcomes) d.receipts in
    record {
      receipts = d.receipts;
      count = d.count;
      calls = ap (calls_of h) (sym (d.number ∙ (s.number ∙ ap (λ (v : SeatView). v.number) e)))
          ∙ (sym (at_last h handed ss last theirs is) ∙ (d.list ∙ ap (λ (l : List Made). l ++ behind) (s.list ∙ ap (λ (v : SeatView). v.list ++ made 1 call.StartNetwork reply.Started ∷ []) e)));
    }

pub worked : (net : Network) (attempts n : ℕ) (buses : List SimBus) (outcomes : List Outcome) (h : List Entry) (all given handed ss : List SeatView) (last : SeatView) → HaveTheirCalls h handed → handed ≡ ss ++ last ∷ [] → all ≡ fresh_seats n → given ≡ remove all 0 → 0 < n
    → HaveBooted net attempts given buses outcomes ss → HaveWorkedOver net attempts buses outcomes h
worked net attempts n buses outcomes h all given handed ss last theirs is fresh rest some b k bus lt =
    let one = b.each k last bus lt in
    let few : k + 1 < n = omega (arith, count_behind n all given fresh rest some, b.seats, lt) in
    let was : get_or given k last ≡ fresh_seat (k + 2) = behind n k all given last fresh rest few in
    let number : (get_or ss k last).number ≡ k + 2 = one.number ∙ ap (λ (v : SeatView). v.number) was in
    let list : (get_or ss k last).list ≡ one.added = one.grown ∙ ap (λ (v : SeatView). v.list ++ one.added) was in
    let its : one.added ≡ calls_of h (k + 2) = sym list ∙ (at_place h handed ss last k theirs is (omega (arith, lt, b.back)) ∙ ap (calls_of h) number) in
    subst (BootsSlaves net (length buses) attempts k (share (length buses) k outcomes) (get_or buses k bus)) its one.boots

simulated : (net : Network) (w attempts : ℕ) (faults : SlaveFaults) (buses : List SimBus) (h : List Entry) → w ≡ length buses → AreBusesOf net w faults buses → HasRun net attempts faults buses h → IsSimulated net w attempts faults h
simulated net w attempts faults buses h long are run = record {
  outcomes = run.outcomes;
  slaves = run.slaves;
  operated = run.operated;
  worked = λ k lt. record {
    bus = get_or buses k empty;
    on_it = are k empty lt;
    calls = subst (λ (n : ℕ). BootsSlaves net n attempts k (share n k run.outcomes) (get_or buses k empty) (calls_of h (k + 2))) (sym long) (run.worked k empty (omega (arith, long, lt)));
  };
}
  where
    empty : SimBus
    empty = record { slaves = [] }

-- where there is a history, of a register of this network
pub simulated_if : {A E : Type 0} (entries : A → List Entry) (r : Result A E) (net : Network) (w attempts : ℕ) (faults : SlaveFaults) (buses : List SimBus) (own : Network) → own ≡ net → w ≡ length buses → AreBusesOf net w faults buses
    → IfOk r (λ s. HasRun own attempts faults buses (entries s)) → IfOk r (λ s. IsSimulated net w attempts faults (entries s))
simulated_if entries (Ok s) net w attempts faults buses own same long are run =
    simulated net w attempts faults buses (entries s) long are (subst (λ (n : Network). HasRun n attempts faults buses (entries s)) same run)
simulated_if entries (Err e) net w attempts faults buses own same long are run = tt

-- the same history
pub simulated_of : (net : Network) (w attempts : ℕ) (faults : SlaveFaults) (now was : List Entry) → now ≡ was → IsSimulated net w attempts faults was → IsSimulated net w attempts faults now
simulated_of net w attempts faults now was same = subst (IsSimulated net w attempts faults) (sym same)
