-- In a history each report is made by the seat of its slave's worker.
use Rattle.std.proofs.Common.{◌≡◌, ◌==◌, ◌+◌, ℕ, Bool, true, false, List, [], ◌∷◌, ◌++◌, refl, sym, subst, ap, not}
use Rattle.std.specs.Prelude.{Result, Ok, Err, IfOk, OnErr, Option, Some, None, if◌then◌else◌}
use Rattle.std.specs.Option.{option_eq}
use Rattle.std.proofs.Math.Dec.{eqb}
use Rattle.std.proofs.lemmas.Bool.{eq-eqb, eqb-true, not-false}
use Rattle.std.proofs.lemmas.List.Elements.{All-cons, All-head, All-nil, All-push, All-same, All-tail}
use Rattle.cm_history.specs.declared.call.Call.{Call}
use Rattle.cm_history.specs.declared.call.Call.TheVariants as call
use Rattle.cm_history.specs.declared.call.Entry.{Entry}
use Rattle.cm_netlist.specs.Network.{Network}
use Rattle.cm_register.specs.SeatCalls.{calls_behind, made}
use Rattle.cm_register.specs.SeatViews.{SeatView}
use Rattle.cm_history.specs.declared.call_fault.CallFault.{CallFault}
use Rattle.cm_register.specs.declared.made.Made.{Made}
use Rattle.cm_register.specs.declared.made.Receipt.{Receipt}
use Rattle.cm_crew.specs.ReceivedCalls.{IsNoReport}
use Rattle.cm_crew.specs.Workers.{AreOfItsSeat, AreOfTheirSeats, IsOfItsSeat}

-- an option that is found equal to some number has it
pub equal_some : (o : Option ℕ) (n : ℕ) → not (option_eq eqb o (Some n)) ≡ false → o ≡ Some n
equal_some None n is = absurd (let p : true ≡ false = is in cc)
equal_some (Some m) n is = ap Some (eqb-true m n (not-false (eqb m n) is))

module _ (net : Network) (seats : ℕ) where
  module _ (seat : ℕ) where
    abbrev Own : Made → Type 0
    Own m = IsOfItsSeat net seats seat m.call

    pub none_own : AreOfItsSeat net seats seat []
    none_own = All-nil Own

    -- ---- a call that is no report

    quiet_own : (c : Call) → IsNoReport c → IsOfItsSeat net seats seat c
    quiet_own (call.Report i n a) q = absurd q
    quiet_own _ q = tt

  pub called_own : (r : Result Receipt CallFault) (old new : SeatView) (c : Call) → IsNoReport c → IfOk r (λ k. (new.number ≡ old.number) × (new.list ≡ old.list ++ made k.position c k.reply ∷ [])) → OnErr r (new ≡ old)
      → AreOfItsSeat net seats old.number old.list → AreOfItsSeat net seats new.number new.list
  called_own (Ok k) old new c quiet ok err h =
      subst (λ (n : ℕ). AreOfItsSeat net seats n new.list) (sym ok.0)
      (All-same (Own old.number) new.list (old.list ++ made k.position c k.reply ∷ []) ok.1 (All-push (Own old.number) old.list (made k.position c k.reply) h (quiet_own old.number c quiet)))
  called_own (Err f) old new c quiet ok err h = subst (λ (s : SeatView). AreOfItsSeat net seats s.number s.list) (sym err) h

  abbrev pub IsOfOwn : SeatView → Type 0
  IsOfOwn s = AreOfItsSeat net seats s.number s.list

  -- ---- a history

  first_own : (seat : ℕ) (b : Bool) (m : Made) (rest : List Made) → b ≡ true → AreOfItsSeat net seats seat (if b then m ∷ rest else rest) → IsOfItsSeat net seats seat m.call
  first_own seat true m rest is h = All-head (Own seat) m rest h
  first_own seat false m rest is h = absurd (let p : false ≡ true = is in cc)

  rest_own : (seat : ℕ) (b : Bool) (m : Made) (rest : List Made) → AreOfItsSeat net seats seat (if b then m ∷ rest else rest) → AreOfItsSeat net seats seat rest
  rest_own seat true m rest h = All-tail (Own seat) m rest h
  rest_own seat false m rest h = h

  pub each_own : (n : ℕ) (es : List Entry) → ((seat : ℕ) → AreOfItsSeat net seats seat (calls_behind seat n es)) → AreOfTheirSeats net seats es
  each_own n [] h = All-nil (λ (e : Entry). IsOfItsSeat net seats e.seat e.call)
  each_own n (e ∷ es) h =
      All-cons (λ (x : Entry). IsOfItsSeat net seats x.seat x.call) e es
      (first_own e.seat (e.seat == e.seat) (made (n + 1) e.call e.reply) (calls_behind e.seat (n + 1) es) (eq-eqb e.seat e.seat refl) (h e.seat))
      (each_own (n + 1) es (λ seat. rest_own seat (e.seat == seat) (made (n + 1) e.call e.reply) (calls_behind seat (n + 1) es) (h seat)))
