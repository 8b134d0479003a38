-- What the operator and the other seats do in a live run, call by call and in the history.
use Rattle.std.proofs.Common.{◌≡◌, ◌≢◌, ◌≤◌, inl, inr, ℕ, List, [], ◌∷◌, ◌++◌, length, sym, ap, subst, ◌∙◌, arith}
use Rattle.std.specs.Prelude.{All, Option, Result, Ok, Err, IfOk, OnErr, map}
use Rattle.std.proofs.lemmas.List.Elements.{All-head, All-nil, All-tail}
use Rattle.cm_history.specs.declared.call.Call.{Call}
use Rattle.cm_history.specs.declared.call.Call.TheVariants as call
use Rattle.cm_history.specs.declared.call.Reply.TheVariants as reply
use Rattle.cm_history.specs.declared.call.Entry.{Entry}
use Rattle.cm_crew.specs.ReceivedCalls.{IsNoReport}
use Rattle.cm_register.specs.Handing.{AreApart, HaveTheirCalls, count_calls}
use Rattle.cm_register.specs.SeatCalls.{calls_of, made}
use Rattle.cm_register.specs.SeatViews.{SeatView}
use Rattle.cm_history.specs.declared.call_fault.CallFault.{CallFault}
use Rattle.cm_register.specs.declared.made.Made.{Made}
use Rattle.cm_register.specs.declared.made.Receipt.{Receipt}
use Rattle.cm_crew.specs.CallsMade.{calls_made}
use Rattle.cm_crew.specs.Operated.{BootsUnlessOperator, EndsWith, EndsWithOperator, IsOperatedLive, IsOperators, operator_calls}
use Rattle.cm_operator.specs.Console.{IsOfWatch}
use Rattle.cm_crew.specs.Typing.{AreTyped, BeginsWithStart, BootsAlone, IsMadeInBoot, IsTypedCall, IsUntyped, behind_first}
use Rattle.cm_crew.proofs.Lists.{each_list}

abbrev pub OnlyBoots : SeatView → Type 0
OnlyBoots s = BootsAlone s.list

-- ---- the operator's list grows

sooner_typed : (typed : Option (List ℕ)) (c : Call) (before from upto : ℕ) → before ≤ from → IsTypedCall typed c from upto → IsTypedCall typed c before upto
sooner_typed typed c before from upto le (inl h) = inl (omega (arith, le, h.0), h.1, h.2, h.3)
sooner_typed typed c before from upto le (inr h) = inr (h.0, omega (arith, le, h.1))

add_typed : (typed : Option (List ℕ)) (ms : List Made) (m : Made) (from mid upto : ℕ) → AreTyped typed ms from mid → IsTypedCall typed m.call mid upto → AreTyped typed (ms ++ m ∷ []) from upto
add_typed typed [] m from mid upto h k = (upto, sooner_typed typed m.call from mid upto h k, omega arith)
add_typed typed (x ∷ xs) m from mid upto h k = (h.0, h.1, add_typed typed xs m h.0 mid upto h.2 k)

started_on : (ms : List Made) (m : Made) → BeginsWithStart ms → BeginsWithStart (ms ++ m ∷ [])
started_on [] m s = absurd s
started_on (x ∷ xs) m s = s

-- behind the first of a list that begins with the start one call more stands last
typed_on : (typed : Option (List ℕ)) (ms : List Made) (m : Made) (from upto : ℕ) → BeginsWithStart ms → AreTyped typed (behind_first ms) 0 from → IsTypedCall typed m.call from upto
    → AreTyped typed (behind_first (ms ++ m ∷ [])) 0 upto
typed_on typed [] m from upto s h k = absurd s
typed_on typed (x ∷ xs) m from upto s h k = add_typed typed xs m 0 from upto h k

pub operated_on : (typed : Option (List ℕ)) (old new : SeatView) (from upto : ℕ) (m : Made) → (new.number ≡ old.number) × (new.list ≡ old.list ++ m ∷ []) → IsTypedCall typed m.call from upto
    → IsOperators typed old from → IsOperators typed new upto
operated_on typed old new from upto m is k o = record {
  number = is.0 ∙ o.number;
  started = subst (λ (l : List Made). BeginsWithStart l) (sym is.1) (started_on old.list m o.started);
  calls = subst (λ (l : List Made). AreTyped typed (behind_first l) 0 upto) (sym is.1) (typed_on typed old.list m from upto o.started o.calls k);
}

pub first_call : (typed : Option (List ℕ)) (old new : SeatView) (m : Made) → (old.number ≡ 1) × (old.list ≡ []) → (new.number ≡ old.number) × (new.list ≡ old.list ++ m ∷ []) → m ≡ made 1 call.StartNetwork reply.Started
    → IsOperators typed new 0
first_call typed old new m fresh is start =
    let list : new.list ≡ m ∷ [] = is.1 ∙ ap (λ (l : List Made). l ++ m ∷ []) fresh.1 in
    record {
      number = is.0 ∙ fresh.0;
      started = subst (λ (l : List Made). BeginsWithStart l) (sym list) start;
      calls = subst (λ (l : List Made). AreTyped typed (behind_first l) 0 0) (sym list) (omega arith);
    }

-- ---- a call that no line asks for

pub no_report : (c : Call) → IsUntyped c → IsNoReport c
no_report (call.Report i n a) w = absurd w
no_report _ w = tt

-- a call that a line asks for plainly
pub plain_report : (c : Call) → IsOfWatch c → IsNoReport c
plain_report (call.Report i n a) w = absurd w
plain_report _ w = tt

pub watched : (typed : Option (List ℕ)) (r : Result Receipt CallFault) (old new : SeatView) (c : Call) (upto : ℕ) → IsUntyped c
    → IfOk r (λ k. (new.number ≡ old.number) × (new.list ≡ old.list ++ made k.position c k.reply ∷ [])) → OnErr r (new ≡ old) → IsOperators typed old upto → IsOperators typed new upto
watched typed (Ok k) old new c upto w ok err o = operated_on typed old new upto upto (made k.position c k.reply) ok (inr (w, omega arith)) o
watched typed (Err f) old new c upto w ok err o = subst (λ (s : SeatView). IsOperators typed s upto) (sym err) o

-- ---- the history

last_calls : (h : List Entry) (ws : List SeatView) (s : SeatView) → HaveTheirCalls h (ws ++ s ∷ []) → s.list ≡ calls_of h s.number
last_calls h [] s a = All-head (λ (t : SeatView). t.list ≡ calls_of h t.number) s [] a
last_calls h (w ∷ ws) s a = last_calls h ws s (All-tail (λ (t : SeatView). t.list ≡ calls_of h t.number) w (ws ++ s ∷ []) a)

pub operated : (typed : Option (List ℕ)) (h : List Entry) (ss : List SeatView) → HaveTheirCalls h ss → AreApart ss → count_calls ss ≡ length h → All BootsUnlessOperator ss → EndsWithOperator typed ss → IsOperatedLive typed h
operated typed h ss a apart total others (ws, s, upto, ends, is) =
    let list : s.list ≡ calls_of h 1 = last_calls h ws s (subst (λ (l : List SeatView). HaveTheirCalls h l) ends a) ∙ ap (λ (n : ℕ). calls_of h n) is.number in
    record {
      started = subst (λ (l : List Made). BeginsWithStart l) list is.started;
      calls = (upto, subst (λ (l : List Made). AreTyped typed (behind_first l) 0 upto) list is.calls);
      others = each_list (λ n l. n ≢ 1 → BootsAlone l) h ss a apart total others (λ n other. All-nil IsMadeInBoot);
    }

-- the calls of seat 1 are those of the last seat
pub operator_made : (h : List Entry) (ss : List SeatView) (s : SeatView) → HaveTheirCalls h ss → EndsWith ss s → operator_calls h ≡ calls_made s
operator_made h ss s a (number, ws, ends) =
    ap (λ (l : List Made). map (λ (m : Made). m.call) l)
    (sym (last_calls h ws s (subst (λ (l : List SeatView). HaveTheirCalls h l) ends a) ∙ ap (λ (n : ℕ). calls_of h n) number))
