-- A seat that makes calls, one after another.
use Rattle.std.proofs.Common.{◌≡◌, ℕ, ◌+◌, List, [], ◌∷◌, ◌++◌, refl, sym, ap, subst, ◌∙◌, arith, length-append, append_assoc}
use Rattle.std.proofs.lemmas.List.{append-nil}
use Rattle.cm_history.specs.declared.call.Call.{Call}
use Rattle.cm_history.specs.declared.call.Entry.{Entry}
use Rattle.cm_register.specs.Reads.{AreToldBy, HasMadeCalls, IsToldOf}
use Rattle.cm_register.specs.SeatCalls.{made}
use Rattle.cm_register.specs.SeatViews.{SeatView}
use Rattle.cm_register.specs.declared.made.Made.{Made}
use Rattle.cm_register.specs.declared.made.Receipt.{Receipt}

pub none_made : (s : SeatView) → HasMadeCalls s s
none_made s = record {
  number = refl;
  seen = refl;
  calls = [];
  list = sym (append-nil s.list);
  amount = omega arith;
  histories = [];
  told = sym (append-nil s.told);
  each = tt;
}

pub one_made : (old new : SeatView) (call : Call) (receipt : Receipt) → new.number ≡ old.number → new.list ≡ old.list ++ made receipt.position call receipt.reply ∷ []
    → new.amount ≡ old.amount + 1 → IsToldOf old new call receipt → HasMadeCalls old new
one_made old new call receipt number list amount told = record {
  number = number;
  seen = told.seen;
  calls = made receipt.position call receipt.reply ∷ [];
  list = list;
  amount = amount;
  histories = (told.before ++ record { seat = old.number; call = call; reply = receipt.reply; orders = told.orders } ∷ []) ∷ [];
  told = told.told;
  each = (record { before = told.before; orders = told.orders; place = told.place; ends = refl }, tt);
}

told_append : (n : ℕ) (ms ns : List Made) (hs gs : List (List Entry)) → AreToldBy n ms hs → AreToldBy n ns gs → AreToldBy n (ms ++ ns) (hs ++ gs)
told_append n [] ns [] gs a b = b
told_append n [] ns (h ∷ hs) gs a b = absurd a
told_append n (m ∷ ms) ns [] gs a b = absurd a
told_append n (m ∷ ms) ns (h ∷ hs) gs a b = (a.0, told_append n ms ns hs gs a.1 b)

longer : {A : Type 0} (old mid new front back : List A) → mid ≡ old ++ front → new ≡ mid ++ back → new ≡ old ++ (front ++ back)
longer old mid new front back p q = q ∙ (ap (λ w. w ++ back) p ∙ append_assoc old front back)

pub more_made : (old mid new : SeatView) → HasMadeCalls old mid → HasMadeCalls mid new → HasMadeCalls old new
more_made old mid new p q = record {
  number = q.number ∙ p.number;
  seen = q.seen ∙ p.seen;
  calls = p.calls ++ q.calls;
  list = longer old.list mid.list new.list p.calls q.calls p.list q.list;
  amount = omega (arith, p.amount, q.amount, length-append p.calls q.calls);
  histories = p.histories ++ q.histories;
  told = longer old.told mid.told new.told p.histories q.histories p.told q.told;
  each = told_append old.number p.calls q.calls p.histories q.histories p.each (subst (λ (n : ℕ). AreToldBy n q.calls q.histories) p.number q.each);
}
