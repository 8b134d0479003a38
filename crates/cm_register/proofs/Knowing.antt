-- What a seat knows, after a read and after a call. That a beginning of a beginning is one is in base.Growing: prefix_trans.
use Rattle.std.proofs.Common.{◌≡◌, ℕ, zero, suc, ◌+◌, ◌≤◌, ◌⊎◌, List, [], ◌∷◌, ◌++◌, length, take, drop, refl, sym, ap, subst, ◌∙◌, arith, length-append, append_assoc}
use Rattle.std.specs.Prelude.{reverse}
use Rattle.std.proofs.lemmas.Bool.{eq-eqb}
use Rattle.std.proofs.lemmas.List.{append-nil, take-append-drop, reverse-append}
use mathlib.Core.Logic.{inl, inr}
use mathlib.Core.List.{IsPrefix}
use base.Growing.{prefix_trans}
use Rattle.cm_nmt.specs.Listing.{Listing}
use Rattle.cm_history.specs.Legal.{IsLegal}
use Rattle.cm_history.specs.declared.call.Entry.{Entry}
use Rattle.cm_history.specs.declared.call.Reply.{Reply}
use Rattle.cm_growing.proofs.Prefixes.{prefix_length, prefix_shorter, prefix_whole}
use Rattle.cm_register.specs.Knowing.{ArePlaced, IsKnowing, IsNextCall, seat_view, told_by}
use Rattle.cm_register.specs.Reads.{AllBegin, AllLegal, IsKnown, IsToldOf, last_told, latest}
use Rattle.cm_register.specs.SeatCalls.{HasCallsOf, calls_of, made}
use Rattle.cm_register.specs.SeatViews.{SeatView}
use Rattle.cm_register.specs.declared.made.Made.{Made}
use Rattle.cm_register.specs.declared.made.Receipt.{Receipt}
use Rattle.cm_register.proofs.CallsOfSeats.{calls_longer, calls_next, calls_up_to}
use Rattle.cm_register.proofs.Takes.{drop_append, take_begin, take_prefix, take_same, take_whole}

-- ---- histories told

-- what was told begins every history that has what is known as its beginning
pub told_begin : (known h : List Entry) (list : List Made) → IsPrefix known h → AllBegin (told_by known list) h
told_begin known h [] p = tt
told_begin known h (m ∷ list) p = (prefix_trans (take m.position known) known h (take_prefix m.position known) p, told_begin known h list p)

legal_behind : (net : Listing) (more past : List Entry) → IsLegal net (more ++ past) → IsLegal net past
legal_behind net [] past l = l
legal_behind net (e ∷ more) past l = legal_behind net more past l.1

-- a beginning of a legal history is legal
pub legal_begin : (net : Listing) (h known : List Entry) → IsPrefix h known → IsLegal net (reverse known) → IsLegal net (reverse h)
legal_begin net h known p l =
    let split : reverse known ≡ reverse p.0 ++ reverse h = ap reverse (sym p.1) ∙ reverse-append h p.0 in
    legal_behind net (reverse p.0) (reverse h) (subst (IsLegal net) split l)

pub told_legal : (net : Listing) (known : List Entry) (list : List Made) → IsLegal net (reverse known) → AllLegal net (told_by known list)
told_legal net known [] l = tt
told_legal net known (m ∷ list) l = (legal_begin net (take m.position known) known (take_prefix m.position known) l, told_legal net known list l)

told_append : (known : List Entry) (list : List Made) (m : Made) → told_by known (list ++ m ∷ []) ≡ told_by known list ++ take m.position known ∷ []
told_append known [] m = refl
told_append known (x ∷ list) m = ap (λ w. take x.position known ∷ w) (told_append known list m)

told_same : (known h : List Entry) (list : List Made) → IsPrefix known h → ArePlaced list (length known) → told_by h list ≡ told_by known list
told_same known h [] p placed = refl
told_same known h (m ∷ list) p placed =
    let one = take_same m.position known h p placed.0 in
    let rest = told_same known h list p placed.1 in
    cc (one, rest)

-- the last of these calls, and what it told; or there is none
record LastTold (view known : List Entry) (list : List Made) : Type 0 where
  front : List Made
  last : Made
  all : list ≡ front ++ last ∷ []
  told : last_told view (told_by known list) ≡ take last.position known

told_last : (view known : List Entry) (list : List Made) → (list ≡ []) ⊎ LastTold view known list
told_last view known [] = inl refl
told_last view known (m ∷ list) = elim (told_last (take m.position known) known list) [
  | inl none ↦ inr record { front = []; last = m; all = ap (λ w. m ∷ w) none; told = ap (λ w. last_told (take m.position known) (told_by known w)) none }
  | inr some ↦ inr record { front = m ∷ some.front; last = some.last; all = ap (λ w. m ∷ w) some.all; told = some.told }
]

-- ---- places of calls

placed_more : (n k : ℕ) (list : List Made) → n ≤ k → ArePlaced list n → ArePlaced list k
placed_more n k [] le placed = tt
placed_more n k (m ∷ list) le placed = (omega (arith, placed.0), placed_more n k list le placed.1)

placed_append : (n : ℕ) (list : List Made) (m : Made) → ArePlaced list n → m.position ≤ n → ArePlaced (list ++ m ∷ []) n
placed_append n [] m placed le = (le, tt)
placed_append n (x ∷ list) m placed le = (placed.0, placed_append n list m placed.1 le)

placed_drop : (n k : ℕ) (list : List Made) → ArePlaced list n → ArePlaced (drop k list) n
placed_drop n zero list placed = placed
placed_drop n (suc k) [] placed = tt
placed_drop n (suc k) (x ∷ list) placed = placed_drop n k list placed.1

-- ---- what is known goes on

-- what is known of a history is known of a longer one
pub known_longer : (h longer : List Entry) (s : SeatView) → IsPrefix h longer → IsKnown h s → IsKnown longer s
known_longer h longer s p k = (prefix_trans s.view h longer k.0 p, all s.told k.1)
  where
    all : (ts : List (List Entry)) → AllBegin ts h → AllBegin ts longer
    all [] b = tt
    all (t ∷ ts) b = (prefix_trans t h longer b.0 p, all ts b.1)

pub calls_known_longer : (h longer : List Entry) (s : SeatView) → IsPrefix h longer → HasCallsOf h s → HasCallsOf longer s
calls_known_longer h longer s p c = prefix_trans s.list (calls_of h s.number) (calls_of longer s.number) c (calls_longer s.number h longer p)

pub first_knowing : (number : ℕ) → IsKnowing number [] [] 0 0
first_knowing number = record { seen = omega arith; since = omega arith; placed = tt; calls = ([], refl); shown = ([], refl) }

-- two beginnings of one list that are as long as each other
same_begin : {A : Type 0} (xs ys zs : List A) → IsPrefix xs zs → IsPrefix ys zs → length xs ≡ length ys → xs ≡ ys
same_begin xs ys zs p q size = prefix_whole xs ys (prefix_shorter xs ys zs p q (omega (arith, size))) (omega (arith, size))

-- the entry, with this number and reply
abbrev entry_with : ℕ → Reply → Entry → Entry
entry_with s r e = record { seat = s; call = e.call; reply = r; orders = e.orders }

module _ (number : ℕ) (list : List Made) (known : List Entry) (viewed called : ℕ) (k : IsKnowing number list known viewed called) where
  -- the calls of the seat are the first of its number in what it saw or was told last
  pub calls_latest : (capacity amount : ℕ) → HasCallsOf (latest (seat_view number list capacity amount known viewed called)) (seat_view number list capacity amount known viewed called)
  calls_latest capacity amount = elim (told_last (take viewed known) known (drop called list)) [
    | inl none ↦
        let whole : take called list ≡ list = sym (append-nil (take called list)) ∙ (ap (λ w. take called list ++ w) (sym none) ∙ take-append-drop called list) in
        let view : take viewed known ≡ last_told (take viewed known) (told_by known (drop called list)) = ap (λ w. last_told (take viewed known) (told_by known w)) (sym none) in
        subst (λ (h : List Entry). IsPrefix list (calls_of h number)) view (subst (λ (w : List Made). IsPrefix w (calls_of (take viewed known) number)) whole k.shown)
    | inr some ↦
        let front : List Made = take called list ++ some.front in
        let whole : front ++ some.last ∷ [] ≡ list = append_assoc (take called list) some.front (some.last ∷ []) ∙ (ap (λ w. take called list ++ w) (sym some.all) ∙ take-append-drop called list) in
        let calls = calls_up_to number known front some.last (subst (λ (w : List Made). IsPrefix w (calls_of known number)) (sym whole) k.calls) in
        subst (λ (h : List Entry). IsPrefix list (calls_of h number)) (sym some.told) ([], append-nil list ∙ (sym whole ∙ sym calls))
  ]

  module _ (h : List Entry) (p : IsPrefix known h) where
    pub calls_in_longer : IsPrefix list (calls_of h number)
    calls_in_longer = prefix_trans list (calls_of known number) (calls_of h number) k.calls (calls_longer number known h p)

    -- after a read of a longer history
    pub knowing_read : IsKnowing number list h (length h) (length list)
    knowing_read = record {
      seen = omega arith;
      since = omega arith;
      placed = placed_more (length known) (length h) list (prefix_length known h p) k.placed;
      calls = calls_in_longer;
      shown = subst (λ (w : List Made). IsPrefix w (calls_of (take (length h) h) number)) (sym (take_whole list))
          (subst (λ (w : List Entry). IsPrefix list (calls_of w number)) (sym (take_whole h)) calls_in_longer);
    }

    -- what the seat saw and was told are beginnings of every history that has what it knows as its beginning
    pub is_known : (capacity amount : ℕ) → IsKnown h (seat_view number list capacity amount known viewed called)
    is_known capacity amount = (prefix_trans (take viewed known) known h (take_prefix viewed known) p, told_begin known h (drop called list) p)

    -- after a call, whose entry is the last of a history that begins what is known then
    module _ (capacity amount : ℕ) (e : Entry) (past : List Entry) (next : IsNextCall (seat_view number list capacity amount known viewed called) e past) (q : IsPrefix past h) where
      begin : IsPrefix (next.before ++ e ∷ []) h
      begin = subst (λ (w : List Entry). IsPrefix w h) next.longer q

      -- the calls in the history before it are all that the seat has made
      all_before : list ≡ calls_of next.before number
      all_before =
          let front : IsPrefix next.before h = prefix_trans next.before (next.before ++ e ∷ []) h (e ∷ [], refl) begin in
          same_begin list (calls_of next.before number) (calls_of h number) calls_in_longer (calls_longer number next.before h front) next.fresh

      size : length past ≡ length next.before + 1
      size = omega (arith, ap length next.longer, length-append next.before (e ∷ []))

      module _ (at : ℕ) (place : at ≡ length past) where
        abbrev pub one : Made
        one = made at e.call e.reply

        list_is : list ++ one ∷ [] ≡ calls_of (next.before ++ e ∷ []) number
        list_is =
            ap (λ w. w ++ one ∷ []) all_before
            ∙ (ap (λ i. calls_of next.before number ++ made i e.call e.reply ∷ []) (place ∙ size)
            ∙ sym (calls_next number next.before e (eq-eqb _ _ next.its)))

        pub knowing_call : IsKnowing number (list ++ one ∷ []) h viewed called
        knowing_call = record {
          seen = omega (arith, k.seen, prefix_length known h p);
          since = omega (arith, k.since, length-append list (one ∷ []));
          placed = placed_append (length h) list one (placed_more (length known) (length h) list (prefix_length known h p) k.placed) (omega (arith, place, prefix_length past h q));
          calls = subst (λ (w : List Made). IsPrefix w (calls_of h number)) (sym list_is) (calls_longer number (next.before ++ e ∷ []) h begin);
          shown = subst (λ (w : List Made). IsPrefix w (calls_of (take viewed h) number)) (sym (take_same called list (list ++ one ∷ []) (one ∷ [], refl) k.since))
              (subst (λ (w : List Entry). IsPrefix (take called list) (calls_of w number)) (sym (take_same viewed known h p k.seen)) k.shown);
        }

        -- the seat is told of that call
        pub told_call : (more room : ℕ) (receipt : Receipt) → receipt.position ≡ at → receipt.reply ≡ e.reply
            → IsToldOf (seat_view number list capacity amount known viewed called) (seat_view number (list ++ one ∷ []) room more h viewed called) e.call receipt
        told_call more room receipt where_is replied =
            let last : take at h ≡ next.before ++ e ∷ [] = take_begin (next.before ++ e ∷ []) h at begin (place ∙ ap length next.longer) in
            let given : e ≡ entry_with number receipt.reply e = ap (λ (s : ℕ). entry_with s e.reply e) next.its ∙ ap (λ (r : Reply). entry_with number r e) (sym replied) in
            let told : told_by h (drop called (list ++ one ∷ [])) ≡ told_by known (drop called list) ++ (next.before ++ e ∷ []) ∷ [] =
            ap (told_by h) (drop_append called list (one ∷ []) k.since) ∙ (told_append h (drop called list) one
            ∙ (ap (λ w. w ++ take at h ∷ []) (told_same known h (drop called list) p (placed_drop (length known) called list k.placed))
            ∙ ap (λ w. told_by known (drop called list) ++ w ∷ []) last)) in
            record {
              seen = take_same viewed known h p k.seen;
              before = next.before;
              orders = e.orders;
              place = omega (arith, where_is, place, size);
              told = told ∙ ap (λ (x : Entry). told_by known (drop called list) ++ (next.before ++ x ∷ []) ∷ []) given;
            }
