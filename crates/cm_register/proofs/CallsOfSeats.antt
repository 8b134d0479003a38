-- The calls of one seat in a history and in its beginnings.
use Rattle.std.proofs.Common.{◌≡◌, ℕ, ◌+◌, ◌==◌, Bool, true, false, List, [], ◌∷◌, ◌++◌, length, take, refl, sym, ap, ◌∙◌, arith, append_assoc, length-append}
use Rattle.std.specs.Prelude.{if◌then◌else◌}
use mathlib.Core.List.{IsPrefix}
use Rattle.cm_history.specs.declared.call.Entry.{Entry}
use Rattle.cm_register.specs.declared.made.Made.{Made}
use Rattle.cm_register.specs.SeatCalls.{calls_behind, calls_of, made}
use Rattle.cm_register.proofs.Takes.{take_begin}

-- the call of an entry that stands behind n others
abbrev pub made_by : ℕ → Entry → Made
made_by n e = made (n + 1) e.call e.reply

if_cons : {A : Type 0} (b : Bool) (y : A) (xs ys zs : List A) → xs ≡ ys ++ zs → (if b then y ∷ xs else xs) ≡ (if b then y ∷ ys else ys) ++ zs
if_cons true y xs ys zs p = ap (λ w. y ∷ w) p
if_cons false y xs ys zs p = p

pub calls_append : (k n : ℕ) (h more : List Entry) → calls_behind k n (h ++ more) ≡ calls_behind k n h ++ calls_behind k (n + length h) more
calls_append k n [] more = ap (λ m. calls_behind k m more) (omega arith)
calls_append k n (x ∷ h) more =
    let shift : n + 1 + length h ≡ n + length (x ∷ h) = omega arith in
    if_cons (x.seat == k) (made_by n x) (calls_behind k (n + 1) (h ++ more)) (calls_behind k (n + 1) h) (calls_behind k (n + length (x ∷ h)) more)
    (calls_append k (n + 1) h more ∙ ap (λ m. calls_behind k (n + 1) h ++ calls_behind k m more) shift)

-- a longer history begins with the calls that a shorter one has
pub calls_longer : (k : ℕ) (h longer : List Entry) → IsPrefix h longer → IsPrefix (calls_of h k) (calls_of longer k)
calls_longer k h longer p = (calls_behind k (0 + length h) p.0, sym (calls_append k 0 h p.0) ∙ ap (λ w. calls_of w k) p.1)

-- one entry more of the seat is one call more
pub calls_next : (k : ℕ) (h : List Entry) (e : Entry) → (e.seat == k) ≡ true → calls_of (h ++ e ∷ []) k ≡ calls_of h k ++ made_by (length h) e ∷ []
calls_next k h e its =
    calls_append k 0 h (e ∷ [])
    ∙ (ap (λ (n : ℕ). calls_of h k ++ calls_behind k n (e ∷ [])) (omega arith)
    ∙ ap (λ (b : Bool). calls_of h k ++ (if b then made_by (length h) e ∷ [] else [])) its)

-- where a call stands: the entry that made it, and those before and behind it
record Stands (k n : ℕ) (h : List Entry) (list : List Made) (m : Made) : Type 0 where
  front : List Entry
  entry : Entry
  back : List Entry
  whole : h ≡ front ++ entry ∷ back
  at : m ≡ made_by (n + length front) entry
  its : (entry.seat == k) ≡ true
  before : calls_behind k n front ≡ list

no_more : {A : Type 0} (list rest : List A) (m : A) → (list ++ m ∷ []) ++ rest ≡ [] → ⊥
no_more [] rest m p = cc p
no_more (x ∷ list) rest m p = cc p

-- an entry before those among which it stands
stands_behind : (k n : ℕ) (x : Entry) (h : List Entry) (list : List Made) (m : Made)
    → ((own : List Made) → IsPrefix (own ++ m ∷ []) (calls_behind k (n + 1) h) → Stands k (n + 1) h own m)
    → (b : Bool) → (x.seat == k) ≡ b → IsPrefix (list ++ m ∷ []) (if b then made_by n x ∷ calls_behind k (n + 1) h else calls_behind k (n + 1) h) → Stands k n (x ∷ h) list m
stands_behind k n x h [] m rest true is q =
    let first : m ≡ made_by n x = cc (q.1) in
    let here : n ≡ n + 0 = omega arith in
    record { front = []; entry = x; back = h; whole = refl; at = first ∙ ap (λ (i : ℕ). made_by i x) here; its = is; before = refl }
stands_behind k n x h (y ∷ own) m rest true is q =
    let s = rest own (q.0, cc (q.1)) in
    let shift : n + 1 + length s.front ≡ n + length (x ∷ s.front) = omega arith in
    let first : y ≡ made_by n x = cc (q.1) in
    record {
      front = x ∷ s.front;
      entry = s.entry;
      back = s.back;
      whole = ap (λ w. x ∷ w) s.whole;
      at = s.at ∙ ap (λ (i : ℕ). made_by i s.entry) shift;
      its = s.its;
      before = ap (λ (b : Bool). if b then made_by n x ∷ calls_behind k (n + 1) s.front else calls_behind k (n + 1) s.front) is ∙ (ap (λ w. made_by n x ∷ w) s.before ∙ ap (λ (z : Made). z ∷ own) (sym first));
    }
stands_behind k n x h list m rest false is q =
    let s = rest list q in
    let shift : n + 1 + length s.front ≡ n + length (x ∷ s.front) = omega arith in
    record {
      front = x ∷ s.front;
      entry = s.entry;
      back = s.back;
      whole = ap (λ w. x ∷ w) s.whole;
      at = s.at ∙ ap (λ (i : ℕ). made_by i s.entry) shift;
      its = s.its;
      before = ap (λ (b : Bool). if b then made_by n x ∷ calls_behind k (n + 1) s.front else calls_behind k (n + 1) s.front) is ∙ s.before;
    }

stands : (k n : ℕ) (h : List Entry) (list : List Made) (m : Made) → IsPrefix (list ++ m ∷ []) (calls_behind k n h) → Stands k n h list m
stands k n [] list m p = absurd (no_more list p.0 m p.1)
stands k n (x ∷ h) list m p = stands_behind k n x h list m (λ own q. stands k (n + 1) h own m q) (x.seat == k) refl p

-- the history up to a call has the calls up to it
pub calls_up_to : (k : ℕ) (h : List Entry) (list : List Made) (m : Made) → IsPrefix (list ++ m ∷ []) (calls_of h k) → calls_of (take m.position h) k ≡ list ++ m ∷ []
calls_up_to k h list m p =
    let s = stands k 0 h list m p in
    let first : List Entry = s.front ++ s.entry ∷ [] in
    let place : m.position ≡ length first = ap (λ (x : Made). x.position) s.at ∙ omega (arith, length-append s.front (s.entry ∷ [])) in
    let whole : first ++ s.back ≡ h = append_assoc s.front (s.entry ∷ []) s.back ∙ sym s.whole in
    let last : made_by (length s.front) s.entry ≡ m = ap (λ i. made_by i s.entry) (omega arith) ∙ sym s.at in
    ap (λ w. calls_of w k) (take_begin first h m.position (s.back, whole) place) ∙ (calls_next k s.front s.entry s.its
    ∙ (ap (λ w. w ++ made_by (length s.front) s.entry ∷ []) s.before ∙ ap (λ x. list ++ x ∷ []) last))
