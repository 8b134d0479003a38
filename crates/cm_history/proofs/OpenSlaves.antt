-- The open slaves after a report.
use Rattle.std.proofs.Common.{◌≡◌, ℕ, List, [], ◌∷◌, refl, sym, cond, Bool, true, false, not, ◌&&◌, ◌||◌, inl, inr}
use Rattle.std.specs.Prelude.{filter, ◌==◌}
use Rattle.std.proofs.lemmas.Bool.{cases_Bool}
use Rattle.cm_nmt.specs.Listing.{Listing, is_mandatory, node_ids}
use Rattle.cm_nmt.specs.Status.{is_good}
use Rattle.cm_nmt.specs.declared.answers.Answers.{Answers}
use Rattle.cm_nmt.specs.declared.status.Status.{Status}
use Rattle.cm_history.specs.declared.call.Entry.{Entry}
use Rattle.cm_history.specs.declared.call.Call.TheVariants as call
use Rattle.cm_history.specs.declared.call.Reply.TheVariants as reply
use Rattle.cm_history.specs.declared.call.Orders.{Orders}
use Rattle.cm_history.specs.History.{is_booted, open_of}
use Rattle.cm_history.specs.Answering.{open_less}

-- a filter of a filter
pub filter_twice : (p q r : ℕ → Bool) → ((x : ℕ) → r x ≡ (p x && q x)) → (xs : List ℕ) → filter q (filter p xs) ≡ filter r xs
filter_twice p q r h [] = refl
filter_twice p q r h (x ∷ xs) =
    let again : filter q (filter p xs) ≡ filter r xs = filter_twice p q r h xs in
    elim (p x) as (λ b. (r x ≡ (b && q x)) → filter q (cond b (x ∷ filter p xs) (filter p xs)) ≡ cond (r x) (x ∷ filter r xs) (filter r xs)) [
      | true ↦ λ e. rw (e, again) refl
      | false ↦ λ e. rw (e, again) refl
    ] (h x)

good_first : (m g e b : Bool) → (m && not ((g && e) || b)) ≡ cond g ((m && not b) && not e) (m && not b)
good_first false true e b = refl
good_first false false e b = refl
good_first true false e b = refl
good_first true true true true = refl
good_first true true true false = refl
good_first true true false true = refl
good_first true true false false = refl

-- a report leaves the open slaves, but its own where that is booted
pub open_after_report : (net : Listing) (past : List Entry) (seat id number : ℕ) (a : Answers) (s : Status) (o : Orders)
    → open_of net (record { seat = seat; call = call.Report id number a; reply = reply.Reported s; orders = o } ∷ past) ≡ open_less (open_of net past) id s
open_after_report net past seat id number a s o =
    let now = λ (i : ℕ). is_mandatory net i && not ((is_good s && id == i) || is_booted past i) in
    let before = λ (i : ℕ). is_mandatory net i && not (is_booted past i) in
    elim (cases_Bool (is_good s)) [
      | inl good ↦ rw good (sym (filter_twice before (λ i. not (id == i)) (λ i. is_mandatory net i && not ((true && id == i) || is_booted past i))
          (λ i. good_first (is_mandatory net i) true (id == i) (is_booted past i)) node_ids))
      | inr bad ↦ rw bad refl
    ]
