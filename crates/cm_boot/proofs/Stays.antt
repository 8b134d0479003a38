-- What an answer to a field changes, and what it leaves.
use Rattle.std.proofs.Common.{◌≡◌, ◌+◌, true, false, ◌==◌, List, [], ◌∷◌, Option, Some, None, refl, subst, arith, nat_le, option_map, slice_set, length}
use Rattle.cm_nmt.specs.declared.terms.Terms.{Terms}
use Rattle.cm_nmt.specs.Got.{is_refusal}
use Rattle.cm_nmt.specs.Answers.{id_of}
use Rattle.cm_nmt.specs.Conditions.{asks_identity, comes_to_beat, condition, date_agrees, date_differs, device_agrees, identity_agrees, is_dated, is_used, matches, may_configure, must_write, product_agrees, revision_agrees, vendor_agrees}
use Rattle.cm_boot.specs.Progress.{got_of, heard_of, with_answer}
use Rattle.cm_nmt.specs.declared.answers.Answers.{Answers}
use Rattle.cm_nmt.specs.declared.got.Got.{Got}
use Rattle.cm_nmt.specs.declared.got.Got.TheVariants as got
use Rattle.cm_nmt.specs.declared.heard.Heard.{Heard}
use Rattle.cm_nmt.specs.declared.field.Field.{Field}
use Rattle.cm_nmt.specs.declared.field.Field.TheVariants.{Device, Vendor, Product, Revision, Serial, State, Date, Time, Writes, Beat}
use Rattle.cm_boot.specs.declared.question.Answer.{Answer}
use Rattle.cm_boot.specs.declared.question.Answer.TheVariants as answer
use Rattle.cm_boot.proofs.Order.{place}

-- P of the answers with any answer to the field
abbrev pub IsFieldKept : (Answers → Type 0) → Answers → Field → Type 0
IsFieldKept P a Device = (g : Got) → P (record a { device = g })
IsFieldKept P a Vendor = (g : Got) → P (record a { ids = slice_set a.ids 0 g })
IsFieldKept P a Product = (g : Got) → P (record a { ids = slice_set a.ids 1 g })
IsFieldKept P a Revision = (g : Got) → P (record a { ids = slice_set a.ids 2 g })
IsFieldKept P a Serial = (g : Got) → P (record a { ids = slice_set a.ids 3 g })
IsFieldKept P a State = (h : Heard) → P (record a { heard = h })
IsFieldKept P a Date = (g : Got) → P (record a { date = g })
IsFieldKept P a Time = (g : Got) → P (record a { time = g })
IsFieldKept P a Writes = P (record a { acked = a.acked + 1 }) × ((g : Got) → is_refusal g ≡ true → P (record a { refused = g }))
IsFieldKept P a Beat = (h : Heard) → P (record a { beat = h })

mapped : {X : Type 0} (P : Answers → Type 0) (f : X → Answers) (o : Option X) (b : Answers) → ((x : X) → P (f x)) → option_map f o ≡ Some b → P b
mapped P f None b h e = cc
mapped P f (Some x) b h e = let same : f x ≡ b = cc in subst P same (h x)

pub by_field : (P : Answers → Type 0) (a b : Answers) (f : Field) (x : Answer) → IsFieldKept P a f → with_answer a f x ≡ Some b → P b
unfolding with_answer
by_field P a b Device x h e = mapped P (λ g. record a { device = g }) (got_of x) b h e
by_field P a b Vendor x h e = mapped P (λ g. record a { ids = slice_set a.ids 0 g }) (got_of x) b h e
by_field P a b Product x h e = mapped P (λ g. record a { ids = slice_set a.ids 1 g }) (got_of x) b h e
by_field P a b Revision x h e = mapped P (λ g. record a { ids = slice_set a.ids 2 g }) (got_of x) b h e
by_field P a b Serial x h e = mapped P (λ g. record a { ids = slice_set a.ids 3 g }) (got_of x) b h e
by_field P a b State x h e = mapped P (λ g. record a { heard = g }) (heard_of x) b h e
by_field P a b Date x h e = mapped P (λ g. record a { date = g }) (got_of x) b h e
by_field P a b Time x h e = mapped P (λ g. record a { time = g }) (got_of x) b h e
by_field P a b Writes answer.Acked h e = let same : record a { acked = a.acked + 1 } ≡ b = cc in subst P same h.0
by_field P a b Writes (answer.Abort c) h e = let same : record a { refused = got.Abort c } ≡ b = cc in subst P same (h.1 (got.Abort c) refl)
by_field P a b Writes answer.Silent h e = let same : record a { refused = got.Silent } ≡ b = cc in subst P same (h.1 got.Silent refl)
by_field P a b Writes (answer.Value v) h e = cc
by_field P a b Writes (answer.State s) h e = cc
by_field P a b Beat x h e = mapped P (λ g. record a { beat = g }) (heard_of x) b h e

-- what is shown of a record with four identities written out holds of each with four
pub of_four : (P : Answers → Type 0) → ((a : Answers) (v p r s : Got) → P (record a { ids = v ∷ p ∷ r ∷ s ∷ [] })) → (a : Answers) → length a.ids ≡ 4 → P a
of_four P h a four = go a.ids four
  where
    go : (xs : List Got) → length xs ≡ 4 → P (record a { ids = xs })
    go (v ∷ p ∷ r ∷ s ∷ []) e = h a v p r s
    go _ e = absurd (omega arith)

-- an answer to a field leaves the conditions of the earlier fields, and its own
conditions : (t : Terms) (a : Answers) (v p r s : Got) (f g : Field) → nat_le (place g) (place f) ≡ true → IsFieldKept (λ b. condition t b g ≡ condition t (record a { ids = v ∷ p ∷ r ∷ s ∷ [] }) g) (record a { ids = v ∷ p ∷ r ∷ s ∷ [] }) f
unfolding condition id_of matches device_agrees asks_identity vendor_agrees product_agrees revision_agrees identity_agrees may_configure must_write comes_to_beat is_dated date_agrees date_differs
conditions t a v p r s Device Device le = λ x. cc
conditions t a v p r s Vendor Device le = λ x. cc
conditions t a v p r s Product Device le = λ x. cc
conditions t a v p r s Revision Device le = λ x. cc
conditions t a v p r s Serial Device le = λ x. cc
conditions t a v p r s State Device le = λ x. cc
conditions t a v p r s Date Device le = λ x. cc
conditions t a v p r s Time Device le = λ x. cc
conditions t a v p r s Writes Device le = (cc, λ x y. cc)
conditions t a v p r s Beat Device le = λ x. cc
conditions t a v p r s Writes _ le = (cc, λ x y. cc)
conditions t a v p r s _ _ le = λ x. cc

pub conditions_stay : (t : Terms) (a b : Answers) (f g : Field) (x : Answer) → length a.ids ≡ 4 → nat_le (place g) (place f) ≡ true → with_answer a f x ≡ Some b → condition t b g ≡ condition t a g
conditions_stay t a b f g x four le e = by_field (λ c. condition t c g ≡ condition t a g) a b f x (of_four (λ d. IsFieldKept (λ c. condition t c g ≡ condition t d g) d f) (λ d v p r s. conditions t d v p r s f g le) a four) e

uses : (a : Answers) (v p r s : Got) (f g : Field) → (place g == place f) ≡ false → IsFieldKept (λ b. is_used b g ≡ is_used (record a { ids = v ∷ p ∷ r ∷ s ∷ [] }) g) (record a { ids = v ∷ p ∷ r ∷ s ∷ [] }) f
unfolding is_used id_of
uses a v p r s Device Device ne = λ x. cc
uses a v p r s Vendor Device ne = λ x. cc
uses a v p r s Product Device ne = λ x. cc
uses a v p r s Revision Device ne = λ x. cc
uses a v p r s Serial Device ne = λ x. cc
uses a v p r s State Device ne = λ x. cc
uses a v p r s Date Device ne = λ x. cc
uses a v p r s Time Device ne = λ x. cc
uses a v p r s Writes Device ne = (cc, λ x y. cc)
uses a v p r s Beat Device ne = λ x. cc
uses a v p r s Writes _ ne = (cc, λ x y. cc)
uses a v p r s _ _ ne = λ x. cc

pub uses_stay : (a b : Answers) (f g : Field) (x : Answer) → length a.ids ≡ 4 → (place g == place f) ≡ false → with_answer a f x ≡ Some b → is_used b g ≡ is_used a g
uses_stay a b f g x four ne e = by_field (λ c. is_used c g ≡ is_used a g) a b f x (of_four (λ d. IsFieldKept (λ c. is_used c g ≡ is_used d g) d f) (λ d v p r s. uses d v p r s f g ne) a four) e

fours : (a : Answers) (v p r s : Got) (f : Field) → IsFieldKept (λ b. length b.ids ≡ 4) (record a { ids = v ∷ p ∷ r ∷ s ∷ [] }) f
fours a v p r s Device = λ x. refl
fours a v p r s Writes = (refl, λ x y. refl)
fours a v p r s _ = λ x. refl

pub four_stay : (a b : Answers) (f : Field) (x : Answer) → length a.ids ≡ 4 → with_answer a f x ≡ Some b → length b.ids ≡ 4
four_stay a b f x four e = by_field (λ c. length c.ids ≡ 4) a b f x (of_four (λ d. IsFieldKept (λ c. length c.ids ≡ 4) d f) (λ d v p r s. fours d v p r s f) a four) e

pub same_place : (f g : Field) → (place g == place f) ≡ true → g ≡ f
same_place Device Device e = cc
same_place Vendor Device e = cc
same_place Product Device e = cc
same_place Revision Device e = cc
same_place Serial Device e = cc
same_place State Device e = cc
same_place Date Device e = cc
same_place Time Device e = cc
same_place Writes Device e = cc
same_place Beat Device e = cc
same_place _ _ e = cc
