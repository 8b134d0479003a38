-- A boot that is judged Ok or L showed each expected value.
use Rattle.std.proofs.Common.{◌≡◌, ℕ, refl, ap, arith, cond, ◌∙◌, Bool, true, false, not, ◌&&◌, ◌||◌, inl, inr, Some}
use Rattle.std.specs.Prelude.{◌==◌}
use Rattle.std.proofs.lemmas.Bool.{eqb-true, and_from, or_cases}
use Rattle.cm_nmt.specs.Bits.{has_bit}
use Rattle.cm_nmt.specs.declared.terms.Terms.{Terms}
use Rattle.cm_nmt.specs.Got.{has_value, is_answered, is_value}
use Rattle.cm_nmt.specs.Answers.{id_of}
use Rattle.cm_nmt.specs.Conditions.{asks_identity, condition, device_agrees, has_all_answers, is_complete, is_proper, is_used, matches, product_agrees, revision_agrees, vendor_agrees}
use Rattle.cm_nmt.specs.Verdict.{is_wrong, judged, verdict}
use Rattle.cm_nmt.specs.declared.answers.Answers.{Answers}
use Rattle.cm_nmt.specs.declared.field.Field.{Field}
use Rattle.cm_nmt.specs.declared.field.Field.TheVariants.{Vendor, Product, Revision, Serial}
use Rattle.cm_nmt.specs.declared.got.Got.{Got}
use Rattle.cm_nmt.specs.declared.got.Got.TheVariants as got
use Rattle.cm_nmt.specs.declared.status.Status.{Status}
use Rattle.cm_nmt.specs.declared.status.Status.TheVariants as status
use Rattle.cm_nmt.proofs.Both.{and_right, judged_is, all_at}
use Rattle.cm_nmt.specs.Status.{is_good}
use Rattle.cm_history.specs.Laws.{HasIdentity, IsAsExpected}

value_is : (g : Got) (x : ℕ) → is_value g x ≡ true → g ≡ got.Value x
value_is (got.Value v) x e = ap got.Value (eqb-true v x e)
value_is _ x e = cc

as_expected : (x : ℕ) (g : Got) → (x == 0 || is_value g x) ≡ true → IsAsExpected x g
as_expected x g e = λ set. elim (or_cases (x == 0) (is_value g x) e) [
  | inl zero ↦ absurd (set (eqb-true x 0 zero))
  | inr is ↦ value_is g x is
]

matched : (x k : ℕ) (a : Answers) → matches x k a ≡ true → IsAsExpected x (id_of a k)
unfolding matches
matched x k a e = as_expected x (id_of a k) e

-- an identity that was asked for where it is to be, and isn't wrong, agrees
agrees : (before zero is answered : Bool) → before ≡ true → (not (before && not zero) || answered) ≡ true → (answered && not is) ≡ false → (zero || is) ≡ true
agrees before zero is answered e asked right = grind arith

-- a device type that was read where it is to be, and isn't wrong, agrees
device_right : (t : Terms) (a : Answers) → has_bit t.assignment.0 2 ≡ true → (has_bit t.assignment.0 2 && not (has_value a.device)) ≡ false
    → (has_value a.device && not (t.device_type == 0) && not (is_value a.device t.device_type)) ≡ false → device_agrees t a ≡ true
unfolding device_agrees
device_right t a booted read right = grind arith

device_expected : (t : Terms) (a : Answers) → device_agrees t a ≡ true → IsAsExpected t.device_type a.device
unfolding device_agrees
device_expected t a e = as_expected t.device_type a.device (and_right _ _ e)

-- the first six tests of a good verdict fail
good_parts : (b c d m n o : Bool) (l : Status)
    → is_good (cond b status.B (cond c status.C (cond d status.D (cond m status.M (cond n status.N (cond o status.O l)))))) ≡ true
    → (b ≡ false) × (c ≡ false) × (d ≡ false) × (m ≡ false) × (n ≡ false) × (o ≡ false)
good_parts false false false false false false l e = (refl, refl, refl, refl, refl, refl)
good_parts b c d m n o l e = cc

-- the four identities agree, each as those before it do
ids_agree : (t : Terms) (a : Answers) → asks_identity t a ≡ true → ((f : Field) → (not (condition t a f) || is_complete t a f) ≡ true)
    → is_wrong a 0 t.vendor ≡ false → is_wrong a 1 t.product ≡ false → is_wrong a 2 t.revision ≡ false → is_wrong a 3 t.serial ≡ false
    → (matches t.vendor 0 a ≡ true) × (matches t.product 1 a ≡ true) × (matches t.revision 2 a ≡ true) × (matches t.serial 3 a ≡ true)
unfolding matches condition is_complete is_used vendor_agrees product_agrees revision_agrees
ids_agree t a asks asked d m n o =
    let vendor : matches t.vendor 0 a ≡ true = agrees (asks_identity t a) (t.vendor == 0) (is_value (id_of a 0) t.vendor) (is_answered (id_of a 0)) asks (asked Vendor) d in
    let vendors : vendor_agrees t a ≡ true = and_from _ _ asks vendor in
    let product : matches t.product 1 a ≡ true = agrees (vendor_agrees t a) (t.product == 0) (is_value (id_of a 1) t.product) (is_answered (id_of a 1)) vendors (asked Product) m in
    let products : product_agrees t a ≡ true = and_from _ _ vendors product in
    let revision : matches t.revision 2 a ≡ true = agrees (product_agrees t a) (t.revision == 0) (is_value (id_of a 2) t.revision) (is_answered (id_of a 2)) products (asked Revision) n in
    let revisions : revision_agrees t a ≡ true = and_from _ _ products revision in
    (vendor, product, revision, agrees (revision_agrees t a) (t.serial == 0) (is_value (id_of a 3) t.serial) (is_answered (id_of a 3)) revisions (asked Serial) o)

asks : (t : Terms) (a : Answers) → has_bit t.assignment.0 2 ≡ true → device_agrees t a ≡ true → asks_identity t a ≡ true
unfolding asks_identity
asks t a booted device = and_from _ _ booted device

-- complete answers with a good verdict show the identity
good_identity : (t : Terms) (a : Answers) → has_bit t.assignment.0 2 ≡ true → has_all_answers t a ≡ true → is_good (verdict (Some t) a) ≡ true → HasIdentity t a
unfolding verdict
good_identity t a booted all good =
    let v = good_parts _ _ _ _ _ _ _ good in
    let device = device_right t a booted v.0 v.1 in
    let ids = ids_agree t a (asks t a booted device) (all_at (λ f. not (condition t a f) || is_complete t a f) all) v.2 v.3 v.4 v.5 in
    record {
      device_type = device_expected t a device;
      vendor = matched t.vendor 0 a ids.0;
      product = matched t.product 1 a ids.1;
      revision = matched t.revision 2 a ids.2;
      serial = matched t.serial 3 a ids.3;
    }

-- answers that are judged good show the identity
pub judged_identity : (t : Terms) (a : Answers) (s : Status) → has_bit t.assignment.0 2 ≡ true → judged (Some t) a ≡ Some s → is_good s ≡ true → HasIdentity t a
judged_identity t a s booted e good =
    let j = judged_is (Some t) a s e in
    good_identity t a booted (and_right (is_proper (Some t) a) _ j.0) (ap is_good j.1 ∙ good)
