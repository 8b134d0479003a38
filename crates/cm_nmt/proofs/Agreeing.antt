-- Where all values agree, and each was read just where it is expected, none is wrong.
use Rattle.std.proofs.Common.{◌≡◌, Bool, true, false, ◌&&◌, ◌||◌, not, arith}
use Rattle.std.specs.Prelude.{◌==◌}
use Rattle.cm_nmt.specs.Bits.{has_bit}
use Rattle.cm_nmt.specs.declared.terms.Terms.{Terms}
use Rattle.cm_nmt.specs.Answers.{id_of}
use Rattle.cm_nmt.specs.Conditions.{asks_identity, condition, device_agrees, identity_agrees, is_used, matches, product_agrees, revision_agrees, vendor_agrees}
use Rattle.cm_nmt.specs.Fields.{fields}
use Rattle.cm_nmt.specs.Got.{has_value, is_answered, is_value}
use Rattle.cm_nmt.specs.Judging.{are_settled, IsIdentified, is_settled}
use Rattle.cm_nmt.specs.declared.answers.Answers.{Answers}
use Rattle.cm_nmt.specs.declared.field.Field.{Field}
use Rattle.cm_nmt.specs.declared.field.Field.TheVariants.{Vendor, Product, Revision, Serial}
use Rattle.cm_nmt.proofs.Both.{all_at, and_left, and_right}

-- an identity that agrees and isn't read where none is expected
right : (before zero is answered complete : Bool) → (zero || is) ≡ true → ((not answered || (before && not zero)) && complete) ≡ true → (answered && not is) ≡ false
right before zero is answered complete agrees settled = grind arith

-- a device type that was read and agrees
read_type : (boots read zero is : Bool) → (boots && (read && (zero || is))) ≡ true → ((boots && not read) ≡ false) × ((read && not zero && not is) ≡ false)
read_type boots read zero is agrees = (grind arith, grind arith)

pub agreeing_is_identified : (t : Terms) (a : Answers) → identity_agrees t a ≡ true → are_settled t a fields ≡ true → IsIdentified t a
unfolding identity_agrees revision_agrees product_agrees vendor_agrees asks_identity device_agrees matches condition is_used
agreeing_is_identified t a agrees settled =
    let at : (f : Field) → is_settled t a f ≡ true = all_at (λ f. is_settled t a f) settled in
    let revision : revision_agrees t a ≡ true = and_left _ _ agrees in
    let product : product_agrees t a ≡ true = and_left _ _ revision in
    let vendor : vendor_agrees t a ≡ true = and_left _ _ product in
    let device = read_type (has_bit t.assignment.0 2) (has_value a.device) (t.device_type == 0) (is_value a.device t.device_type) (and_left _ _ vendor) in
    record {
      read = device.0;
      typed = device.1;
      vendor = right (asks_identity t a) (t.vendor == 0) (is_value (id_of a 0) t.vendor) (is_answered (id_of a 0)) _ (and_right _ _ vendor) (at Vendor);
      product = right (vendor_agrees t a) (t.product == 0) (is_value (id_of a 1) t.product) (is_answered (id_of a 1)) _ (and_right _ _ product) (at Product);
      revision = right (product_agrees t a) (t.revision == 0) (is_value (id_of a 2) t.revision) (is_answered (id_of a 2)) _ (and_right _ _ revision) (at Revision);
      serial = right (revision_agrees t a) (t.serial == 0) (is_value (id_of a 3) t.serial) (is_answered (id_of a 3)) _ (and_right _ _ agrees) (at Serial);
    }
