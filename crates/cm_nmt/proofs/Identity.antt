-- How the identity is compared, value by value.
use Rattle.std.proofs.Common.{◌≡◌, ◌&&◌, refl}
use Rattle.cm_nmt.specs.declared.terms.Terms.{Terms}
use Rattle.cm_nmt.specs.declared.answers.Answers.{Answers}
use Rattle.cm_nmt.specs.Conditions.{asks_identity, identity_agrees, matches, product_agrees, revision_agrees, vendor_agrees}

pub vendor_is : (t : Terms) (a : Answers) → vendor_agrees t a ≡ (asks_identity t a && matches t.vendor 0 a)
unfolding vendor_agrees
vendor_is t a = refl

pub product_is : (t : Terms) (a : Answers) → product_agrees t a ≡ (vendor_agrees t a && matches t.product 1 a)
unfolding product_agrees
product_is t a = refl

pub revision_is : (t : Terms) (a : Answers) → revision_agrees t a ≡ (product_agrees t a && matches t.revision 2 a)
unfolding revision_agrees
revision_is t a = refl

pub serial_is : (t : Terms) (a : Answers) → identity_agrees t a ≡ (revision_agrees t a && matches t.serial 3 a)
unfolding identity_agrees
serial_is t a = refl

pub ruleset identity_steps = (vendor_is, product_is, revision_is, serial_is)
