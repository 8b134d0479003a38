-- Working definitions: the two tests of a field, of the record's whole table, as one; the verdict's
-- first rows as one; and where a boot comes to a field.
use Rattle.std.specs.Prelude.{◌≡◌, Bool, true, false, ◌==◌, ◌&&◌, ◌||◌, not, List}
use Rattle.std.specs.List.{list_all}
use Rattle.cm_nmt.specs.Bits.{has_bit}
use Rattle.cm_nmt.specs.declared.terms.Terms.{Terms}
use Rattle.cm_nmt.specs.Conditions.{asks_identity, comes_to_beat, condition, identity_agrees, is_complete, is_used}
use Rattle.cm_nmt.specs.Conditions.{may_configure, must_write, product_agrees, revision_agrees, vendor_agrees}
use Rattle.cm_nmt.specs.Got.{has_value, is_value}
use Rattle.cm_nmt.specs.Verdict.{is_wrong}
use Rattle.cm_nmt.specs.declared.answers.Answers.{Answers}
use Rattle.cm_nmt.specs.declared.field.Field.{Field}
use Rattle.cm_nmt.specs.declared.field.Field.TheVariants.{Device, Vendor, Product, Revision, Serial, State, Date, Time, Writes, Beat}

-- an answered field has its condition, and a field whose condition holds has all its answers
abbrev pub is_settled : Terms → Answers → Field → Bool
is_settled t a f = (not (is_used a f) || condition t a f) && (not (condition t a f) || is_complete t a f)

-- each of these fields is so
abbrev pub are_settled : Terms → Answers → List Field → Bool
are_settled t a fs = list_all (λ f. is_settled t a f) fs

-- none of the verdict's rows B to O applies
pub record IsIdentified (t : Terms) (a : Answers) : Type 0 where
  pub read : (has_bit t.assignment.0 2 && not (has_value a.device)) ≡ false
  pub typed : (has_value a.device && not (t.device_type == 0) && not (is_value a.device t.device_type)) ≡ false
  pub vendor : is_wrong a 0 t.vendor ≡ false
  pub product : is_wrong a 1 t.product ≡ false
  pub revision : is_wrong a 2 t.revision ≡ false
  pub serial : is_wrong a 3 t.serial ≡ false

-- the boot comes to the field: all that its question comes after agrees
abbrev pub reaches : Terms → Answers → Field → Bool
reaches t a Device = true
reaches t a Vendor = asks_identity t a
reaches t a Product = vendor_agrees t a
reaches t a Revision = product_agrees t a
reaches t a Serial = revision_agrees t a
reaches t a State = identity_agrees t a
reaches t a Date = may_configure t a
reaches t a Time = may_configure t a
reaches t a Writes = must_write t a
reaches t a Beat = comes_to_beat t a
