-- The fields of the answers.
use Rattle.std.specs.Prelude.{List, [], ◌∷◌}
use Rattle.cm_nmt.specs.declared.field.Field.{Field}
use Rattle.cm_nmt.specs.declared.field.Field.TheVariants.{Device, Vendor, Product, Revision, Serial, State, Date, Time, Writes, Beat}

-- every field, in the order of the questions (CiA 302-2, boot slave; the place of State is own)
unfoldable pub fields : List Field
fields = Device ∷ Vendor ∷ Product ∷ Revision ∷ Serial ∷ State ∷ Date ∷ Time ∷ Writes ∷ Beat ∷ []
