-- What a cursor has still to give.
use Rattle.std.specs.Prelude.{ℕ, List, [], Option, Some, None}
use Rattle.cm_text.specs.Words.{Words, split}
use Rattle.cm_text.specs.declared.fields.Fields.{Fields}
use denote.Ref.{Bor}

-- the parts of the bytes that are left, and none where nothing is left (own)
abbrev pub parts : ℕ → Option (Bor (List ℕ)) → Words
parts separator None = []
parts separator (Some bytes) = split separator bytes.now

-- the parts that the cursor has still to give, in their order (own)
abbrev pub left : Fields → Words
left f = parts f.separator f.rest
