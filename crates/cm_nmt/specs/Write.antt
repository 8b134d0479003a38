-- A write of 1, 2 or 4 bytes.
use Rattle.std.specs.Prelude.{ℕ, Bool, List, ◌==◌, ◌*◌, ◌^◌, nat_lt, if◌then◌else◌, refl}
use Rattle.std.specs.List.{list_all}
use Rattle.cm_nmt.specs.declared.write.Write.{Write}

-- the value fits into the write's bytes
abbrev pub fits : Write → Bool
fits w = nat_lt w.value (2 ^ (8 * w.size))

-- every value fits
abbrev pub all_fit : List Write → Bool
all_fit ws = list_all fits ws

-- the write with these four numbers; the size is 1, 2 or 4 in a table of no fault (own)
abbrev pub write_with : ℕ → ℕ → ℕ → ℕ → Write
write_with index sub size value =
    if size == 1 then record { index = index; sub = sub; size = 1; value = value; sized = refl }
    else if size == 2 then record { index = index; sub = sub; size = 2; value = value; sized = refl }
    else record { index = index; sub = sub; size = 4; value = value; sized = refl }
