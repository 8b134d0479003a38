-- How long an answer is waited for where the process may be stopped meanwhile (own).
use Rattle.std.specs.Prelude.{◌==◌, ◌+◌, ◌-◌, ◌&&◌, nat_lt, ℕ, Bool, Option, Some, None, if◌then◌else◌, min}
use Rattle.cm_bus.specs.declared.patience.Patience.{Patience}

-- a wait of so many ms, of which 50 parts may end late without being counted
abbrev pub patience_of : ℕ → Patience
patience_of wait_ms = record { left_ms = wait_ms; pardons = 50 }

-- how long its next part is, in ms: 10 at most; none once it is over
abbrev pub next_part : Patience → Option ℕ
next_part p = if p.left_ms == 0 then None else Some (min p.left_ms 10)

-- something was heard behind so many ms of a part: they were waited
abbrev pub waited : Patience → ℕ → Patience
waited p took = record p { left_ms = p.left_ms - min took 10 }

-- a part of so many ms ended late: the process didn't run for more than 20 ms
abbrev pub is_late : ℕ → ℕ → Bool
is_late part took = nat_lt (part + 20) took

-- nothing was heard in a part, which took so many ms: it was waited, or it ended late and isn't counted
abbrev pub waited_in_vain : Patience → ℕ → ℕ → Patience
waited_in_vain p part took =
    if is_late part took && nat_lt 0 p.pardons then record p { pardons = p.pardons - 1 }
    else record p { left_ms = p.left_ms - part }
