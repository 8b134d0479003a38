-- The error statuses of a boot: their letters, and what they mean for the slave (CiA 302-2, boot slave).
use Rattle.std.specs.Prelude.{ℕ, Bool, true, false, List, codes}
use Rattle.cm_nmt.specs.declared.status.Status.{Status}
use Rattle.cm_nmt.specs.declared.status.Status.TheVariants.{Ok, A, B, C, D, E, F, G, J, K, L, M, N, O}

-- a status as text: its letter, or Ok for no error
abbrev pub status_letter : Status → List ℕ
status_letter Ok = codes "Ok"
status_letter A = codes "A"
status_letter B = codes "B"
status_letter C = codes "C"
status_letter D = codes "D"
status_letter E = codes "E"
status_letter F = codes "F"
status_letter G = codes "G"
status_letter J = codes "J"
status_letter K = codes "K"
status_letter L = codes "L"
status_letter M = codes "M"
status_letter N = codes "N"
status_letter O = codes "O"

-- the slave is booted: Ok, or L, found operational and kept alive
abbrev pub is_good : Status → Bool
is_good Ok = true
is_good L = true
is_good _ = false

-- the boot may be tried again: B, no device type was read
abbrev pub is_retried : Status → Bool
is_retried B = true
is_retried _ = false

-- the slave wasn't there: B, E, F, K
abbrev pub is_missing : Status → Bool
is_missing B = true
is_missing E = true
is_missing F = true
is_missing K = true
is_missing _ = false

-- no error: the slave may be started (CiA 302-2, boot slave)
abbrev pub is_ok : Status → Bool
is_ok Ok = true
is_ok _ = false
