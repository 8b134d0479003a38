-- What a boot comes to (CiA 302-2, boot slave, error statuses; where each applies is own).
use Rattle.std.specs.Prelude.{ℕ, Bool, ◌==◌, ◌&&◌, not, if◌then◌else◌, Option, Some, None}
use Rattle.cm_nmt.specs.Bits.{has_bit}
use Rattle.cm_nmt.specs.declared.terms.Terms.{Terms}
use Rattle.cm_nmt.specs.Got.{is_answered, has_value, is_value}
use Rattle.cm_nmt.specs.Heard.{is_silent, is_operational}
use Rattle.cm_nmt.specs.Answers.{id_of}
use Rattle.cm_nmt.specs.Conditions.{is_lawful}
use Rattle.cm_nmt.specs.declared.answers.Answers.{Answers}
use Rattle.cm_nmt.specs.declared.status.Status.{Status}
use Rattle.cm_nmt.specs.declared.status.Status.TheVariants.{Ok, A, B, C, D, E, F, G, J, K, L, M, N, O}

-- this identity was asked for and isn't the expected one
abbrev pub is_wrong : Answers → ℕ → ℕ → Bool
is_wrong a k expected = is_answered (id_of a k) && not (is_value (id_of a k) expected)

-- the first status that applies, row by row:
--   A  the slave isn't listed in 1F81h
--   B  no value came from 1000h
--   C  the value of 1000h isn't the one in 1F84h
--   D  the value of 1018h sub 1 isn't the one in 1F85h
--   M  the value of 1018h sub 2 isn't the one in 1F86h
--   N  the value of 1018h sub 3 isn't the one in 1F87h
--   O  the value of 1018h sub 4 isn't the one in 1F88h
--   E  a slave that is kept alive and has a heartbeat time gave no heartbeat
--   F  a slave that is kept alive and has none gave no guard response
--   G  software is to be verified, but the objects for program download aren't configured
--   J  a write of the configuration was aborted or unanswered
--   K  no heartbeat came when error control started
--   L  the slave was operational before the boot
--   Ok no error
unfoldable pub verdict : Option Terms → Answers → Status
verdict None a = A
verdict (Some t) a =
    if has_bit t.assignment.0 2 && not (has_value a.device) then B
    else if has_value a.device && not (t.device_type == 0) && not (is_value a.device t.device_type) then C
    else if is_wrong a 0 t.vendor then D
    else if is_wrong a 1 t.product then M
    else if is_wrong a 2 t.revision then N
    else if is_wrong a 3 t.serial then O
    else if is_silent a.heard && not (t.heartbeat_ms == 0) then E
    else if is_silent a.heard then F
    else if has_bit t.assignment.0 2 && has_bit t.assignment.0 5 && not (is_operational a.heard) then G
    else if is_answered a.refused then J
    else if is_silent a.beat then K
    else if is_operational a.heard then L
    else Ok

-- the status of a boot that ended with these answers, and none where no boot ends with them
unfoldable pub judged : Option Terms → Answers → Option Status
judged t a = if is_lawful t a then Some (verdict t a) else None
