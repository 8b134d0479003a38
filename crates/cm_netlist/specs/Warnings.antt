-- What a slave of a network list without a fault is warned of (own).
use Rattle.std.specs.Prelude.{ℕ, Bool, ◌==◌, ◌&&◌, ◌||◌, not, nat_lt, length}
use Rattle.std.specs.List.{list_any}
use Rattle.cm_nmt.specs.Bits.{has_bit}
use Rattle.cm_nmt.specs.Guarding.{guard_time, retry_factor}
use Rattle.cm_nmt.specs.declared.write.Write.{Write}
use Rattle.cm_netlist.specs.Network.{expected_of}
use Rattle.cm_netlist.specs.declared.entry.SlaveEntry.{SlaveEntry}
use Rattle.cm_netlist.specs.declared.warning.SlaveWarning.{SlaveWarning}
use Rattle.cm_netlist.specs.declared.warning.SlaveWarning.TheVariants as slave

-- a device type, an identity or a write is given (CiA 302-2, 1F84h to 1F88h; CiA 302-3, 1F22h)
abbrev pub is_described : SlaveEntry → Bool
is_described e = list_any (λ v. not (v == 0)) (expected_of e) || nat_lt 0 (length e.writes.items)

-- its boot message may come from any device: something is given, but 1F81h bit 2 is clear, so that a boot neither compares nor
-- writes (CiA 302-2, slave assignment)
abbrev pub is_unchecked : SlaveEntry → Bool
is_unchecked e = not (has_bit e.assignment.0 2) && is_described e

-- nobody notices that it is gone: it has no heartbeat time, and its guard time or its retry factor is 0 (CiA 301, error control)
abbrev pub is_unwatched : SlaveEntry → Bool
is_unwatched e = (e.heartbeat_ms == 0) && ((guard_time e.assignment.0 == 0) || (retry_factor e.assignment.0 == 0))

-- a write of the producer heartbeat time, which isn't 0 and shorter than the time in which a heartbeat has to come (CiA 301, 1017h)
abbrev pub has_beats : ℕ → Write → Bool
has_beats most w = (w.index == 0x1017) && ((w.sub == 0) && (nat_lt 0 w.value && nat_lt w.value most))

-- a heartbeat has to come, but no write makes the slave send one in time
abbrev pub is_silent : SlaveEntry → Bool
is_silent e = nat_lt 0 e.heartbeat_ms && not (list_any (has_beats e.heartbeat_ms) e.writes.items)

-- 1F81h has one of the bits 1, 6, 7, which mean nothing here
abbrev pub has_unused_bits : SlaveEntry → Bool
has_unused_bits e = has_bit e.assignment.0 1 || (has_bit e.assignment.0 6 || has_bit e.assignment.0 7)

-- a start of all nodes reaches it though its boot failed: 1F80h has bit 1, and neither bit 2 nor bit 3, so that the manager starts all at
-- once; a boot compares what it is (1F81h bit 2), but it isn't mandatory, so that this start doesn't wait for it (CiA 302-2, NMT startup)
abbrev pub is_started_anyway : ℕ → SlaveEntry → Bool
is_started_anyway startup e =
    (has_bit startup 1 && (not (has_bit startup 2) && not (has_bit startup 3)))
    && (has_bit e.assignment.0 2 && not (has_bit e.assignment.0 3))

-- the slave is warned of for this
abbrev pub is_warned : SlaveEntry → SlaveWarning → Bool
is_warned e slave.Unchecked = is_unchecked e
is_warned e slave.Unwatched = is_unwatched e
is_warned e slave.Silent = is_silent e
is_warned e slave.UnusedBits = has_unused_bits e
