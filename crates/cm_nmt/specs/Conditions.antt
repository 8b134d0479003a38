-- Which answers are those of a boot (CiA 302-2, boot slave). The order of the questions and the
-- condition of each are own, among them the place of the state check of a slave that is kept alive.
-- This is a table over the finished record: it says which answers go together, not how they came.
use Rattle.std.specs.Prelude.{ℕ, Bool, true, ◌==◌, ◌&&◌, ◌||◌, not, nat_lt, nat_le, Option, Some, None}
use Rattle.std.specs.List.{list_all}
use Rattle.cm_nmt.specs.Bits.{has_bit}
use Rattle.cm_nmt.specs.declared.terms.Terms.{Terms}
use Rattle.cm_nmt.specs.Got.{is_answered, has_value, is_value, is_refusal}
use Rattle.cm_nmt.specs.Heard.{is_heard, is_operational, is_other_state}
use Rattle.cm_nmt.specs.Answers.{id_of}
use Rattle.cm_nmt.specs.Fields.{fields}
use Rattle.cm_nmt.specs.declared.answers.Answers.{Answers}
use Rattle.cm_nmt.specs.declared.field.Field.{Field}
use Rattle.cm_nmt.specs.declared.field.Field.TheVariants.{Device, Vendor, Product, Revision, Serial, State, Date, Time, Writes, Beat}

-- the identity at this place agrees: 0 is expected, which is not compared, or the expected value
-- was read (CiA 302-2, 1F85h to 1F88h)
unfoldable pub matches : ℕ → ℕ → Answers → Bool
matches expected k a = expected == 0 || is_value (id_of a k) expected

-- the device type agrees: it was read, and 0 is expected, which is not compared, or that value
-- (CiA 302-2, 1F84h)
unfoldable pub device_agrees : Terms → Answers → Bool
device_agrees t a = has_value a.device && (t.device_type == 0 || is_value a.device t.device_type)

-- the identity is asked for: the slave is to be booted, 1F81h bit 2, and the device type agrees
-- (CiA 302-2, boot slave)
unfoldable pub asks_identity : Terms → Answers → Bool
asks_identity t a = has_bit t.assignment.0 2 && device_agrees t a

-- so far and the vendor-ID agree, expected in 1F85h (CiA 302-2, boot slave)
unfoldable pub vendor_agrees : Terms → Answers → Bool
vendor_agrees t a = asks_identity t a && matches t.vendor 0 a

-- so far and the product code agree, expected in 1F86h (CiA 302-2, boot slave)
unfoldable pub product_agrees : Terms → Answers → Bool
product_agrees t a = vendor_agrees t a && matches t.product 1 a

-- so far and the revision number agree, expected in 1F87h (CiA 302-2, boot slave)
unfoldable pub revision_agrees : Terms → Answers → Bool
revision_agrees t a = product_agrees t a && matches t.revision 2 a

-- the whole identity agrees, with the serial number expected in 1F88h (CiA 302-2, boot slave)
unfoldable pub identity_agrees : Terms → Answers → Bool
identity_agrees t a = revision_agrees t a && matches t.serial 3 a

-- the slave may be configured: its identity agrees, no software is to be verified, 1F81h bit 5,
-- and it isn't kept alive, bit 4, or was heard in a state other than operational (own)
unfoldable pub may_configure : Terms → Answers → Bool
may_configure t a = identity_agrees t a && not (has_bit t.assignment.0 5) && (not (has_bit t.assignment.0 4) || is_other_state a.heard)

-- a configuration date and a time are expected: neither is 0 (CiA 302-2, 1F26h and 1F27h)
unfoldable pub is_dated : Terms → Bool
is_dated t = not (t.date == 0) && not (t.time == 0)

-- no configuration is needed: date and time are expected, and both were read as expected
-- (CiA 302-2, 1F26h and 1F27h)
unfoldable pub date_agrees : Terms → Answers → Bool
date_agrees t a = is_dated t && is_value a.date t.date && is_value a.time t.time

-- a configuration is needed: date or time isn't expected, or what was read isn't as expected
-- (CiA 302-2, 1F26h and 1F27h)
unfoldable pub date_differs : Terms → Answers → Bool
date_differs t a =
    not (is_dated t)
    || (is_answered a.date && not (is_value a.date t.date))
    || (is_answered a.time && not (is_value a.time t.time))

-- the slave is configured: it may be, and needs to be (CiA 302-2, boot slave)
unfoldable pub must_write : Terms → Answers → Bool
must_write t a = may_configure t a && date_differs t a

-- nothing but the start of error control is left: the slave isn't to be booted, or was found
-- operational, or needs no configuration, or has acknowledged every write (own)
unfoldable pub comes_to_beat : Terms → Answers → Bool
comes_to_beat t a =
    not (has_bit t.assignment.0 2)
    || (identity_agrees t a && is_operational a.heard)
    || (may_configure t a && date_agrees t a)
    || (must_write t a && a.acked == t.writes && not (is_answered a.refused))

-- where the field's question is asked (CiA 302-2, boot slave; the order and the conditions are own):
--   Device            the slave is to be booted, 1F81h bit 2, also where no device type is expected
--   Vendor to Serial  all before it agrees, and its expected value isn't 0: what isn't compared
--                     isn't read
--   State             the identity agrees, and the slave is kept alive, 1F81h bit 4
--   Date              the slave may be configured, and a date and a time are expected
--   Time              the same, and the expected date was read
--   Writes            the slave may be configured, and needs to be
--   Beat              a heartbeat time is listed, and nothing else is left
unfoldable pub condition : Terms → Answers → Field → Bool
condition t a Device = has_bit t.assignment.0 2
condition t a Vendor = asks_identity t a && not (t.vendor == 0)
condition t a Product = vendor_agrees t a && not (t.product == 0)
condition t a Revision = product_agrees t a && not (t.revision == 0)
condition t a Serial = revision_agrees t a && not (t.serial == 0)
condition t a State = identity_agrees t a && has_bit t.assignment.0 4
condition t a Date = may_configure t a && is_dated t
condition t a Time = may_configure t a && is_dated t && is_value a.date t.date
condition t a Writes = must_write t a
condition t a Beat = not (t.heartbeat_ms == 0) && comes_to_beat t a

-- the field has an answer; for the writes, one was acknowledged or failed
unfoldable pub is_used : Answers → Field → Bool
is_used a Device = is_answered a.device
is_used a Vendor = is_answered (id_of a 0)
is_used a Product = is_answered (id_of a 1)
is_used a Revision = is_answered (id_of a 2)
is_used a Serial = is_answered (id_of a 3)
is_used a State = is_heard a.heard
is_used a Date = is_answered a.date
is_used a Time = is_answered a.time
is_used a Writes = not (a.acked == 0) || is_answered a.refused
is_used a Beat = is_heard a.beat

-- the field has all its answers; for the writes, each was acknowledged or one failed
unfoldable pub is_complete : Terms → Answers → Field → Bool
is_complete t a Writes = a.acked == t.writes || is_answered a.refused
is_complete t a f = is_used a f

-- no more writes were acknowledged than are listed, and a failed write is one of them and was
-- aborted or unanswered (own)
unfoldable pub writes_are_counted : Terms → Answers → Bool
writes_are_counted t a = nat_le a.acked t.writes && (not (is_answered a.refused) || (nat_lt a.acked t.writes && is_refusal a.refused))

-- no field has an answer
abbrev pub has_no_answer : Answers → Bool
has_no_answer a = list_all (λ f. not (is_used a f)) fields

-- each field that has an answer has its condition
abbrev pub answers_are_due : Terms → Answers → Bool
answers_are_due t a = list_all (λ f. not (is_used a f) || condition t a f) fields

-- each field whose condition holds has all its answers
abbrev pub has_all_answers : Terms → Answers → Bool
has_all_answers t a = list_all (λ f. not (condition t a f) || is_complete t a f) fields

-- a boot can come to these answers, at its end or on the way: nothing was asked that isn't to be
-- asked, and of a slave that isn't listed nothing is asked (own)
abbrev pub is_proper : Option Terms → Answers → Bool
is_proper None a = has_no_answer a
is_proper (Some t) a = writes_are_counted t a && answers_are_due t a

-- no question is left
abbrev pub is_finished : Option Terms → Answers → Bool
is_finished None a = true
is_finished (Some t) a = has_all_answers t a

-- a boot can end with these answers
abbrev pub is_lawful : Option Terms → Answers → Bool
is_lawful t a = is_proper t a && is_finished t a
