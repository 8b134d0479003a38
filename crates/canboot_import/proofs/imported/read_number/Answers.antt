use Rattle.canboot_import.proofs.Given.{given, renamed, renamed_none, unread}
use Rattle.canboot_import.proofs.imported.read_number.Goals as goal

pub returns-in_default-clause-read : goal.returns-in_default-clause-read
returns-in_default-clause-read c = λ file items all.
    renamed_none file c.args.name.now c.as_bytes.result.now c.args.key.now c.as_bytes-2.result.now c.as_bytes.ensures.value c.as_bytes-2.ensures.value
    (c.in_default.ensures.none file all)

pub returns-in-Some-number-clause-read : goal.returns-in-Some-number-clause-read
returns-in-Some-number-clause-read c = λ file items all.
    let text = c.in-Some.item.now.value.now in
    given file c.args.node c.args.name.now c.args.key.now text c.in-Some-number.number
    (renamed file c.args.name.now c.as_bytes.result.now c.args.key.now c.as_bytes-2.result.now text c.as_bytes.ensures.value c.as_bytes-2.ensures.value
    (c.in-Some.ensures.given file items)) c.in-Some-number.ensures.number

pub returns-in-None-clause-unread : goal.returns-in-None-clause-unread
returns-in-None-clause-unread c = λ file items all.
    let text = c.in-Some.item.now.value.now in
    unread file c.args.node c.args.name.now c.args.key.now text
    (renamed file c.args.name.now c.as_bytes.result.now c.args.key.now c.as_bytes-2.result.now text c.as_bytes.ensures.value c.as_bytes-2.ensures.value
    (c.in-Some.ensures.given file items)) c.in-None.ensures.none
