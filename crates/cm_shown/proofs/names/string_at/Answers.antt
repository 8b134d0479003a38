use Rattle.std.proofs.Common.{◌∙◌}
use Rattle.toml.proofs.Views.{table_get}
use Rattle.cm_shown.proofs.names.string_at.Goals as goal

pub returns-in-Some : goal.returns-in-Some
returns-in-Some c =
    let found = table_get c.get.result c.args.key.now c.args.table.now.entries c.get.ensures.value in
    c.as_str.ensures ∙ rw (← rw c.in-Some.is at found)

pub returns-in-None : goal.returns-in-None
returns-in-None c =
    let found = table_get c.get.result c.args.key.now c.args.table.now.entries c.get.ensures.value in
    rw (← rw c.in-None.is at found)
