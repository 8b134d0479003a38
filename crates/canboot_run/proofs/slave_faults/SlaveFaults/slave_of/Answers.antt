use Rattle.std.proofs.Common.{◌≡◌, List, None, ap, sym, ◌∙◌}
use Rattle.cm_nmt.specs.declared.write.Write.{Write}
use Rattle.canboot_run.specs.SlaveFaults.{aborting, slave_given, wrong_with}
use Rattle.canboot_run.specs.declared.slave_faults.AbortedObject.{AbortedObject}
use Rattle.canboot_run.specs.declared.slave_faults.WrongValue.{WrongValue}
use Rattle.canboot_run.proofs.SlavesGiven.{listed_given, silent_given, unlisted_given}
use Rattle.canboot_run.proofs.slave_faults.SlaveFaults.slave_of.Goals as goal

pub returns-then-contains : goal.returns-then-contains
returns-then-contains c = silent_given c.args.network.now c.args.self.now c.args.id (sym c.contains.ensures ∙ c.if-contains.true)

pub returns-in_err-entry : goal.returns-in_err-entry
returns-in_err-entry c =
    let none : None ≡ slave_given c.args.network.now c.args.self.now c.args.id =
    unlisted_given c.args.network.now c.args.self.now c.args.id (sym c.contains.ensures ∙ c.if-contains.false) c.in_err-entry.ensures.value in
    cc

pub returns : goal.returns
returns c =
    let faults = c.args.self.now in
    let id = c.args.id in
    let slave = c.wrong_with-slave.result in
    listed_given c.args.network.now faults id c.in_ok-entry.entry.now c.in_ok-agreeing.agreeing slave c.aborting.result (sym c.contains.ensures ∙ c.if-contains.false)
    c.in_ok-entry.ensures.value c.in_ok-agreeing.ensures
    (c.wrong_with-slave.ensures ∙ ap (λ (ws : List WrongValue). wrong_with ws id c.in_ok-agreeing.agreeing) c.as_slice.ensures.value)
    (c.aborting.ensures
    ∙ (ap (λ (xs : List AbortedObject). aborting xs id c.as_slice-3.result.now slave) c.as_slice-2.ensures.value
    ∙ ap (λ (ws : List Write). aborting faults.aborted.items id ws slave) c.as_slice-3.ensures.value))
