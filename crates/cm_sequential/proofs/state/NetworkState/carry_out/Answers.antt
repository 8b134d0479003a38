use Rattle.std.proofs.Common.{◌≡◌, arith}
use Rattle.std.proofs.lemmas.Grind.{common_steps}
use Rattle.cm_history.specs.declared.call.Reply.TheVariants as reply
use Rattle.cm_history.specs.declared.call.Orders.TheVariants as orders
use Rattle.cm_history.specs.Answering.{shown_of}
use Rattle.cm_history.specs.Machine.{seen_in}
use Rattle.cm_sequential.specs.States.{kept_listing}
use Rattle.cm_sequential.specs.Changes.{machine}
use Rattle.cm_sequential.proofs.Granting.{goes_read, in_time_reply, late_orders}
use Rattle.cm_sequential.proofs.state.NetworkState.carry_out.Goals as goal

pub returns-in-Reported : goal.returns-in-Reported
returns-in-Reported c = rw (c.in-Report.is, c.in-Reported.is) (c.report.ensures c.in-Report._number)

pub returns-in-BootAgain : goal.returns-in-BootAgain
returns-in-BootAgain c =
    let none : c.args.orders.now ≡ orders.None = grind (arith, common_steps, c.requires.answered.answer, c.in-Signal.is) in
    rw (c.in-Signal.is, c.in-BootAgain.is, none) (c.boot_up.ensures c.in-Signal.byte)

pub returns-in-Read : goal.returns-in-Read
returns-in-Read c =
    let shown = shown_of (kept_listing c.args.listing.now) (seen_in (kept_listing c.args.listing.now) (machine c.args.self.now) c.in-Read._target) c.in-Read._target in
    let is : c.args.reply ≡ reply.State shown = grind (arith, common_steps, c.requires.answered.answer, c.in-Read.is) in
    let none : c.args.orders.now ≡ orders.None = grind (arith, common_steps, c.requires.answered.answer, c.in-Read.is) in
    rw (c.in-Read.is, is, none) (goes_read _ c.args.self.now c.in-Read._target shown)

pub returns-in-TimeUp : goal.returns-in-TimeUp
returns-in-TimeUp c =
    let granted = rw c.in-Elapsed.is at c.requires.answered in
    rw (c.in-Elapsed.is, c.in-TimeUp.is, late_orders _ _ _ _ _ granted c.in-TimeUp.is) (c.time_up.ensures c.in-Elapsed._ms)

pub returns-in_default-reply-3 : goal.returns-in_default-reply-3
returns-in_default-reply-3 c =
    let granted = rw c.in-Elapsed.is at c.requires.answered in
    rw (c.in-Elapsed.is, in_time_reply _ _ _ _ _ granted c.in_default-reply-3.not-TimeUp) (c.in_time.ensures c.in-Elapsed._ms)
