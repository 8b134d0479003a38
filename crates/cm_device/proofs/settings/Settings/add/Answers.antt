use Rattle.cm_device.proofs.settings.Settings.add.Goals as goal

pub returns : goal.returns
returns c = (record { rank = c.rank.result; write = c.new.result; name = c.args.name }, c.new.ensures, c.in_ok-push.ensures.items)
