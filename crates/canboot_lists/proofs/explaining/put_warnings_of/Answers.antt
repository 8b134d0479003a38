use Rattle.canboot_lists.proofs.explaining.put_warnings_of.Goals as goal

pub returns-in-Some : goal.returns-in-Some
returns-in-Some g c = rw (← c.startup.ensures, ← c.in-Some.ensures.value) c.put_slave_warnings.ensures
