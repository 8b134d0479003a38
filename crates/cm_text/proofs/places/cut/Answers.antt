use Rattle.std.proofs.Common.{◌+◌, ◌-◌, length, drop, sym, arith, length-drop}
use Rattle.std.proofs.lemmas.List.{take_all}
use Rattle.cm_text.proofs.Splits.{split_at_place, split_nowhere}
use Rattle.cm_text.proofs.places.cut.Goals as goal

pub returns-in-Some : goal.returns-in-Some
returns-in-Some c = rw (take_all (length c.args.bytes.now - (c.in-Some.at + 1)) (drop (c.in-Some.at + 1) c.args.bytes.now) (omega (arith, length-drop (c.in-Some.at + 1) c.args.bytes.now))) (split_at_place _ c.args.bytes.now c.in-Some.at (sym c.in-Some.ensures))

pub returns-in-None : goal.returns-in-None
returns-in-None c = split_nowhere _ c.args.bytes.now (sym c.in-None.ensures)
