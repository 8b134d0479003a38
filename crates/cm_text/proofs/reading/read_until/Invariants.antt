use Rattle.std.specs.Prelude.{false}
use Rattle.cm_text.specs.Input.{ReadsUntil}
use Rattle.cm_text.proofs.reading.read_until.Given as goal

-- the bytes so far were read and put behind those of the start
abbrev pub invariant-loop : goal.invariant-loop
invariant-loop g l = ReadsUntil l.most (g.R.Read.remaining l.initial.reader) (g.R.Read.remaining l.reader) l.initial.bytes.items l.bytes.items false
