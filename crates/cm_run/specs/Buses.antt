-- The slaves of a simulated bus, and its steps (own).
use Rattle.std.specs.Prelude.{◌≡◌, ◌==◌, ◌<◌, ℕ, Option, Some, None, if◌then◌else◌}
use Rattle.std.specs.List.{slice_index_or}
use Rattle.cm_boot.specs.declared.question.Answer.{Answer}
use Rattle.cm_boot.specs.declared.question.Answer.TheVariants as answer
use Rattle.cm_boot.specs.declared.question.Question.{Question}
use Rattle.cm_run.specs.declared.bus.SimBus.{SimBus}
use Rattle.cm_run.specs.declared.bus.Attached.{Attached}
use Rattle.cm_run.specs.declared.slave.SimSlave.{SimSlave}
use Rattle.cm_run.specs.Slaves.{answer_to, left_after}

-- the slave of node i, if it has one
abbrev pub slave_at : SimBus → ℕ → Option Attached
slave_at b i = slice_index_or b.slaves i None

-- a slave as it is put on the bus
abbrev pub put_on : SimSlave → Attached
put_on s = record { slave = s; left = s.write_limit }

-- what is answered at a node; a node without a slave is silent
abbrev pub answer_at : Option Attached → Question → Answer
answer_at None q = answer.Silent
answer_at (Some a) q = answer_to a.slave a.left q

-- the slave after it was asked
abbrev pub after : Option Attached → Question → Option Attached
after None q = None
after (Some a) q = Some (record { slave = a.slave; left = left_after a.slave a.left q })

-- a step: node i was asked q and gave x, and the other slaves are as they were
pub record Steps (b : SimBus) (i : ℕ) (q : Question) (x : Answer) (b' : SimBus) : Type 0 where
  pub given : x ≡ answer_at (slave_at b i) q
  pub others : (j : ℕ) → j < 128 → slave_at b' j ≡ (if i == j then after (slave_at b i) q else slave_at b j)
