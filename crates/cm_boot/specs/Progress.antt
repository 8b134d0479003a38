-- A boot under way: which question is due, and what an answer to it changes.
use Rattle.std.specs.Prelude.{◌≡◌, ◌≤◌, IfSome, length, ◌+◌, true, not, ◌&&◌, Option, Some, None, option_map, option_and_then, slice_set}
use Rattle.std.specs.List.{find}
use Rattle.cm_netlist.specs.Network.{terms_of}
use Rattle.cm_netlist.specs.declared.entry.SlaveEntry.{SlaveEntry}
use Rattle.cm_nmt.specs.declared.terms.Terms.{Terms}
use Rattle.cm_nmt.specs.Fields.{fields}
use Rattle.cm_nmt.specs.Conditions.{condition, is_complete, is_proper}
use Rattle.cm_boot.specs.Questions.{question}
use Rattle.cm_nmt.specs.Verdict.{judged}
use Rattle.cm_nmt.specs.declared.answers.Answers.{Answers}
use Rattle.cm_nmt.specs.declared.got.Got.{Got}
use Rattle.cm_nmt.specs.declared.got.Got.TheVariants as got
use Rattle.cm_nmt.specs.declared.heard.Heard.{Heard}
use Rattle.cm_nmt.specs.declared.heard.Heard.TheVariants as heard
use Rattle.cm_nmt.specs.declared.field.Field.{Field}
use Rattle.cm_nmt.specs.declared.field.Field.TheVariants.{Device, Vendor, Product, Revision, Serial, State, Date, Time, Writes, Beat}
use Rattle.cm_boot.specs.declared.question.Question.{Question}
use Rattle.cm_boot.specs.declared.question.Answer.{Answer}
use Rattle.cm_boot.specs.declared.question.Answer.TheVariants as answer
use Rattle.cm_boot.specs.declared.question.Step.{Step}
use Rattle.cm_boot.specs.declared.question.Step.TheVariants.{Ask, Done}
use Rattle.cm_nmt.specs.declared.status.Status.{Status}

-- a boot: what is listed of the slave, if it is listed, and what it answered so far
pub record Booting : Type 0 where
  pub entry : Option SlaveEntry
  pub answers : Answers

-- the listed values of the slave, with the number of its writes
abbrev pub terms : Booting → Option Terms
terms b = option_map terms_of b.entry

-- the field that is due: the first whose condition holds and that hasn't all its answers
abbrev pub next_field : Terms → Answers → Option Field
next_field t a = find (λ f. condition t a f && not (is_complete t a f)) fields

-- the same of a slave that may not be listed: then none is
abbrev pub due : Option Terms → Answers → Option Field
due None a = None
due (Some t) a = next_field t a

-- the question of the field that is due
abbrev pub question_due : Booting → Option Question
question_due b = option_and_then (λ e. option_and_then (λ f. question e b.answers f) (due (terms b) b.answers)) b.entry

-- what an answer to a read, or to the failed write, is recorded as
abbrev pub got_of : Answer → Option Got
got_of (answer.Value v) = Some (got.Value v)
got_of (answer.Abort code) = Some (got.Abort code)
got_of answer.Silent = Some got.Silent
got_of _ = None

-- what an answer to a state question is recorded as
abbrev pub heard_of : Answer → Option Heard
heard_of (answer.State s) = Some (heard.State s)
heard_of answer.Silent = Some heard.Silent
heard_of _ = None

-- the answers with the answer to a write: one more was acknowledged, or this one failed
abbrev pub with_write : Answers → Answer → Option Answers
with_write a answer.Acked = Some (record a { acked = a.acked + 1 })
with_write a (answer.Abort code) = Some (record a { refused = got.Abort code })
with_write a answer.Silent = Some (record a { refused = got.Silent })
with_write a _ = None

-- the answers with this answer in the field, all else as it was; none where it doesn't fit
unfoldable pub with_answer : Answers → Field → Answer → Option Answers
with_answer a Device x = option_map (λ g. record a { device = g }) (got_of x)
with_answer a Vendor x = option_map (λ g. record a { ids = slice_set a.ids 0 g }) (got_of x)
with_answer a Product x = option_map (λ g. record a { ids = slice_set a.ids 1 g }) (got_of x)
with_answer a Revision x = option_map (λ g. record a { ids = slice_set a.ids 2 g }) (got_of x)
with_answer a Serial x = option_map (λ g. record a { ids = slice_set a.ids 3 g }) (got_of x)
with_answer a State x = option_map (λ h. record a { heard = h }) (heard_of x)
with_answer a Date x = option_map (λ g. record a { date = g }) (got_of x)
with_answer a Time x = option_map (λ g. record a { time = g }) (got_of x)
with_answer a Writes x = with_write a x
with_answer a Beat x = option_map (λ h. record a { beat = h }) (heard_of x)

-- what the boot does next: it is done, with the verdict, exactly where a boot ends with these
-- answers; else it asks the question that is due
abbrev pub step_of : Option Status → Option Question → Option Step
step_of (Some s) q = Some (Done s)
step_of None q = option_map (λ q. Ask q) q

abbrev pub next_step : Booting → Option Step
next_step b = step_of (judged (terms b) b.answers) (question_due b)

-- the answers after this answer to the question that is due; none after the last question, and where
-- the answer doesn't fit
abbrev pub answers_after : Booting → Answer → Option Answers
answers_after b x = option_and_then (λ f. with_answer b.answers f x) (due (terms b) b.answers)

-- what every boot keeps
pub record IsBooting (b : Booting) : Type 0 where
  pub proper : is_proper (terms b) b.answers ≡ true
  pub four : length b.answers.ids ≡ 4
  pub few : IfSome b.entry (λ e. length e.writes.items ≤ 32)
