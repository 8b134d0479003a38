-- What a boot asked, and how a bus goes by it.
use Rattle.std.specs.Prelude.{◌≡◌, List, [], ◌∷◌, ◌++◌, take, map, Option, Some, None}
use Rattle.std.specs.List.{flat_map}
use Rattle.cm_netlist.specs.declared.entry.SlaveEntry.{SlaveEntry}
use Rattle.cm_nmt.specs.Answers.{id_of}
use Rattle.cm_nmt.specs.Fields.{fields}
use Rattle.cm_boot.specs.Questions.{question, counted}
use Rattle.cm_nmt.specs.declared.answers.Answers.{Answers}
use Rattle.cm_nmt.specs.declared.got.Got.{Got}
use Rattle.cm_nmt.specs.declared.got.Got.TheVariants as got
use Rattle.cm_nmt.specs.declared.heard.Heard.{Heard}
use Rattle.cm_nmt.specs.declared.heard.Heard.TheVariants as heard
use Rattle.cm_nmt.specs.declared.field.Field.{Field}
use Rattle.cm_nmt.specs.declared.field.Field.TheVariants.{Device, Vendor, Product, Revision, Serial, State, Date, Time, Writes, Beat}
use Rattle.cm_boot.specs.declared.question.Question.{Question}
use Rattle.cm_boot.specs.declared.question.Question.TheVariants as ask
use Rattle.cm_boot.specs.declared.question.Answer.{Answer}
use Rattle.cm_boot.specs.declared.question.Answer.TheVariants as answer

-- the answer that was given to a read or a write, if it was asked
abbrev pub given : Got → List Answer
given got.NotAsked = []
given got.Silent = answer.Silent ∷ []
given (got.Abort code) = answer.Abort code ∷ []
given (got.Value v) = answer.Value v ∷ []

-- the answer that was given to a state question, if it was asked
abbrev pub given_state : Heard → List Answer
given_state heard.NotAsked = []
given_state heard.Silent = answer.Silent ∷ []
given_state (heard.State s) = answer.State s ∷ []

-- a question with each of its answers
abbrev pub each_of : Option Question → List Answer → List (Question × Answer)
each_of None xs = []
each_of (Some q) xs = map (λ x. (q, x)) xs

-- what was asked to fill a field, with the answers: the question of the field where it was answered;
-- for the writes, those that were acknowledged, and after them the one that failed
unfoldable pub asked_of : SlaveEntry → Answers → Field → List (Question × Answer)
asked_of e a Device = each_of (question e a Device) (given a.device)
asked_of e a Vendor = each_of (question e a Vendor) (given (id_of a 0))
asked_of e a Product = each_of (question e a Product) (given (id_of a 1))
asked_of e a Revision = each_of (question e a Revision) (given (id_of a 2))
asked_of e a Serial = each_of (question e a Serial) (given (id_of a 3))
asked_of e a State = each_of (question e a State) (given_state a.heard)
asked_of e a Date = each_of (question e a Date) (given a.date)
asked_of e a Time = each_of (question e a Time) (given a.time)
asked_of e a Writes =
    map (λ w. (ask.Write w, answer.Acked)) (take a.acked e.writes.items)
    ++ each_of (question e a Writes) (given a.refused)
asked_of e a Beat = each_of (question e a Beat) (given_state a.beat)

-- the questions of a boot with their answers, in the order of the fields; none of a slave that isn't
-- listed
abbrev pub asked : Option SlaveEntry → Answers → List (Question × Answer)
asked None a = []
asked (Some e) a = flat_map (asked_of e a) fields

-- a bus goes from one state to another by its steps through the questions of a list, one step for each
-- question; the answer in the list is the step's, or silence where that doesn't fit the question
abbrev pub Talks : {B : Type 0} → (B → Question → Answer → B → Type 0) → B → List (Question × Answer) → B → Type 0
Talks step b [] after = b ≡ after
Talks {B = B} step b (qx ∷ rest) after =
    (mid : B) × (y : Answer) × (step b qx.0 y mid) × (qx.1 ≡ counted qx.0 y) × (Talks step mid rest after)
