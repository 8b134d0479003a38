-- What a line of an operator asks for (own).
use Rattle.std.specs.Prelude.{ℕ, Bool, if◌then◌else◌, not, true}
use Rattle.std.specs.Prelude.{false, List, [], ◌∷◌, filter, bytes_eq, codes, Option, Some, None}
use Rattle.cm_text.specs.FieldReading.{◌>>=◌}
use Rattle.cm_text.specs.Picked.{first_of}
use Rattle.cm_text.specs.Words.{Words, split}
use Rattle.cm_typed.specs.Numbers.{number_of, typed_node}
use Rattle.cm_history.specs.declared.call.Call.{Call}
use Rattle.cm_history.specs.declared.call.Call.TheVariants as call
use Rattle.cm_operator.specs.declared.console.Command.{Command}
use Rattle.cm_operator.specs.declared.console.Command.TheVariants.{Make, Request, Boot, Start, Status, Help, Quit}
use Rattle.cm_operator.specs.declared.verb.Verb.{Verb}
use Rattle.cm_operator.specs.declared.verb.Verb.TheVariants as verb

-- the first word of a line that spells a call as a journal does
abbrev pub call_verb_of : List ℕ → Option Verb
call_verb_of w =
    if bytes_eq w (codes "request") then Some verb.Request
    else (if bytes_eq w (codes "read") then Some verb.Read
    else (if bytes_eq w (codes "hold") then Some verb.Hold
    else (if bytes_eq w (codes "release") then Some verb.Release
    else (if bytes_eq w (codes "lost") then Some verb.Lost else None))))

-- the first word of a line that asks one slave or all to do something
abbrev pub order_verb_of : List ℕ → Option Verb
order_verb_of w =
    if bytes_eq w (codes "boot") then Some verb.Boot
    else (if bytes_eq w (codes "start") then Some verb.Start
    else (if bytes_eq w (codes "stop") then Some verb.Stop
    else (if bytes_eq w (codes "reset") then Some verb.Reset
    else (if bytes_eq w (codes "preop") then Some verb.PreOperational else None))))

-- the first word of a line that is for the run
abbrev pub run_verb_of : List ℕ → Option Verb
run_verb_of w =
    if bytes_eq w (codes "status") then Some verb.Status
    else (if bytes_eq w (codes "help") then Some verb.Help
    else (if bytes_eq w (codes "quit") then Some verb.Quit
    else (if bytes_eq w (codes "exit") then Some verb.Quit else None)))

-- what there is to type with this first word
abbrev pub usage_of : Verb → List ℕ
usage_of verb.Request = codes "request TARGET VALUE, two numbers of 0 to 255"
usage_of verb.Read = codes "read NODE, a number of 0 to 255"
usage_of verb.Hold = codes "hold NODE, 1 to 127"
usage_of verb.Release = codes "release NODE, 1 to 127"
usage_of verb.Lost = codes "lost NODE, 1 to 127"
usage_of verb.Boot = codes "boot NODE, 1 to 127"
usage_of verb.Start = codes "start, or start NODE, 1 to 127"
usage_of verb.Stop = codes "stop, or stop NODE, 1 to 127"
usage_of verb.Reset = codes "reset NODE, 1 to 127"
usage_of verb.PreOperational = codes "preop NODE, 1 to 127"
usage_of verb.Status = codes "status alone"
usage_of verb.Help = codes "help alone"
usage_of verb.Quit = codes "quit alone"

-- the first word of a line
abbrev pub verb_of : List ℕ → Option Verb
verb_of w = first_of (call_verb_of w) (first_of (order_verb_of w) (run_verb_of w))

-- the request to a node that a word spells, with this value
abbrev pub request_to : ℕ → List ℕ → Option Command
request_to value w = typed_node w >>= (λ n. Some (Request n value))

-- what a line asks for whose first word is this, by the words behind it: a request to all nodes has target 128, and the
-- values are those of object 1F82h, 4 stop, 5 start, 6 reset node, 127 enter pre-operational (CiA 302-2, request NMT)
abbrev pub command_with : Verb → Words → Option Command
command_with verb.Request (t ∷ v ∷ []) = number_of t >>= (λ m. number_of v >>= (λ n. Some (Request m n)))
command_with verb.Read (t ∷ []) = number_of t >>= (λ m. Some (Make (call.Read m)))
command_with verb.Hold (t ∷ []) = typed_node t >>= (λ n. Some (Make (call.Hold n)))
command_with verb.Release (t ∷ []) = typed_node t >>= (λ n. Some (Make (call.Release n)))
command_with verb.Lost (t ∷ []) = typed_node t >>= (λ n. Some (Make (call.Lost n)))
command_with verb.Boot (t ∷ []) = typed_node t >>= (λ n. Some (Boot n))
command_with verb.Start [] = Some Start
command_with verb.Start (t ∷ []) = request_to 5 t
command_with verb.Stop [] = Some (Request 128 4)
command_with verb.Stop (t ∷ []) = request_to 4 t
command_with verb.Reset (t ∷ []) = request_to 6 t
command_with verb.PreOperational (t ∷ []) = request_to 127 t
command_with verb.Status [] = Some Status
command_with verb.Help [] = Some Help
command_with verb.Quit [] = Some Quit
command_with _ _ = None

-- what these words ask for
abbrev pub command_of : Words → Option Command
command_of [] = None
command_of (w ∷ ws) = verb_of w >>= (λ v. command_with v ws)

-- whether a word has no bytes
abbrev pub is_empty_word : List ℕ → Bool
is_empty_word [] = true
is_empty_word (b ∷ bs) = false

-- those of these parts that have bytes
abbrev pub some_words : Words → Words
some_words ws = filter (λ w. not (is_empty_word w)) ws

-- what a line asks for, whose words stand between its spaces; nothing where it is no such line
abbrev pub asked_by : List ℕ → Option Command
asked_by line = command_of (some_words (split 32 line))

-- the call is neither a report nor a request
abbrev pub IsOfWatch : Call → Type 0
IsOfWatch (call.Report i n a) = ⊥
IsOfWatch (call.Request t v) = ⊥
IsOfWatch _ = Unit {0}

-- a call that is asked for is neither
abbrev pub AsksPlainly : Command → Type 0
AsksPlainly (Make c) = IsOfWatch c
AsksPlainly _ = Unit {0}
