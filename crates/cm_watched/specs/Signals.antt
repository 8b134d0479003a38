-- What the manager is told of what a node sent, and how often (own, but where a standard is named).
use Rattle.std.specs.Prelude.{◌==◌, ◌&&◌, ◌||◌, if◌then◌else◌, ◌+◌, ◌-◌, ◌%◌, [], ◌∷◌, ℕ, Bool, true, false, not}
use Rattle.std.specs.Prelude.{min, nat_lt, Option, Some, None, is_some, unwrap_or}
use Rattle.std.specs.Option.{option_or}
use Rattle.cm_history.specs.History.{begins_by, boots_by, is_boot_again, sets_by}
use Rattle.cm_history.specs.Machine.{obeyed}
use Rattle.cm_history.specs.Orders.{to_all}
use Rattle.cm_history.specs.declared.call.Call.{Call}
use Rattle.cm_history.specs.declared.call.Call.TheVariants as call
use Rattle.cm_history.specs.declared.call.Entry.{Entry}
use Rattle.cm_history.specs.declared.call.Orders.{Orders}
use Rattle.cm_history.specs.declared.call.Orders.TheVariants as orders
use Rattle.cm_history.specs.declared.call.Reply.{Reply}
use Rattle.cm_netlist.specs.Network.{Network}
use Rattle.cm_watched.specs.Pasts.{Past}
use Rattle.cm_watched.specs.Schedules.{is_own, is_quiet_for, schedule_in}
use Rattle.cm_watched.specs.declared.happening.Happening.TheVariants as happening
use Rattle.cm_watched.specs.declared.happening.Moment.{Moment}
use Rattle.cm_watched.specs.declared.happening.Moment.TheVariants as moment
use Rattle.cm_watched.specs.declared.happening.Step.TheVariants as step
use Rattle.cm_watched.specs.declared.schedule.Schedule.{Schedule}
use Rattle.cm_watched.specs.declared.settings.Settings.{Settings}
use Rattle.cm_watched.specs.declared.signals.Budget.{Budget}
use Rattle.cm_watched.specs.declared.signals.News.{News}
use Rattle.cm_watched.specs.declared.shown.Since.{Since}
use Rattle.cm_watched.specs.declared.shown.Since.TheVariants as since

-- ---- what was heard, and what was told

-- the state in an error control message of i: its byte without the toggle bit (CiA 301)
abbrev pub state_heard_by : Moment → ℕ → Option ℕ
state_heard_by (moment.Happened (happening.Heard j b)) i = if j == i then Some (b % 128) else None
state_heard_by _ i = None

-- the state of i that was heard last
abbrev pub state_heard : Past → ℕ → Option ℕ
state_heard [] i = None
state_heard (x ∷ past) i = option_or (state_heard_by x.1 i) (state_heard past i)

-- the state in which a node is that sends this: pre-operational behind a boot-up message, which it enters by itself (CiA 301)
abbrev pub entered : ℕ → ℕ
entered s = if s == 0 then 127 else s

-- the call tells a boot-up message of i
abbrev pub tells_boot_up : Call → Reply → ℕ → Bool
tells_boot_up (call.Signal j b) r i = is_boot_again r && j == i
tells_boot_up _ r i = false

-- a worker that heard a boot-up message of i too has told it: its seat isn't the operator's, 1. It begins its next boot behind that entry,
-- so that what was heard before the entry came was heard before that boot
abbrev pub is_told_by_worker : Entry → ℕ → Bool
is_told_by_worker e i = tells_boot_up e.call e.reply i && not (e.seat == 1)

-- the state that the manager is told of i
abbrev pub state_told_by : Moment → ℕ → Option ℕ
state_told_by (moment.Happened (happening.Called e)) i = if is_told_by_worker e i then Some 127 else None
state_told_by (moment.Gave (step.Signal j b)) i = if j == i then Some (entered (b % 128)) else None
state_told_by _ i = None

-- the state of i that was told last
abbrev pub state_told : Past → ℕ → Option ℕ
state_told [] i = None
state_told (x ∷ past) i = option_or (state_told_by x.1 i) (state_told past i)

-- a boot-up message of i came, or was told, by a step or by a worker
abbrev pub boot_up_by : Moment → ℕ → Option Bool
boot_up_by (moment.Happened (happening.Heard j b)) i = if j == i && b % 128 == 0 then Some true else None
boot_up_by (moment.Happened (happening.Called e)) i = if is_told_by_worker e i then Some false else None
boot_up_by (moment.Gave (step.Signal j b)) i = if j == i && b % 128 == 0 then Some false else None
boot_up_by _ i = None

-- a boot-up message of i came, and none was told since
abbrev pub is_boot_up_left : Past → ℕ → Bool
is_boot_up_left [] i = false
is_boot_up_left (x ∷ past) i = unwrap_or (boot_up_by x.1 i) (is_boot_up_left past i)

-- whether something rests on it that i hasn't booted up: a boot of it was begun, or a report booted it, and behind that no boot-up
-- message of it was told
abbrev pub rests_by_call : Call → Reply → ℕ → Option Bool
rests_by_call c r i = if is_some (begins_by c r i) || boots_by c r i then Some true else (if tells_boot_up c r i then Some false else None)

abbrev pub rests_by : Moment → ℕ → Option Bool
rests_by (moment.Happened (happening.Called e)) i = rests_by_call e.call e.reply i
rests_by (moment.Gave (step.Signal j b)) i = if j == i && b % 128 == 0 then Some false else None
rests_by _ i = None

abbrev pub rests_in : Past → ℕ → Bool
rests_in [] i = false
rests_in (x ∷ past) i = unwrap_or (rests_by x.1 i) (rests_in past i)

-- ---- what the manager shows

-- the state of i that the manager shows, behind the moment: a signal counts as recorded once it is given
abbrev pub shown_by : Moment → ℕ → ℕ → ℕ
shown_by (moment.Happened (happening.Called e)) i v = obeyed (to_all e.orders) (unwrap_or (sets_by e.call e.reply e.orders i) v)
shown_by (moment.Gave (step.Signal j b)) i v = if j == i then entered (b % 128) else v
shown_by _ i v = v

abbrev pub shown_in : Past → ℕ → ℕ
shown_in [] i = 0
shown_in (x ∷ past) i = shown_by x.1 i (shown_in past i)

-- something is sent
abbrev pub is_sent : Orders → Bool
is_sent orders.None = false
is_sent (orders.One f) = true
is_sent orders.ResetUnkept = true

-- the call commands i: something is sent to all, or to i, of which it decides the state
abbrev pub commands_by : Call → Reply → Orders → ℕ → Bool
commands_by c r o i = is_some (to_all o) || (is_sent o && is_some (sets_by c r o i))

-- the call gives i a state by itself, other than the one that i told
abbrev pub gives_by : Call → Reply → Orders → ℕ → Bool
gives_by (call.Signal j b) r o i = false
gives_by c r o i = is_some (sets_by c r o i)

-- the message tells the state in which i was: that of the last one that was heard, pre-operational where none was
abbrev pub is_same : Option ℕ → ℕ → Bool
is_same heard s = not (s == 0) && entered (unwrap_or heard 0) == s

-- what the manager did with i since it was heard last: nothing; gave it a state, so that what was heard is from before that; or
-- commanded it, so that the first message that comes with the same state was on its way, and is from before that too
abbrev pub since_heard : Option ℕ → ℕ → Since → Since
since_heard heard s since.Commanded = if is_same heard s then since.Set else since.Nothing
since_heard heard s _ = since.Nothing

abbrev pub since_call : Call → Reply → Orders → ℕ → Since → Since
since_call c r o i k = if commands_by c r o i then since.Commanded else (if gives_by c r o i then since.Set else k)

abbrev pub since_by : Moment → ℕ → Option ℕ → Since → Since
since_by (moment.Happened (happening.Heard j b)) i heard k = if j == i then since_heard heard (b % 128) k else k
since_by (moment.Happened (happening.Called e)) i heard k = since_call e.call e.reply e.orders i k
since_by _ i heard k = k

abbrev pub since_in : Past → ℕ → Since
since_in [] i = since.Nothing
since_in (x ∷ past) i = since_by x.1 i (state_heard past i) (since_in past i)

abbrev pub is_nothing : Since → Bool
is_nothing since.Nothing = true
is_nothing _ = false

-- ---- what is to be told

-- it isn't the state that was heard
abbrev pub is_other : Option ℕ → ℕ → Bool
is_other None s = true
is_other (Some t) s = not (entered t == s)

-- it is another state than the one heard before, or a boot-up message
abbrev pub is_change : Option ℕ → ℕ → Bool
is_change heard s = s == 0 || is_other heard s

-- how many changes of state of i were heard that weren't told, with the state that was heard before the moment: none is left
-- where the manager is told of the state heard last, and that state where it is told of a boot-up message
abbrev pub changes_by : Moment → ℕ → Option ℕ → ℕ → ℕ
changes_by (moment.Happened (happening.Heard j b)) i heard n = if j == i && is_change heard (b % 128) then min (n + 1) 0xFFFFFFFF else n
changes_by (moment.Happened (happening.Called e)) i heard n = if is_told_by_worker e i then (if is_other heard 127 then 1 else 0) else n
changes_by (moment.Gave (step.Signal j b)) i heard n = if j == i then (if is_other heard (entered (b % 128)) then 1 else 0) else n
changes_by _ i heard n = n

abbrev pub changes_in : Past → ℕ → ℕ
changes_in [] i = 0
changes_in (x ∷ past) i = changes_by x.1 i (state_heard past i) (changes_in past i)

-- how many of them are told now, or next: a boot-up message and the state heard behind it, else one
abbrev pub pending_of : News → ℕ
pending_of n = if n.boot_up && is_other n.heard 127 then 2 else 1

-- what is to be told: a boot-up message, else the state heard last, where the manager has given the node none since, and it isn't the
-- one that was told last or the manager shows another
abbrev pub news_of : News → Option ℕ
news_of n = if n.boot_up then Some 0 else (if is_nothing n.since then news_from n.heard n.told n.shown else None)
  where
    news_from : Option ℕ → Option ℕ → ℕ → Option ℕ
    news_from None told shown = None
    news_from (Some s) told shown = if s == 0 || (not (is_other told s) && shown == s) then None else Some s

-- it is told at once, however much was told before: a boot-up message on which something rests
abbrev pub is_urgent : News → Bool
is_urgent n = n.boot_up && n.rests

-- what was heard and told of i
abbrev pub news_in : Past → ℕ → News
news_in past i = record {
  boot_up = is_boot_up_left past i;
  rests = rests_in past i;
  heard = state_heard past i;
  told = state_told past i;
  shown = shown_in past i;
  since = since_in past i;
  changes = changes_in past i;
}

-- ---- how much a node may cause by itself

-- the step tells a boot-up message of i
abbrev pub is_boot_up_told : Moment → ℕ → Bool
is_boot_up_told (moment.Gave (step.Signal j b)) i = j == i && b % 128 == 0
is_boot_up_told _ i = false

-- the step is one that i causes by itself: a signal of it, but for a boot-up message on which something rests, or a boot of it whose
-- cause is its boot-up message alone
abbrev pub spends : Moment → Bool → Schedule → ℕ → Bool
spends (moment.Gave (step.Signal j b)) rests k i = j == i && not (rests && b % 128 == 0)
spends (moment.Gave (step.Boot j)) rests k i = j == i && is_own k.due
spends _ rests k i = false

-- how many steps are left that may be given at once: 64, and 64 again behind ten minutes of quiet
abbrev pub left_now : ℕ → Budget → ℕ
left_now now b = if is_quiet_for 600000 now b.last then 64 else b.left

-- such a step was given
abbrev pub spent : ℕ → Budget → Budget
spent now b = record { left = left_now now b - 1; last = Some now }

abbrev pub full_budget : Budget
full_budget = record { left = 64; last = None }

-- how many steps that i causes by itself may be given at once, and when the last was
abbrev pub budget_in : Network → Settings → Past → ℕ → Budget
budget_in net s [] i = full_budget
budget_in net s (x ∷ past) i =
    if spends x.1 (rests_in past i) (schedule_in net s past i) i then spent x.0 (budget_in net s past i) else budget_in net s past i

-- another may be given: one is left, or the last was 10 s ago or before
abbrev pub is_allowed : ℕ → Budget → Bool
is_allowed now b = nat_lt 0 b.left || is_quiet_for 10000 now b.last
