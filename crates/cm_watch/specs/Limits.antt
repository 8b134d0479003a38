-- How many steps a node causes by itself: 64 at once, and then at most one in any 10 s, until it was quiet for ten minutes. A boot-up
-- message that ends a boot, or a booted state, isn't counted among them, but against the boots and reports that it ends (own).
use Rattle.std.specs.Prelude.{◌≡◌, ℕ, ◌+◌, ◌≤◌, ◌<◌, ◌&&◌, ◌||◌, Bool, true, false, if◌then◌else◌, [], ◌∷◌, ◌++◌, Some, is_some}
use Rattle.cm_history.specs.History.{begins_by, boots_by}
use Rattle.cm_netlist.specs.Network.{Network, is_listed}
use Rattle.cm_watched.specs.Pasts.{Past}
use Rattle.cm_watched.specs.Schedules.{schedule_in}
use Rattle.cm_watched.specs.Signals.{budget_in, is_allowed, is_boot_up_left, is_boot_up_told, news_in, news_of, rests_in, spends}
use Rattle.cm_watch.specs.Steps.{is_to_be_booted, is_to_be_told, signal_of}
use Rattle.cm_watched.specs.declared.happening.Happening.TheVariants as happening
use Rattle.cm_watched.specs.declared.happening.Moment.{Moment}
use Rattle.cm_watched.specs.declared.happening.Moment.TheVariants as moment
use Rattle.cm_watched.specs.declared.happening.Step.TheVariants as step
use Rattle.cm_watched.specs.declared.settings.Settings.{Settings}

-- each step in the past that i caused by itself was given when one was allowed
abbrev pub AreLimited : Network → Settings → Past → ℕ → Type 0
AreLimited net s [] i = Unit {0}
AreLimited net s (x ∷ past) i =
    (spends x.1 (rests_in past i) (schedule_in net s past i) i ≡ true → is_allowed x.0 (budget_in net s past i) ≡ true) × AreLimited net s past i

-- how many steps i caused by itself in the newer part of a past
abbrev pub caused_in : Network → Settings → Past → Past → ℕ → ℕ
caused_in net s [] older i = 0
caused_in net s (x ∷ newer) older i =
    if spends x.1 (rests_in (newer ++ older) i) (schedule_in net s (newer ++ older) i) i then caused_in net s newer older i + 1
    else caused_in net s newer older i

-- all of them happened in the ms from `start` on, before `end`
abbrev pub AreBetween : ℕ → ℕ → Past → Type 0
AreBetween start end [] = Unit {0}
AreBetween start end (x ∷ past) = (start ≤ x.0) × (x.0 < end) × AreBetween start end past

-- the law: once nothing is left, the last step being of the time t, i causes at most one step by itself in any 10 s that end
-- within ten minutes of t
abbrev pub IsOneInTenSeconds : Type 0
IsOneInTenSeconds =
    (net : Network) (s : Settings) (newer older : Past) (i start t : ℕ) → AreLimited net s (newer ++ older) i
    → (budget_in net s older i).left ≡ 0 → (budget_in net s older i).last ≡ Some t
    → AreBetween start (start + 10000) newer → start + 10000 ≤ t + 600000
    → caused_in net s newer older i ≤ 1

-- the law: what is to be told of i is given at each time that is 10 s or more behind the last step that i caused by itself,
-- unless i is booted just then
abbrev pub IsToldInTime : Type 0
IsToldInTime =
    (net : Network) (s : Settings) (past : Past) (now i t : ℕ) → is_listed net i ≡ true → is_some (news_of (news_in past i)) ≡ true
    → (budget_in net s past i).last ≡ Some t → t + 10000 ≤ now → is_to_be_booted net s past now i ≡ false
    → is_to_be_told net s past now i ≡ true

-- ---- boot-up messages that end something

-- how many boot-up messages of i were told that ended a boot or a booted state
abbrev pub ended_in : Past → ℕ → ℕ
ended_in [] i = 0
ended_in (x ∷ past) i = if rests_in past i && is_boot_up_told x.1 i then ended_in past i + 1 else ended_in past i

-- a boot of i was begun, or a report booted it
abbrev pub is_begun_or_booted : Moment → ℕ → Bool
is_begun_or_booted (moment.Happened (happening.Called e)) i = is_some (begins_by e.call e.reply i) || boots_by e.call e.reply i
is_begun_or_booted _ i = false

abbrev pub begun_or_booted_in : Past → ℕ → ℕ
begun_or_booted_in [] i = 0
begun_or_booted_in (x ∷ past) i = if is_begun_or_booted x.1 i then begun_or_booted_in past i + 1 else begun_or_booted_in past i

-- the law: each of them has a boot that was begun or a report of its own
abbrev pub IsEndedOnce : Type 0
IsEndedOnce = (past : Past) (i : ℕ) → ended_in past i ≤ begun_or_booted_in past i

-- the law: a boot-up message of a slave on which something rests, a boot that was begun or a report that booted it, is told in the next
-- turn, whatever came before
abbrev pub IsToldAtOnce : Type 0
IsToldAtOnce =
    (net : Network) (s : Settings) (past : Past) (now i : ℕ) → is_listed net i ≡ true → is_boot_up_left past i ≡ true → rests_in past i ≡ true
    → (is_to_be_told net s past now i ≡ true) × (signal_of past i ≡ step.Signal i 0)
