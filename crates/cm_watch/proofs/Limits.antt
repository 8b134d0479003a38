-- The steps that a node causes by itself are limited, and what follows from that.
use Rattle.std.proofs.Common.{◌≡◌, ◌≢◌, ◌∙◌, ℕ, zero, suc, ◌+◌, ◌-◌, ◌%◌, ◌≤◌, ◌<◌, ◌==◌, ◌&&◌, ◌||◌, not, nat_lt, ◌⊎◌, inl, inr, Bool, true, false, cond, List, [], ◌∷◌, ◌++◌, ap, sym, refl, arith, subst, map, Option, Some, None, unwrap_or}
use Rattle.std.proofs.Math.Bool.{and-false}
use Rattle.std.proofs.lemmas.Grind.{common_steps}
use Rattle.std.specs.Bool.{if◌then◌else◌}
use Rattle.std.specs.Option.{is_some}
use Rattle.std.specs.List.{filter, range_with_len}
use Rattle.cm_history.specs.History.{begins_by, boots_by}
use Rattle.cm_netlist.specs.Network.{Network, is_listed}
use Rattle.cm_nmt.proofs.Both.{and_left, and_right}
use Rattle.cm_nmt.proofs.Ids.{unfold_ids}
use Rattle.cm_watch.specs.Ends.{is_run_over}
use Rattle.cm_watch.specs.Limits.{AreBetween, AreLimited, IsEndedOnce, IsOneInTenSeconds, IsToldAtOnce, IsToldInTime, begun_or_booted_in, caused_in, ended_in, is_begun_or_booted}
use Rattle.cm_watched.specs.Pasts.{Past}
use Rattle.cm_watched.specs.Schedules.{cause_by, is_due, is_own, is_quiet_for, schedule_after, schedule_in}
use Rattle.cm_watched.specs.Signals.{budget_in, is_allowed, is_boot_up_left, is_boot_up_told, is_urgent, left_now, news_in, news_of, rests_by, rests_in, spends, spent, tells_boot_up}
use Rattle.cm_watched.specs.Slaves.{is_asked_in, is_busy_in, is_held_in}
use Rattle.cm_watch.specs.Course.{is_stopped_in, phase_in}
use Rattle.cm_watched.specs.Waking.{stands_stopped}
use Rattle.cm_watch.specs.Steps.{boot_of, elapsed_at, given, is_end, is_late, is_left_out, is_time_over, is_to_be_booted, is_to_be_told, left_out_of, signal_of, step_if, steps_at, takes_boots}
use Rattle.cm_watched.specs.Slaves.{is_free}
use Rattle.cm_watched.specs.declared.happening.Happening.TheVariants as happening
use Rattle.cm_watched.specs.declared.happening.Moment.{Moment}
use Rattle.cm_watched.specs.declared.happening.Moment.TheVariants as moment
use Rattle.cm_watched.specs.declared.happening.Step.{Step}
use Rattle.cm_watched.specs.declared.happening.Step.TheVariants as step
use Rattle.cm_watched.specs.declared.schedule.Cause.TheVariants as cause
use Rattle.cm_watched.specs.declared.schedule.Schedule.{Schedule}
use Rattle.cm_watched.specs.declared.settings.Settings.{Settings}
use Rattle.cm_watched.specs.declared.signals.Budget.{Budget}
use Rattle.cm_watch.proofs.Steps.{given-append}

pub false_true : {A : Type 0} → false ≡ true → A
false_true e = absurd (cc)

-- ---- one in 10 s

clash : (now u start : ℕ) (b : Budget) → is_allowed now b ≡ true → b.left ≡ 0 → b.last ≡ Some u → start ≤ u → now < start + 10000 → ⊥
clash now u start b ok left last low high =
    let none : (nat_lt 0 0 || is_quiet_for 10000 now b.last) ≡ true = subst (λ (n : ℕ). (nat_lt 0 n || is_quiet_for 10000 now b.last) ≡ true) left ok in
    let here : (nat_lt 0 0 || is_quiet_for 10000 now (Some u)) ≡ true = subst (λ (o : Option ℕ). (nat_lt 0 0 || is_quiet_for 10000 now o) ≡ true) last none in
    not_quiet now u start here low high
  where
    not_quiet : (now u start : ℕ) → (nat_lt 0 0 || is_quiet_for 10000 now (Some u)) ≡ true → start ≤ u → now < start + 10000 → ⊥
    not_quiet now u start here low high = grind (arith, common_steps)

not_calm : (now t : ℕ) → now < t + 600000 → is_quiet_for 600000 now (Some t) ≡ false
not_calm now t near = grind (arith, common_steps)

none_left : (now t : ℕ) (b : Budget) → b.left ≡ 0 → b.last ≡ Some t → now < t + 600000 → left_now now b - 1 ≡ 0
none_left now t b left last near =
    ap (λ (o : Option ℕ). (if is_quiet_for 600000 now o then 64 else b.left) - 1) last
    ∙ ap (λ (q : Bool). (if q then 64 else b.left) - 1) (not_calm now t near)
    ∙ ap (λ (n : ℕ). n - 1) left

-- nothing was caused since t, or one step since `start`
abbrev Since : ℕ → ℕ → ℕ → Budget → Type 0
Since t start count b = ((count ≡ 0) × (b.last ≡ Some t)) ⊎ ((count ≡ 1) × ((u : ℕ) × (b.last ≡ Some u) × (start ≤ u)))

one_step : (p : Bool) (now start t count : ℕ) (b : Budget) → (p ≡ true → is_allowed now b ≡ true) → start ≤ now → now < start + 10000 → start + 10000 ≤ t + 600000 → b.left ≡ 0 → Since t start count b
    → ((if p then spent now b else b).left ≡ 0) × Since t start (if p then count + 1 else count) (if p then spent now b else b)
one_step true now start t count b ok low high near none (inl no_one) = (none_left now t b none no_one.1 (omega (arith, high, near)), inr (omega (arith, no_one.0), (now, refl, low)))
one_step true now start t count b ok low high near none (inr one) = absurd (clash now one.1.0 start b (ok refl) none one.1.1 one.1.2 high)
one_step false now start t count b ok low high near none since = (none, since)

behind : (net : Network) (s : Settings) (newer older : Past) (i start t : ℕ) → AreLimited net s (newer ++ older) i → (budget_in net s older i).left ≡ 0 → (budget_in net s older i).last ≡ Some t
    → AreBetween start (start + 10000) newer → start + 10000 ≤ t + 600000
    → ((budget_in net s (newer ++ older) i).left ≡ 0) × Since t start (caused_in net s newer older i) (budget_in net s (newer ++ older) i)
behind net s [] older i start t limited none last between near = (none, inl (refl, last))
behind net s (x ∷ newer) older i start t limited none last between near =
    let rest = behind net s newer older i start t limited.1 none last between.2 near in
    one_step (spends x.1 (rests_in (newer ++ older) i) (schedule_in net s (newer ++ older) i) i) x.0 start t (caused_in net s newer older i) (budget_in net s (newer ++ older) i) limited.0 between.0 between.1 near rest.0 rest.1

pub one_in_ten_seconds : IsOneInTenSeconds
one_in_ten_seconds net s newer older i start t limited none last between near =
    elim (behind net s newer older i start t limited none last between near).1 [ inl no_one ↦ omega (arith, no_one.0) | inr one ↦ omega (arith, one.0) ]

-- ---- told in time

quiet_then : (now t : ℕ) → t + 10000 ≤ now → is_quiet_for 10000 now (Some t) ≡ true
quiet_then now t far = grind (arith, common_steps)

any_way : (b : Bool) → (b || true) ≡ true
any_way true = refl
any_way false = refl

pub told_in_time : IsToldInTime
told_in_time net s past now i t listed news last far booted =
    let b = budget_in net s past i in
    let urgent = is_urgent (news_in past i) in
    let allowed : is_allowed now b ≡ true = ap (λ (o : Option ℕ). nat_lt 0 b.left || is_quiet_for 10000 now o) last ∙ ap (λ (q : Bool). nat_lt 0 b.left || q) (quiet_then now t far) ∙ any_way (nat_lt 0 b.left) in
    ap (λ (q : Bool). q && (is_some (news_of (news_in past i)) && ((urgent || is_allowed now b) && not (is_to_be_booted net s past now i)))) listed
    ∙ ap (λ (q : Bool). q && ((urgent || is_allowed now b) && not (is_to_be_booted net s past now i))) news
    ∙ ap (λ (q : Bool). (urgent || q) && not (is_to_be_booted net s past now i)) allowed
    ∙ ap (λ (q : Bool). q && not (is_to_be_booted net s past now i)) (any_way urgent)
    ∙ ap not booted

-- ---- told at once

-- what is to be told, where a boot-up message waits
first_told : (left : Bool) (rest : Option ℕ) → left ≡ true → unwrap_or (if left then Some 0 else rest) 0 ≡ 0
first_told true rest is = refl
first_told false rest is = false_true is

at_once : (listed left rests allowed booted : Bool) (rest : Option ℕ) → listed ≡ true → left ≡ true → rests ≡ true → booted ≡ false
    → (listed && (is_some (if left then Some 0 else rest) && (((left && rests) || allowed) && not booted))) ≡ true
at_once listed left rests allowed booted rest a b c d = rw (a, b, c, d) refl

none_of_four : (a b c left free : Bool) → left ≡ true → (a && (b && (c && (not left && free)))) ≡ false
none_of_four a b c left free is =
    ap (λ (q : Bool). a && (b && (c && (not q && free)))) is
    ∙ ap (λ (q : Bool). a && (b && q)) (and-false c)
    ∙ ap (λ (q : Bool). a && q) (and-false b)
    ∙ and-false a

pub told_at_once : IsToldAtOnce
told_at_once net s past now i listed left rests =
    let idle : is_to_be_booted net s past now i ≡ false = none_of_four (takes_boots (phase_in net past)) (not (is_stopped_in past) || is_asked_in past i) (is_listed net i) (is_boot_up_left past i)
    (is_free now (schedule_in net s past i) (is_busy_in past i) (is_held_in past i) (budget_in net s past i)) left in (
      at_once (is_listed net i) (is_boot_up_left past i) (rests_in past i) (is_allowed now (budget_in net s past i)) (is_to_be_booted net s past now i) _ listed left rests idle,
      ap (step.Signal i) (first_told (is_boot_up_left past i) _ left),
    )

-- ---- each boot-up message that ends something has a boot or a report of its own

abbrev weight : Bool → ℕ
weight true = 1
weight false = 0

called_step : (begun up rests : Bool) (ended count : ℕ) → ended + weight rests ≤ count
    → (if rests && false then ended + 1 else ended) + weight (unwrap_or (if begun then Some true else (if up then Some false else None)) rests)
    ≤ (if begun then count + 1 else count)
called_step true up true ended count before = omega (arith, before)
called_step true up false ended count before = omega (arith, before)
called_step false true true ended count before = omega (arith, before)
called_step false true false ended count before = omega (arith, before)
called_step false false true ended count before = before
called_step false false false ended count before = before

signal_step : (up rests : Bool) (ended count : ℕ) → ended + weight rests ≤ count
    → (if rests && up then ended + 1 else ended) + weight (unwrap_or (if up then Some false else None) rests) ≤ count
signal_step true true ended count before = omega (arith, before)
signal_step true false ended count before = before
signal_step false true ended count before = before
signal_step false false ended count before = before

other_step : (rests : Bool) (ended count : ℕ) → ended + weight rests ≤ count → (if rests && false then ended + 1 else ended) + weight rests ≤ count
other_step true ended count before = before
other_step false ended count before = before

moment_step : (m : Moment) (i : ℕ) (rests : Bool) (ended count : ℕ) → ended + weight rests ≤ count
    → (if rests && is_boot_up_told m i then ended + 1 else ended) + weight (unwrap_or (rests_by m i) rests)
    ≤ (if is_begun_or_booted m i then count + 1 else count)
moment_step (moment.Happened (happening.Called e)) i rests ended count before =
    called_step (is_some (begins_by e.call e.reply i) || boots_by e.call e.reply i) (tells_boot_up e.call e.reply i) rests ended count before
moment_step (moment.Happened (happening.Heard j b)) i rests ended count before = other_step rests ended count before
moment_step (moment.Happened (happening.Ended j)) i rests ended count before = other_step rests ended count before
moment_step (moment.Happened (happening.Asked j)) i rests ended count before = other_step rests ended count before
moment_step (moment.Happened (happening.Ends at)) i rests ended count before = other_step rests ended count before
moment_step (moment.Gave (step.Lost j)) i rests ended count before = other_step rests ended count before
moment_step (moment.Gave (step.Boot j)) i rests ended count before = other_step rests ended count before
moment_step (moment.Gave (step.Wake j)) i rests ended count before = other_step rests ended count before
moment_step (moment.Gave (step.Signal j b)) i rests ended count before = signal_step (j == i && b % 128 == 0) rests ended count before
moment_step (moment.Gave (step.LeftOut j n)) i rests ended count before = other_step rests ended count before
moment_step (moment.Gave (step.TimeOver ms)) i rests ended count before = other_step rests ended count before
moment_step (moment.Gave (step.AllTried ms)) i rests ended count before = other_step rests ended count before
moment_step (moment.Gave (step.Beat b)) i rests ended count before = other_step rests ended count before
moment_step (moment.Gave (step.Guard j)) i rests ended count before = other_step rests ended count before
moment_step (moment.Gave step.End) i rests ended count before = other_step rests ended count before

ended_below : (past : Past) (i : ℕ) → ended_in past i + weight (rests_in past i) ≤ begun_or_booted_in past i
ended_below [] i = omega arith
ended_below (x ∷ past) i = moment_step x.1 i (rests_in past i) (ended_in past i) (begun_or_booted_in past i) (ended_below past i)

pub ended_once : IsEndedOnce
ended_once past i = let below = ended_below past i in omega (arith, below)

-- ---- what a turn gives is limited

eqb_same : (a i : ℕ) → (a == i) ≡ true → a ≡ i
eqb_same a i e = grind (arith, common_steps)

module _ (net : Network) (s : Settings) (now : ℕ) where
  -- what is kept of when i is booted, of what it caused, and of what rests on it is the same in both pasts
  abbrev Same : Past → Past → ℕ → Type 0
  Same later past i =
      (schedule_in net s later i ≡ schedule_in net s past i) × (budget_in net s later i ≡ budget_in net s past i) × (rests_in later i ≡ rests_in past i)

  module _ (f : ℕ → Step) (touches : ℕ → ℕ → Bool) (only : (x i : ℕ) → touches x i ≡ true → x ≡ i)
      (spends_not : (x i : ℕ) (q : Bool) (k : Schedule) → touches x i ≡ false → spends (moment.Gave (f x)) q k i ≡ false)
      (causes_none : (x i : ℕ) → touches x i ≡ false → cause_by (moment.Gave (f x)) i ≡ None)
      (rests_none : (x i : ℕ) → touches x i ≡ false → rests_by (moment.Gave (f x)) i ≡ None) where
    other_same : (x i : ℕ) (later : Past) → touches x i ≡ false → Same ((now, moment.Gave (f x)) ∷ later) later i
    other_same x i later not_it = (
      ap (λ c. schedule_after net s now i c (schedule_in net s later i)) (causes_none x i not_it),
      ap (λ (b : Bool). if b then spent now (budget_in net s later i) else budget_in net s later i) (spends_not x i (rests_in later i) (schedule_in net s later i) not_it),
      ap (λ (o : Option Bool). unwrap_or o (rests_in later i)) (rests_none x i not_it),
    )

    choose : (Q : Past → Type 0) (b : Bool) (a : ℕ) (rest : List ℕ) (later : Past)
        → (b ≡ true → Q (given now (map f rest) ((now, moment.Gave (f a)) ∷ later))) → (b ≡ false → Q (given now (map f rest) later))
        → Q (given now (map f (cond b (a ∷ rest) rest)) later)
    choose Q true a rest later gave left_out = gave refl
    choose Q false a rest later gave left_out = left_out refl

    -- steps that don't touch i
    untouched : (p : ℕ → Bool) (i : ℕ) → ((x : ℕ) → p x ≡ true → touches x i ≡ false) → (a n : ℕ) (later : Past)
        → Same (given now (map f (filter p (range_with_len a n))) later) later i
    untouched p i none a zero later = (refl, refl, refl)
    untouched p i none a (suc n) later =
        choose (λ (past : Past). Same past later i) (p a) a (filter p (range_with_len (a + 1) n)) later
        (λ chose.
        let rest = untouched p i none (a + 1) n ((now, moment.Gave (f a)) ∷ later) in
        let here = other_same a i later (none a chose) in
        (rest.0 ∙ here.0, rest.1 ∙ here.1, rest.2 ∙ here.2))
        (λ left_out. untouched p i none (a + 1) n later)

    apart : (x j : ℕ) (b : Bool) → touches x j ≡ b → x ≢ j → touches x j ≡ false
    apart x j true is other = absurd (other (only x j is))
    apart x j false is other = is

    -- a step that touches i is allowed
    here_allowed : (base later : Past) (a i : ℕ) (b : Bool) → touches a i ≡ b → Same later base a
        → (spends (moment.Gave (f a)) (rests_in base a) (schedule_in net s base a) a ≡ true → is_allowed now (budget_in net s base a) ≡ true)
        → spends (moment.Gave (f a)) (rests_in later i) (schedule_in net s later i) i ≡ true → is_allowed now (budget_in net s later i) ≡ true
    here_allowed base later a i true is same allowed spent_it =
        let at : a ≡ i = only a i is in
        let own = subst (λ (k : ℕ). spends (moment.Gave (f a)) (rests_in later k) (schedule_in net s later k) k ≡ true) (sym at) spent_it in
        let resting = subst (λ (q : Bool). spends (moment.Gave (f a)) q (schedule_in net s later a) a ≡ true) same.2 own in
        let known = subst (λ (k : Schedule). spends (moment.Gave (f a)) (rests_in base a) k a ≡ true) same.0 resting in
        subst (λ (k : ℕ). is_allowed now (budget_in net s later k) ≡ true) at
        (subst (λ (b : Budget). is_allowed now b ≡ true) (sym same.1) (allowed known))
    here_allowed base later a i false is same allowed spent_it = false_true (sym (spends_not a i (rests_in later i) (schedule_in net s later i) is) ∙ spent_it)

    all_limited : (p : ℕ → Bool) (base : Past)
        → ((j : ℕ) → p j ≡ true → spends (moment.Gave (f j)) (rests_in base j) (schedule_in net s base j) j ≡ true → is_allowed now (budget_in net s base j) ≡ true)
        → (a n : ℕ) (later : Past) (i : ℕ) → ((j : ℕ) → a ≤ j → Same later base j) → AreLimited net s later i
        → AreLimited net s (given now (map f (filter p (range_with_len a n))) later) i
    all_limited p base allowed a zero later i same limited = limited
    all_limited p base allowed a (suc n) later i same limited =
        choose (λ (past : Past). AreLimited net s past i) (p a) a (filter p (range_with_len (a + 1) n)) later
        (λ chose. all_limited p base allowed (a + 1) n ((now, moment.Gave (f a)) ∷ later) i
        (λ j high.
        let other : a ≢ j = omega arith in
        let passed = other_same a j later (apart a j (touches a j) refl other) in
        let before = same j (omega arith) in
        (passed.0 ∙ before.0, passed.1 ∙ before.1, passed.2 ∙ before.2))
        (here_allowed base later a i (touches a i) refl (same a (omega arith)) (allowed a chose), limited))
        (λ left_out. all_limited p base allowed (a + 1) n later i (λ j high. same j (omega arith)) limited)

  -- ---- losses, boots, signals

  abbrev touch_none : ℕ → ℕ → Bool
  touch_none x i = false

  -- steps that touch nobody
  quiet_same : (f : ℕ → Step) → ((x i : ℕ) (q : Bool) (k : Schedule) → spends (moment.Gave (f x)) q k i ≡ false) → ((x i : ℕ) → cause_by (moment.Gave (f x)) i ≡ None)
      → ((x i : ℕ) → rests_by (moment.Gave (f x)) i ≡ None) → (p : ℕ → Bool) (past : Past) (i : ℕ) → Same (given now (map f (filter p (range_with_len 1 127))) past) past i
  quiet_same f free idle still p past i = untouched f touch_none (λ x i e. false_true e) (λ x i q k e. free x i q k) (λ x i e. idle x i) (λ x i e. still x i) p i (λ x chose. refl) 1 127 past

  quiet_limited : (f : ℕ → Step) → ((x i : ℕ) (q : Bool) (k : Schedule) → spends (moment.Gave (f x)) q k i ≡ false) → ((x i : ℕ) → cause_by (moment.Gave (f x)) i ≡ None)
      → ((x i : ℕ) → rests_by (moment.Gave (f x)) i ≡ None) → (p : ℕ → Bool) (past : Past) (i : ℕ) → AreLimited net s past i → AreLimited net s (given now (map f (filter p (range_with_len 1 127))) past) i
  quiet_limited f free idle still p past i =
      all_limited f touch_none (λ x i e. false_true e) (λ x i q k e. free x i q k) (λ x i e. idle x i) (λ x i e. still x i) p past
      (λ j chose e. false_true (sym (free j j (rests_in past j) (schedule_in net s past j)) ∙ e)) 1 127 past i (λ j high. (refl, refl, refl))

  boot_spends : (past : Past) (x i : ℕ) (q : Bool) (k : Schedule) → (x == i) ≡ false → spends (moment.Gave (boot_of net past x)) q k i ≡ false
  boot_spends past x i q k e = elim (stands_stopped net past x) as (λ w. spends (moment.Gave (if w then step.Wake x else step.Boot x)) q k i ≡ false) [
    | true ↦ refl
    | false ↦ ap (λ (b : Bool). b && is_own k.due) e
  ]

  boot_rests : (past : Past) (x i : ℕ) → (x == i) ≡ false → rests_by (moment.Gave (boot_of net past x)) i ≡ None
  boot_rests past x i e = elim (stands_stopped net past x) as (λ w. rests_by (moment.Gave (if w then step.Wake x else step.Boot x)) i ≡ None) [
    | true ↦ refl
    | false ↦ refl
  ]

  boot_causes : (past : Past) (x i : ℕ) → (x == i) ≡ false → cause_by (moment.Gave (boot_of net past x)) i ≡ None
  boot_causes past x i e = elim (stands_stopped net past x) as (λ w. cause_by (moment.Gave (if w then step.Wake x else step.Boot x)) i ≡ None) [
    | true ↦ ap (λ (b : Bool). if b then Some cause.Woken else None) e
    | false ↦ ap (λ (b : Bool). if b then Some cause.Dropped else None) e
  ]

  -- a slave that is woken causes nothing by itself
  own_boot : (past : Past) (j : ℕ) (q : Bool) (k : Schedule) → spends (moment.Gave (boot_of net past j)) q k j ≡ true → is_own k.due ≡ true
  own_boot past j q k = elim (stands_stopped net past j) as (λ w. spends (moment.Gave (if w then step.Wake j else step.Boot j)) q k j ≡ true → is_own k.due ≡ true) [
    | true ↦ λ e. false_true e
    | false ↦ λ e. and_right (j == j) (is_own k.due) e
  ]

  -- a boot that the slave itself causes is allowed
  free_allowed : (own allowed : Bool) → (not own || allowed) ≡ true → own ≡ true → allowed ≡ true
  free_allowed true allowed is own = is
  free_allowed false allowed is own = false_true own

  boot_allowed : (past : Past) (j : ℕ) → is_to_be_booted net s past now j ≡ true → spends (moment.Gave (boot_of net past j)) (rests_in past j) (schedule_in net s past j) j ≡ true → is_allowed now (budget_in net s past j) ≡ true
  boot_allowed past j booted spent_it =
      let k = schedule_in net s past j in
      let b = budget_in net s past j in
      let busy = is_busy_in past j in
      let held = is_held_in past j in
      let told = not (is_boot_up_left past j) in
      let free : is_free now k busy held b ≡ true =
      and_right told (is_free now k busy held b)
      (and_right (is_listed net j) (told && is_free now k busy held b)
      (and_right (not (is_stopped_in past) || is_asked_in past j) (is_listed net j && (told && is_free now k busy held b))
      (and_right (takes_boots (phase_in net past)) ((not (is_stopped_in past) || is_asked_in past j) && (is_listed net j && (told && is_free now k busy held b))) booted))) in
      let may : (not (is_own k.due) || is_allowed now b) ≡ true =
      and_right (not held) (not (is_own k.due) || is_allowed now b)
      (and_right (not busy) (not held && (not (is_own k.due) || is_allowed now b))
      (and_right (is_due now k.due) (not busy && (not held && (not (is_own k.due) || is_allowed now b))) free)) in
      free_allowed (is_own k.due) (is_allowed now b) may (own_boot past j (rests_in past j) k spent_it)

  boots_limited : (past later : Past) (i : ℕ) → ((j : ℕ) → Same later past j) → AreLimited net s later i → AreLimited net s (given now (map (boot_of net past) (filter (is_to_be_booted net s past now) (range_with_len 1 127))) later) i
  boots_limited past later i same limited =
      all_limited (boot_of net past) (λ x j. x == j) eqb_same (boot_spends past) (boot_causes past) (boot_rests past) (is_to_be_booted net s past now) past (boot_allowed past) 1 127 later i (λ j high. same j) limited

  not_booted : (past : Past) (i : ℕ) → is_to_be_booted net s past now i ≡ false → (x : ℕ) → is_to_be_booted net s past now x ≡ true → (x == i) ≡ false
  not_booted past i idle x booted = by_case (x == i) refl
    where
      by_case : (b : Bool) → (x == i) ≡ b → (x == i) ≡ false
      by_case true e = false_true (sym idle ∙ ap (λ (k : ℕ). is_to_be_booted net s past now k) (sym (eqb_same x i e)) ∙ booted)
      by_case false e = e

  no_is_false : (b : Bool) → not b ≡ true → b ≡ false
  no_is_false true e = false_true e
  no_is_false false e = refl

  abbrev byte_of : Past → ℕ → ℕ
  byte_of past i = unwrap_or (news_of (news_in past i)) 0

  -- a signal that is counted isn't urgent
  not_urgent : (left rests : Bool) (rest : Option ℕ) → not (rests && unwrap_or (if left then Some 0 else rest) 0 % 128 == 0) ≡ true → (left && rests) ≡ false
  not_urgent true true rest paid = false_true paid
  not_urgent true false rest paid = refl
  not_urgent false rests rest paid = refl

  other_way : (urgent allowed : Bool) → urgent ≡ false → (urgent || allowed) ≡ true → allowed ≡ true
  other_way true allowed usual may = false_true (sym usual)
  other_way false allowed usual may = may

  signals_limited : (past later : Past) (i : ℕ) → ((j : ℕ) → is_to_be_booted net s past now j ≡ false → Same later past j) → AreLimited net s later i
      → AreLimited net s (given now (map (signal_of past) (filter (is_to_be_told net s past now) (range_with_len 1 127))) later) i
  signals_limited past later i same limited =
      all_limited (signal_of past) (λ x j. x == j) eqb_same (λ x j q k e. ap (λ (b : Bool). b && not (q && byte_of past x % 128 == 0)) e)
      (λ x j e. refl) (λ x j e. ap (λ (b : Bool). if b && byte_of past x % 128 == 0 then Some false else None) e) (is_to_be_told net s past now) later
      (λ j told spent_it.
      let booted = is_to_be_booted net s past now j in
      let news = news_in past j in
      let may = is_urgent news || is_allowed now (budget_in net s past j) in
      let both : (may && not booted) ≡ true =
      and_right (is_some (news_of news)) (may && not booted) (and_right (is_listed net j) (is_some (news_of news) && (may && not booted)) told) in
      let here = same j (no_is_false booted (and_right may (not booted) both)) in
      let paid : not (rests_in past j && byte_of past j % 128 == 0) ≡ true =
      subst (λ (q : Bool). not (q && byte_of past j % 128 == 0) ≡ true) here.2 (and_right (j == j) (not (rests_in later j && byte_of past j % 128 == 0)) spent_it) in
      let usual : is_urgent news ≡ false = not_urgent (is_boot_up_left past j) (rests_in past j) _ paid in
      subst (λ (b : Budget). is_allowed now b ≡ true) (sym here.1) (other_way (is_urgent news) (is_allowed now (budget_in net s past j)) usual (and_left may (not booted) both)))
      1 127 later i (λ j high. (refl, refl, refl)) limited

  -- the time
  time_limited : (b : Bool) (x : Step) (later : Past) (i : ℕ) → ((q : Bool) (k : Schedule) → spends (moment.Gave x) q k i ≡ false) → AreLimited net s later i → AreLimited net s (given now (step_if b x) later) i
  time_limited true x later i free limited = (λ e. false_true (sym (free (rests_in later i) (schedule_in net s later i)) ∙ e), limited)
  time_limited false x later i free limited = limited

  -- the steps of a turn
  pub steps_limited : (past : Past) (i : ℕ) → AreLimited net s past i → AreLimited net s (given now (steps_at net s past now) past) i
  steps_limited past i limited =
      let ids = range_with_len 1 127 in
      let losses = map step.Lost (filter (is_late net past now) ids) in
      let boots = map (boot_of net past) (filter (is_to_be_booted net s past now) ids) in
      let counts = map (left_out_of past) (filter (is_left_out net s past now) ids) in
      let signals = map (signal_of past) (filter (is_to_be_told net s past now) ids) in
      let over = step_if (is_time_over net past now) (step.TimeOver (elapsed_at past now)) in
      let ended = step_if (is_end net past) (step.AllTried (elapsed_at past now)) in
      let closed = step_if (is_run_over past now) step.End in
      let lost = given now losses past in
      let booted = given now boots lost in
      let counted = given now counts booted in
      let told = given now signals counted in
      let timed = given now ended (given now over told) in
      let lost_is : (j : ℕ) → Same lost past j = λ j. quiet_same step.Lost (λ x i q k. refl) (λ x i. refl) (λ x i. refl) (is_late net past now) past j in
      let counted_is : (j : ℕ) → is_to_be_booted net s past now j ≡ false → Same counted past j = λ j idle.
      let here = quiet_same (left_out_of past) (λ x i q k. refl) (λ x i. refl) (λ x i. refl) (is_left_out net s past now) booted j in
      let same = untouched (boot_of net past) (λ x k. x == k) eqb_same (boot_spends past) (boot_causes past) (boot_rests past) (is_to_be_booted net s past now) j (not_booted past j idle) 1 127 lost in
      (here.0 ∙ (same.0 ∙ (lost_is j).0), here.1 ∙ (same.1 ∙ (lost_is j).1), here.2 ∙ (same.2 ∙ (lost_is j).2)) in
      let all = time_limited (is_run_over past now) step.End timed i (λ q k. refl)
      (time_limited (is_end net past) (step.AllTried (elapsed_at past now)) (given now over told) i (λ q k. refl)
      (time_limited (is_time_over net past now) (step.TimeOver (elapsed_at past now)) told i (λ q k. refl)
      (signals_limited past counted i counted_is
      (quiet_limited (left_out_of past) (λ x i q k. refl) (λ x i. refl) (λ x i. refl) (is_left_out net s past now) booted i
      (boots_limited past lost i lost_is
      (quiet_limited step.Lost (λ x i q k. refl) (λ x i. refl) (λ x i. refl) (is_late net past now) past i limited)))))) in
      let path : given now (losses ++ boots ++ counts ++ signals ++ over ++ ended ++ closed) past ≡ given now closed timed =
      given-append now (losses ++ boots ++ counts ++ signals ++ over ++ ended) closed past
      ∙ ap (given now closed) (given-append now (losses ++ boots ++ counts ++ signals ++ over) ended past
      ∙ ap (given now ended) (given-append now (losses ++ boots ++ counts ++ signals) over past
      ∙ ap (given now over) (given-append now (losses ++ boots ++ counts) signals past
      ∙ ap (given now signals) (given-append now (losses ++ boots) counts past
      ∙ ap (given now counts) (given-append now losses boots past))))) in
      let here : AreLimited net s (given now (losses ++ boots ++ counts ++ signals ++ over ++ ended ++ closed) past) i =
      subst (λ (ps : Past). AreLimited net s ps i) (sym path) all in
      subst (λ (nodes : List ℕ). AreLimited net s (given now (map step.Lost (filter (is_late net past now) nodes) ++ map (boot_of net past) (filter (is_to_be_booted net s past now) nodes)
      ++ map (left_out_of past) (filter (is_left_out net s past now) nodes)
      ++ map (signal_of past) (filter (is_to_be_told net s past now) nodes) ++ over ++ ended ++ closed) past) i) (sym unfold_ids) here
