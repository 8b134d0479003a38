-- A moment that is about one node changes nothing of what is kept of the others.
use Rattle.std.proofs.Common.{◌≡◌, ◌≢◌, ◌∙◌, ℕ, ◌==◌, ◌&&◌, ◌||◌, Bool, true, false, Option, Some, None, option_map, ap, refl, sym, subst, arith}
use Rattle.std.proofs.lemmas.Grind.{common_steps}
use Rattle.std.specs.Bool.{if◌then◌else◌}
use Rattle.std.proofs.Math.Bool.{and-false}
use Rattle.std.proofs.lemmas.Bool.{ne_eqb}
use Rattle.std.proofs.lemmas.Option.{none-some, same_Some}
use Rattle.cm_history.specs.Answering.{named_by, node_at}
use Rattle.cm_history.specs.History.{begun_number, is_boot_again, is_good_report, is_granted, is_handled, is_noted, is_reset_value, only_if, reported, signalled, state_reported}
use Rattle.cm_history.specs.Orders.{is_all, is_node, is_reset_all, is_reset_node, is_start_of, to_all}
use Rattle.cm_history.specs.declared.call.Call.{Call}
use Rattle.cm_history.specs.declared.call.Call.TheVariants as call
use Rattle.cm_history.specs.declared.call.Orders.{Orders}
use Rattle.cm_history.specs.declared.call.Orders.TheVariants as orders
use Rattle.cm_history.specs.declared.call.Reply.{Reply}
use Rattle.cm_netlist.specs.Network.{Network}
use Rattle.cm_nmt.specs.declared.frame.Target.{Target}
use Rattle.cm_nmt.specs.declared.frame.Target.TheVariants as target
use Rattle.cm_watch.specs.Kept.{about, if_only, reaches_only}
use Rattle.cm_watched.specs.KeptOfSlaves.{slave_after}
use Rattle.cm_watched.specs.Signals.{is_sent}
use Rattle.cm_watched.specs.Waking.{command_to}
use Rattle.cm_watched.specs.declared.happening.Happening.TheVariants as happening
use Rattle.cm_watched.specs.declared.happening.Moment.{Moment}
use Rattle.cm_watched.specs.declared.happening.Moment.TheVariants as moment
use Rattle.cm_watched.specs.declared.happening.Step.TheVariants as step
use Rattle.cm_watched.specs.declared.settings.Settings.{Settings}
use Rattle.cm_watched.specs.declared.slave.Slave.{Slave}

false_true : {A : Type 0} → false ≡ true → A
false_true e = absurd (cc)

-- where a choice gives a node, it is this one
chosen : (b : Bool) (n i : ℕ) → (if b then Some n else None) ≡ Some i → (b ≡ true) × (Some n ≡ Some i)
chosen true n i is = (refl, is)
chosen false n i is = absurd (none-some i is)

none_is : {A : Type 0} (x : Option A) → only_if x false ≡ None
none_is None = refl
none_is (Some x) = refl

eqb_same : (a b : ℕ) → (a == b) ≡ true → a ≡ b
eqb_same a b e = grind (arith, common_steps)

-- orders that reach one node alone command not all, don't reset all, and reach no other
alone_no_command : (o : Orders) (n : ℕ) → reaches_only o n ≡ true → to_all o ≡ None
alone_no_command orders.None n only = refl
alone_no_command (orders.One f) n only = one f.target only
  where
    one : (t : Target) → is_node t n ≡ true → (if is_all t then Some f.command else None) ≡ None
    one target.All is = absurd (cc)
    one (target.Node k) is = refl
alone_no_command orders.ResetUnkept n only = absurd (cc)

alone_not_all : (o : Orders) (n : ℕ) → reaches_only o n ≡ true → is_reset_all o ≡ false
alone_not_all orders.None n only = refl
alone_not_all (orders.One f) n only = one f.target only
  where
    one : (t : Target) → is_node t n ≡ true → (is_all t && is_reset_node f.command) ≡ false
    one target.All is = absurd (cc)
    one (target.Node k) is = refl
alone_not_all orders.ResetUnkept n only = absurd (cc)

passes_by : (net : Network) (o : Orders) (n j : ℕ) → reaches_only o n ≡ true → (n == j) ≡ false → command_to net o j ≡ None
passes_by net orders.None n j only apart = refl
passes_by net (orders.One f) n j only apart = one f.target only
  where
    one : (t : Target) → is_node t n ≡ true → (if is_all t || is_node t j then Some f.command else None) ≡ None
    one target.All is = absurd (cc)
    one (target.Node k) is = rw (ap (λ (m : ℕ). m == j) (eqb_same k n is) ∙ apart) refl
passes_by net orders.ResetUnkept n j only apart = absurd (cc)

-- a call about one node names it, and its orders reach no other
about_named : (o : Orders) (named : Option ℕ) (i : ℕ) → if_only o named ≡ Some i → (named ≡ Some i) × (reaches_only o i ≡ true)
about_named o None i is = absurd (none-some i is)
about_named o (Some n) i is =
    let both = chosen (reaches_only o n) n i is in
    (both.1, subst (λ (k : ℕ). reaches_only o k ≡ true) (same_Some n i both.1) both.0)

-- a sub-index that gives a node isn't that of all
not_every : (n i : ℕ) → node_at n ≡ Some i → (n == 128) ≡ false
not_every n i is = ne_eqb n 128 (λ every. none-some i (sym (ap node_at every) ∙ is))

module _ (net : Network) (s : Settings) (t i j : ℕ) (other : j ≢ i) (k : Slave) where
  -- a node that is i isn't j
  apart : (n : ℕ) → Some n ≡ Some i → (n == j) ≡ false
  apart n is = ne_eqb n j (λ same. other (sym same ∙ same_Some n i is))

  abbrev AfterCall : Call → Reply → Orders → ℕ → Type 0
  AfterCall c r o seat = slave_after net s t (moment.Happened (happening.Called (record { call = c; reply = r; orders = o; seat = seat }))) j k ≡ k

  -- the orders of a call about i pass j by
  passed : (o : Orders) → reaches_only o i ≡ true → command_to net o j ≡ None
  passed o only = passes_by net o i j only (apart i refl)

  call_apart : (c : Call) (r : Reply) (o : Orders) (seat : ℕ) → named_by c ≡ Some i → reaches_only o i ≡ true → AfterCall c r o seat
  call_apart call.StartNetwork r o seat is only = absurd (none-some i is)
  call_apart (call.Begin n) r o seat is only =
      rw (passed o only, alone_no_command o i only, apart n (chosen _ n i is).1, none_is (begun_number r), and-false (is_sent o)) refl
  call_apart (call.Report n x a) r o seat is only =
      rw (passed o only, alone_no_command o i only, apart n (chosen _ n i is).1, none_is (option_map (λ q. if is_start_of o j then 5 else state_reported q a) (reported r)), and-false (is_sent o), and-false (is_good_report r)) refl
  call_apart (call.Signal n b) r o seat is only =
      rw (passed o only, alone_no_command o i only, apart n (chosen _ n i is).1, none_is (signalled r b), and-false (is_sent o), and-false (is_boot_again r)) refl
  call_apart (call.Lost n) r o seat is only =
      rw (passed o only, alone_no_command o i only, apart n (chosen _ n i is).1, alone_not_all o i only, and-false (is_handled r), and-false (is_noted r || is_handled r), and-false (is_sent o)) refl
  call_apart (call.Request n v) r o seat is only =
      rw (passed o only, alone_no_command o i only, apart n (chosen _ n i is).1, not_every n i is, and-false (is_reset_value v), and-false (is_granted r), and-false (is_sent o)) refl
  call_apart (call.Read n) r o seat is only = rw (passed o only, alone_no_command o i only, and-false (is_sent o)) refl
  call_apart (call.Elapsed ms) r o seat is only = absurd (none-some i is)
  call_apart (call.Hold n) r o seat is only =
      rw (passed o only, alone_no_command o i only, apart n (chosen _ n i is).1, and-false (is_granted r), and-false (is_sent o)) refl
  call_apart (call.Release n) r o seat is only =
      rw (passed o only, alone_no_command o i only, apart n (chosen _ n i is).1, and-false (is_granted r), and-false (is_sent o)) refl

  -- what is kept of j after a moment that is about i
  pub kept_apart : (m : Moment) → about m ≡ Some i → slave_after net s t m j k ≡ k
  kept_apart (moment.Happened (happening.Heard n b)) is = rw (apart n is) refl
  kept_apart (moment.Happened (happening.Called e)) is =
      let both = about_named e.orders (named_by e.call) i is in
      call_apart e.call e.reply e.orders e.seat both.0 both.1
  kept_apart (moment.Happened (happening.Ended n)) is = rw (apart n is) refl
  kept_apart (moment.Happened (happening.Asked n)) is = rw (apart n is) refl
  kept_apart (moment.Happened (happening.Ends at)) is = absurd (none-some i is)
  kept_apart (moment.Gave (step.Lost n)) is = rw (apart n is) refl
  kept_apart (moment.Gave (step.Boot n)) is = rw (apart n is) refl
  kept_apart (moment.Gave (step.Wake n)) is = rw (apart n is) refl
  kept_apart (moment.Gave (step.Signal n b)) is = rw (apart n is) refl
  kept_apart (moment.Gave (step.LeftOut n c)) is = refl
  kept_apart (moment.Gave (step.TimeOver ms)) is = absurd (none-some i is)
  kept_apart (moment.Gave (step.AllTried ms)) is = absurd (none-some i is)
  kept_apart (moment.Gave (step.Beat b)) is = absurd (none-some i is)
  kept_apart (moment.Gave (step.Guard n)) is = rw (apart n is) refl
  kept_apart (moment.Gave step.End) is = absurd (none-some i is)
