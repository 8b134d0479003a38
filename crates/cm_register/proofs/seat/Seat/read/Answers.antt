use Rattle.std.proofs.Common.{◌≡◌, ℕ, List, length, take, drop, sym, ap, subst, ◌∙◌}
use mathlib.Core.List.{IsPrefix}
use Rattle.cm_history.specs.declared.call.Entry.{Entry}
use Rattle.cm_register.specs.Knowing.{IsKnowing, told_by}
use Rattle.cm_register.specs.Reads.{AllBegin}
use Rattle.cm_register.specs.SeatCalls.{calls_of}
use Rattle.cm_register.proofs.Knowing.{calls_in_longer, is_known, knowing_read}
use Rattle.cm_register.proofs.Takes.{drop_whole, take_all}
use Rattle.cm_register.proofs.seat.Seat.read.Goals as goal

pub invariant_of-self : goal.invariant_of-self
invariant_of-self g c =
    let s = c.self.inside in
    let past = c.in-Some-look.look.past in
    let calls : c.len-self-inside.result ≡ length s.list.items = c.len-self-inside.ensures ∙ s.list.ok.0 in
    let knowing = knowing_read s.number s.list.items s.known s.viewed s.called c.self.invariant.5 past c.in-Some-look.ensures.later in (
      c.self.invariant.0,
      c.self.invariant.1,
      c.self.invariant.2,
      c.self.invariant.3,
      c.self.invariant.4,
      subst (λ (n : ℕ). IsKnowing s.number s.list.items past n c.len-self-inside.result) (sym c.len-count.ensures)
          (subst (λ (n : ℕ). IsKnowing s.number s.list.items past (length past) n) (sym calls) knowing),
    )

pub returns-clause-view : goal.returns-clause-view
returns-clause-view g c =
    let s = c.self.inside in
    let past = c.in-Some-look.look.past in
    let known = is_known s.number s.list.items s.known s.viewed s.called c.self.invariant.5 past c.in-Some-look.ensures.later 0 s.share.amount in
    rw (← c.self.view_is) (subst (λ (h : List Entry). IsPrefix (take s.viewed s.known) h) (sym (take_all past c.len-count.result c.len-count.ensures)) known.0)

pub returns-clause-told : goal.returns-clause-told
returns-clause-told g c =
    let s = c.self.inside in
    let past = c.in-Some-look.look.past in
    let calls : c.len-self-inside.result ≡ length s.list.items = c.len-self-inside.ensures ∙ s.list.ok.0 in
    let known = is_known s.number s.list.items s.known s.viewed s.called c.self.invariant.5 past c.in-Some-look.ensures.later 0 s.share.amount in (
      rw (← c.self.view_is) (subst (λ (h : List Entry). AllBegin (told_by s.known (drop s.called s.list.items)) h) (sym (take_all past c.len-count.result c.len-count.ensures)) known.1),
      ap (λ (n : ℕ). told_by past (drop n s.list.items)) calls ∙ ap (told_by past) (drop_whole s.list.items),
    )

pub returns-clause-stand : goal.returns-clause-stand
returns-clause-stand g c =
    let s = c.self.inside in
    let past = c.in-Some-look.look.past in
    subst (λ (h : List Entry). IsPrefix s.list.items (calls_of h s.number)) (sym (take_all past c.len-count.result c.len-count.ensures))
    (calls_in_longer s.number s.list.items s.known s.viewed s.called c.self.invariant.5 past c.in-Some-look.ensures.later)
