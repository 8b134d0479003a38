use Rattle.std.proofs.Common.{refl, arith}
use Rattle.std.proofs.lemmas.Grind.{common_steps}
use Rattle.cm_telling.proofs.Waits.{kept_next, told_first, told_none}
use Rattle.cm_telling.proofs.waiting.Waiting.next_handed.Goals as goal

pub returns-in_ok-untold-clause-told : goal.returns-in_ok-untold-clause-told
returns-in_ok-untold-clause-told g c =
    let told = told_first c.args.self.now.untold.items c.pop_front.new.self.items c.in_ok-untold.untold c.in-Some.first.now c.args.handed c.args.is_end c.in_ok-untold.ensures.items c.in-Some.ensures.lookup c.if-is_end.either in
    told.0

pub returns-in_ok-untold-clause-tells : goal.returns-in_ok-untold-clause-tells
returns-in_ok-untold-clause-tells g c = λ arrived given said counts t. record {
  order = t.order;
  kept = kept_next c.args.self.now (record { order = c.args.self.now.order; untold = c.pop_front.new.self; frames = c.args.self.now.frames }) said given counts c.in_ok-untold.untold t.kept
      c.in_ok-untold.ensures.items refl;
}

pub returns-in_ok-untold-clause-left : goal.returns-in_ok-untold-clause-left
returns-in_ok-untold-clause-left g c =
    let told = told_first c.args.self.now.untold.items c.pop_front.new.self.items c.in_ok-untold.untold c.in-Some.first.now c.args.handed c.args.is_end c.in_ok-untold.ensures.items c.in-Some.ensures.lookup c.if-is_end.either in
    told.1

pub returns-else-is_end-clause-told : goal.returns-else-is_end-clause-told
returns-else-is_end-clause-told g c =
    let none = told_none c.args.self.now.untold.items c.in-Some.first.now c.args.handed c.args.is_end (grind (arith, common_steps, c.in-Some.ensures.item)) c.in-Some.ensures.lookup c.if-is_end.false in
    none.0

pub returns-else-is_end-clause-left : goal.returns-else-is_end-clause-left
returns-else-is_end-clause-left g c =
    let none = told_none c.args.self.now.untold.items c.in-Some.first.now c.args.handed c.args.is_end (grind (arith, common_steps, c.in-Some.ensures.item)) c.in-Some.ensures.lookup c.if-is_end.false in
    none.1
