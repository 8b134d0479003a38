use Rattle.std.proofs.Common.{◌∙◌, sym, subst}
use Rattle.canboot_turns.specs.Going.{Follows}
use Rattle.canboot_turns.proofs.progress.LiveCourse.tell.Goals as goal

pub loop-preserved : goal.loop-preserved
loop-preserved g c =
    let was = c.loop.invariant in
    record {
      follows = λ s past f.
          subst (λ n. Follows c.tell_next.new.self.progress n.now s past) was.network
          (c.tell_next.ensures.follows s past (subst (λ n. Follows c.loop.self.progress n.now s past) (sym was.network) (was.follows s past f)));
      network = c.tell_next.ensures.network ∙ was.network;
    }
