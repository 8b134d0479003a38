use Rattle.std.proofs.Common.{refl, arith}
use Rattle.cm_growing.proofs.Prefixes.{one_longer}
use Rattle.cm_versions.proofs.next.Next.follows.Goals as goal

pub returns : goal.returns
returns g c =
    let ends = c.self.invariant in
    rw (← c.self.view_is) (
      λ yes. one_longer c.args.known.now c.self.inside.after c.longer-both.result ends.0 c.self.inside.entry c.longer-both.ensures.this c.longer-both.ensures.that
          (omega (arith, c.len-before.ensures, c.len-after.ensures, c.if-before-after.false, c.if-after-before-ne1.false)) ends.1,
      λ follows. refl,
    )
