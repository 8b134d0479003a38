use Rattle.std.proofs.Common.{◌≡◌, ◌≤◌, List, length, sym, subst, arith}
use Rattle.std.proofs.lemmas.Bool.Decides.{nat_tests}
use mathlib.Core.List.{IsPrefix}
use Rattle.cm_history.specs.declared.call.Entry.{Entry}
use Rattle.cm_growing.proofs.Prefixes.{prefix_whole}
use Rattle.cm_register.proofs.Knowing.{calls_known_longer, known_longer}
use Rattle.cm_register.proofs.compare.is_known.Goals as goal

pub returns-clause-known : goal.returns-clause-known
returns-clause-known g c t =
    let h = c.args.history.now in
    let short : c.len-2.result ≤ c.len-3.result = grind (arith, nat_tests, t) in
    let less : length c.longer.result ≤ length h = omega (arith, short, c.len-2.ensures, c.len-3.ensures) in
    let whole : h ≡ c.longer.result = prefix_whole h c.longer.result c.longer.ensures.this less in
    known_longer c.known.result.now h c.args.seat.now (subst (λ (w : List Entry). IsPrefix c.known.result.now w) (sym whole) c.longer.ensures.that) c.known.ensures.known

pub returns-clause-calls : goal.returns-clause-calls
returns-clause-calls g c t =
    let h = c.args.history.now in
    let short : c.len-2.result ≤ c.len-3.result = grind (arith, nat_tests, t) in
    let less : length c.longer.result ≤ length h = omega (arith, short, c.len-2.ensures, c.len-3.ensures) in
    let whole : h ≡ c.longer.result = prefix_whole h c.longer.result c.longer.ensures.this less in
    calls_known_longer c.known.result.now h c.args.seat.now (subst (λ (w : List Entry). IsPrefix c.known.result.now w) (sym whole) c.longer.ensures.that) c.known.ensures.calls
