use Rattle.std.proofs.Common.{◌≡◌, ℕ, Option, IfOk, sym, subst}
use Rattle.std.specs.Prelude.{MatchOption}
use Rattle.canboot_import.specs.Imports.{IsNodeOf}
use Rattle.canboot_import.proofs.imported.id_of.Goals as goal

pub returns-in-None : goal.returns-in-None
returns-in-None c = λ file all.
    subst (λ (id : Option ℕ). IfOk c.node_in.result (λ n. MatchOption id (IsNodeOf file n) (λ i. n ≡ i))) (sym c.in-None.is) (c.node_in.ensures file all)
