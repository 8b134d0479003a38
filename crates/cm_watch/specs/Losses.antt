-- A slave is given as lost once, until it is booted again (own).
use Rattle.std.specs.Prelude.{◌≡◌, ℕ, false, Bool, [], ◌∷◌, ◌++◌}
use Rattle.cm_history.specs.History.{boots}
use Rattle.cm_netlist.specs.Network.{Network}
use Rattle.cm_watched.specs.Pasts.{Past}
use Rattle.cm_watch.specs.Steps.{is_late}
use Rattle.cm_watched.specs.declared.happening.Happening.TheVariants as happening
use Rattle.cm_watched.specs.declared.happening.Moment.{Moment}
use Rattle.cm_watched.specs.declared.happening.Moment.TheVariants as moment
use Rattle.cm_watched.specs.declared.happening.Step.TheVariants as step

-- a report that boots i
abbrev pub is_boot_of : Moment → ℕ → Bool
is_boot_of (moment.Happened (happening.Called e)) i = boots e i
is_boot_of _ i = false

-- none of these boots i
abbrev pub NoneBoots : Past → ℕ → Type 0
NoneBoots [] i = Unit {0}
NoneBoots (x ∷ past) i = (is_boot_of x.1 i ≡ false) × NoneBoots past i

-- the law: behind a step that gave i as lost none does, until a report boots it
abbrev pub IsLostOnce : Type 0
IsLostOnce =
    (net : Network) (newer past : Past) (t now i : ℕ) → NoneBoots newer i
    → is_late net (newer ++ (t, moment.Gave (step.Lost i)) ∷ past) now i ≡ false
