-- What the check of a network list does (JSON: RFC 8259, own format).
use Rattle.std.specs.Prelude.{◌≡◌, ◌⊎◌, ◌++◌, ℕ, List, [], ◌∷◌, Option, codes, decimal, length}
use Rattle.std.specs.List.{filter}
use Rattle.std.specs.Io.KnownBytes.{Appends}
use Rattle.cm_text.specs.Words.{line}
use Rattle.cm_netlist.specs.Network.{Network, listed_ids, is_mandatory, is_kept}
use Rattle.cm_netlist.specs.ListsRead.{IsFaultyText, IsList}
use Rattle.cm_report.specs.declared.report_form.ReportForm.{ReportForm}
use Rattle.cm_report.specs.declared.report_form.ReportForm.TheVariants as forms

-- the mandatory slaves (CiA 302-2, 1F81h bit 3), in rising order
abbrev pub mandatory_ids : Network → List ℕ
mandatory_ids net = filter (is_mandatory net) (listed_ids net)

-- the slaves that are kept alive (CiA 302-2, 1F81h bit 4), in rising order
abbrev pub kept_ids : Network → List ℕ
kept_ids net = filter (is_kept net) (listed_ids net)

-- how many slaves are listed, how many of them are mandatory, and how many are kept alive: a line (own)
abbrev pub counts_line : ℕ → ℕ → ℕ → List ℕ
counts_line slaves mandatory kept =
    line
    (codes "ok"
    ∷ codes "slaves"
    ∷ decimal slaves
    ∷ codes "mandatory"
    ∷ decimal mandatory
    ∷ codes "kept"
    ∷ decimal kept
    ∷ [])

-- those numbers: an object in one line
abbrev pub counts_json : ℕ → ℕ → ℕ → List ℕ
counts_json slaves mandatory kept =
    codes "{\"slaves\":"
    ++ (decimal slaves ++ (codes ",\"mandatory\":" ++ (decimal mandatory ++ (codes ",\"kept\":" ++ (decimal kept ++ codes "}\n")))))

-- those numbers in this form
abbrev pub counts_in : ReportForm → ℕ → ℕ → ℕ → List ℕ
counts_in forms.Text = counts_line
counts_in forms.Json = counts_json

-- those of a network list
abbrev pub check_in : ReportForm → Network → List ℕ
check_in form net = counts_in form (length (listed_ids net)) (length (mandatory_ids net)) (length (kept_ids net))

-- as a line
abbrev pub check_line : Network → List ℕ
check_line net = counts_line (length (listed_ids net)) (length (mandatory_ids net)) (length (kept_ids net))

-- the input was read to its end, and just what is printed in this form of the network list that its bytes say was written
pub record ChecksIn (form : ReportForm) (input input' output output' : Option (List ℕ)) : Type 0 where
  pub net : Network
  pub list : IsList input input' net
  pub written : Appends output output' (check_in form net)

-- the line of the list
abbrev pub Checks : Option (List ℕ) → Option (List ℕ) → Option (List ℕ) → Option (List ℕ) → Type 0
Checks = ChecksIn forms.Text

-- its object
abbrev pub ChecksAsJson : Option (List ℕ) → Option (List ℕ) → Option (List ℕ) → Option (List ℕ) → Type 0
ChecksAsJson = ChecksIn forms.Json

-- the input was read to its end, a fault applies to its bytes, and nothing was written
pub record RefusesList (input input' output output' : Option (List ℕ)) : Type 0 where
  pub text : IsFaultyText input input'
  pub kept : output' ≡ output

-- nothing was written, or the line of a network list was to be written
abbrev pub FailsToCheck : Option (List ℕ) → Option (List ℕ) → Option (List ℕ) → Option (List ℕ) → Type 0
FailsToCheck input input' output output' = (output' ≡ output) ⊎ ((net : Network) × IsList input input' net)
