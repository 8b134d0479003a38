-- How the words of a command line spell what slaves do (own).
use Rattle.std.specs.Prelude.{◌≡◌, ◌+◌, ◌||◌, ℕ, Bool, true, if◌then◌else◌, List, [], ◌∷◌, ◌++◌, Option, Some, None, is_some, bytes_eq, codes}
use Rattle.cm_text.specs.FieldReading.{◌>>=◌}
use Rattle.cm_history.specs.NodeSets.{has}
use Rattle.canboot_run.specs.declared.slave_faults.AbortedObject.{AbortedObject}
use Rattle.canboot_run.specs.declared.slave_faults.SlaveFaults.{SlaveFaults}
use Rattle.canboot_run.specs.declared.slave_faults.SlaveValue.{SlaveValue}
use Rattle.canboot_run.specs.declared.slave_faults.SlaveValue.TheVariants as value
use Rattle.canboot_run.specs.declared.slave_faults.WrongValue.{WrongValue}
use Rattle.cm_typed.specs.NodeLists.{index_in, is_node_list, lists, node_in, pair_in, value_in}
use Rattle.canboot_run.specs.declared.slave_options.SlaveOption.{SlaveOption}
use Rattle.canboot_run.specs.declared.slave_options.SlaveOption.TheVariants as option

-- ---- values and objects

-- the value with this key in a network list
abbrev pub value_named : List ℕ → Option SlaveValue
value_named w =
    if bytes_eq w (codes "device_type") then Some value.DeviceType
    else (if bytes_eq w (codes "vendor") then Some value.Vendor
    else (if bytes_eq w (codes "product") then Some value.Product
    else (if bytes_eq w (codes "revision") then Some value.Revision
    else (if bytes_eq w (codes "serial") then Some value.Serial
    else (if bytes_eq w (codes "date") then Some value.Date
    else (if bytes_eq w (codes "time") then Some value.Time else None))))))

-- the value of node i that is spelled OBJECT:VALUE
abbrev pub wrong_of : ℕ → List ℕ × List ℕ → Option WrongValue
wrong_of i p = value_named p.0 >>= (λ o. value_in p.1 >>= (λ v. Some (record { id = i; object = o; value = v })))

-- the value of a slave that is spelled ID=OBJECT:VALUE
abbrev pub wrong_in : List ℕ → Option WrongValue
wrong_in text = pair_in 61 text >>= (λ p. node_in p.0 >>= (λ i. pair_in 58 p.1 >>= (λ q. wrong_of i q)))

-- the object of a slave that is spelled ID=INDEX
abbrev pub aborted_in : List ℕ → Option AbortedObject
aborted_in text = pair_in 61 text >>= (λ p. node_in p.0 >>= (λ i. index_in p.1 >>= (λ x. Some (record { id = i; index = x }))))

-- ---- what an option says

-- the value of the option is spelled as one
abbrev pub says : SlaveOption → List ℕ → Bool
says option.Silent text = is_node_list text
says option.Dies text = is_node_list text
says option.Wrong text = is_some (wrong_in text)
says option.Aborts text = is_some (aborted_in text)

-- the text is a list, whose nodes are silent as well; all else is as before
pub record AreSilent (text : List ℕ) (old new : SlaveFaults) : Type 0 where
  pub spelled : is_node_list text ≡ true
  pub nodes : (i : ℕ) → has new.silent i ≡ (has old.silent i || lists text i)
  pub kept : new ≡ record old { silent = new.silent }

-- the text is a list, whose nodes die as well; all else is as before
pub record AreDying (text : List ℕ) (old new : SlaveFaults) : Type 0 where
  pub spelled : is_node_list text ≡ true
  pub nodes : (i : ℕ) → has new.dying i ≡ (has old.dying i || lists text i)
  pub kept : new ≡ record old { dying = new.dying }

-- one wrong value more is given, the one of the text
pub record IsWrong (text : List ℕ) (old new : SlaveFaults) : Type 0 where
  pub one : WrongValue
  pub spelled : wrong_in text ≡ Some one
  pub more : new.wrong.items ≡ old.wrong.items ++ one ∷ []
  pub kept : new ≡ record old { wrong = new.wrong }

-- one object more is aborted, the one of the text
pub record IsAborted (text : List ℕ) (old new : SlaveFaults) : Type 0 where
  pub one : AbortedObject
  pub spelled : aborted_in text ≡ Some one
  pub more : new.aborted.items ≡ old.aborted.items ++ one ∷ []
  pub kept : new ≡ record old { aborted = new.aborted }

-- what the option says is so
abbrev pub IsSaid : SlaveOption → List ℕ → SlaveFaults → SlaveFaults → Type 0
IsSaid option.Silent text old new = AreSilent text old new
IsSaid option.Dies text old new = AreDying text old new
IsSaid option.Wrong text old new = IsWrong text old new
IsSaid option.Aborts text old new = IsAborted text old new

-- the same is said of all slaves
pub record IsAsBefore (old new : SlaveFaults) : Type 0 where
  pub silent : new.silent ≡ old.silent
  pub dying : new.dying ≡ old.dying
  pub wrong : new.wrong.items ≡ old.wrong.items
  pub aborted : new.aborted.items ≡ old.aborted.items
