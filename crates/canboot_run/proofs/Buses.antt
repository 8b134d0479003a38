-- The buses of the workers, one slave more.
use Rattle.std.proofs.Common.{◌≡◌, ℕ, ◌+◌, ◌%◌, ◌<◌, ◌==◌, ◌||◌, Bool, true, false, List, [], ◌∷◌, ◌++◌, length, get_or, set, take, refl, sym, ap, subst, ◌∙◌, arith}
use Rattle.std.specs.Prelude.{if◌then◌else◌, Option, Some, None, option_map}
use Rattle.std.proofs.lemmas.Bool.Decides.{nat_tests}
use Rattle.std.proofs.lemmas.List.{get_or-set_other}
use Rattle.std.proofs.lemmas.Grind.{get_or-set_at}
use Rattle.std.proofs.Math.Bool.{or-false}
use Rattle.std.proofs.Math.Seq.{take-length}
use Rattle.cm_netlist.specs.Network.{Network, listed_ids}
use Rattle.cm_run.specs.Shares.{share}
use Rattle.cm_run.proofs.Sharing.{share_in, share_out}
use Rattle.cm_run.specs.Buses.{put_on, slave_at}
use Rattle.cm_run.specs.declared.bus.Attached.{Attached}
use Rattle.cm_run.specs.declared.bus.SimBus.{SimBus}
use Rattle.cm_run.specs.declared.slave.SimSlave.{SimSlave}
use Rattle.canboot_run.specs.Simulated.{AreBusesOf, IsBusOf, is_one_of}
use Rattle.canboot_run.specs.SlaveFaults.{slave_given}
use Rattle.canboot_run.specs.declared.slave_faults.SlaveFaults.{SlaveFaults}

or_true : (b : Bool) → (b || true) ≡ true
or_true true = refl
or_true false = refl

or_or : (a b c : Bool) → (a || (b || c)) ≡ ((a || b) || c)
or_or true b c = refl
or_or false b c = refl

one_more : (ids : List ℕ) (n i : ℕ) → is_one_of (ids ++ n ∷ []) i ≡ (is_one_of ids i || n == i)
one_more [] n i = or-false (n == i)
one_more (m ∷ ids) n i = ap (λ (b : Bool). m == i || b) (one_more ids n i) ∙ or_or (m == i) (is_one_of ids i) (n == i)

-- what stands at a place of the bus where these nodes' slaves are on it, by whether the node is one of them
abbrev at : Option Attached → Bool → Option Attached
at given is = if is then given else None

module _ (net : Network) (faults : SlaveFaults) (ids : List ℕ) (n : ℕ) where
  abbrev given : ℕ → Option Attached
  given i = option_map put_on (slave_given net faults i)

  here : (i : ℕ) → (n == i) ≡ true → at (given i) (is_one_of (ids ++ n ∷ []) i) ≡ given n
  here i e =
      let same : n ≡ i = grind (arith, nat_tests) in
      ap (at (given i)) (one_more ids n i ∙ (ap (λ (b : Bool). is_one_of ids i || b) e ∙ or_true (is_one_of ids i))) ∙ ap given (sym same)

  there : (i : ℕ) → (n == i) ≡ false → at (given i) (is_one_of (ids ++ n ∷ []) i) ≡ at (given i) (is_one_of ids i)
  there i e = ap (at (given i)) (one_more ids n i ∙ (ap (λ (b : Bool). is_one_of ids i || b) e ∙ or-false (is_one_of ids i)))

  none : (i : ℕ) (b : Bool) → given i ≡ None → at (given i) b ≡ None
  none i true e = e
  none i false e = refl

  -- a slave is put on the bus
  put_at : (i : ℕ) (s : SimSlave) (old new : Option Attached) (b : Bool) → (n == i) ≡ b → slave_given net faults n ≡ Some s → old ≡ at (given i) (is_one_of ids i)
      → new ≡ (if b then Some (put_on s) else old) → new ≡ at (given i) (is_one_of (ids ++ n ∷ []) i)
  put_at i s old new true e is was put = put ∙ (sym (ap (option_map put_on) is) ∙ sym (here i e))
  put_at i s old new false e is was put = put ∙ (was ∙ sym (there i e))

  pub put_more : (s : SimSlave) (old new : SimBus) → slave_given net faults n ≡ Some s → IsBusOf net faults ids old
      → ((i : ℕ) → i < 128 → slave_at new i ≡ (if n == i then Some (put_on s) else slave_at old i)) → IsBusOf net faults (ids ++ n ∷ []) new
  put_more s old new is was put i lt = put_at i s (slave_at old i) (slave_at new i) (n == i) refl is (was i lt) (put i lt)

  -- the node has no slave, and nothing is put on the bus
  kept_at : (i : ℕ) (old : Option Attached) (b : Bool) → (n == i) ≡ b → slave_given net faults n ≡ None → old ≡ at (given i) (is_one_of ids i) → old ≡ at (given i) (is_one_of (ids ++ n ∷ []) i)
  kept_at i old true e is was =
      let same : n ≡ i = grind (arith, nat_tests) in
      was ∙ (none i (is_one_of ids i) (ap given (sym same) ∙ ap (option_map put_on) is) ∙ sym (here i e ∙ ap (option_map put_on) is))
  kept_at i old false e is was = was ∙ sym (there i e)

  pub kept_more : (bus : SimBus) → slave_given net faults n ≡ None → IsBusOf net faults ids bus → IsBusOf net faults (ids ++ n ∷ []) bus
  kept_more bus is was i lt = kept_at i (slave_at bus i) (n == i) refl is (was i lt)

-- the buses of w workers, on which the first listed nodes have their slaves
abbrev pub AreBusesUpTo : Network → ℕ → SlaveFaults → ℕ → List ℕ → List SimBus → Type 0
AreBusesUpTo net w faults place ids buses = (k : ℕ) (b : SimBus) → k < w → IsBusOf net faults (share w k (take place ids)) (get_or buses k b)

module _ (net : Network) (w : ℕ) (faults : SlaveFaults) (place : ℕ) (ids : List ℕ) where
  pub buses_first : (buses : List SimBus) → ((k : ℕ) (b : SimBus) → k < w → (i : ℕ) → i < 128 → slave_at (get_or buses k b) i ≡ None) → AreBusesUpTo net w faults 0 ids buses
  buses_first buses empty k b lt i small = empty k b lt i small

  owned : (k n : ℕ) (bus : SimBus) → place < length ids → n ≡ get_or ids place n → place % w ≡ k → IsBusOf net faults (share w k (take place ids) ++ n ∷ []) bus → IsBusOf net faults (share w k (take (place + 1) ids)) bus
  owned k n bus l is e was =
      subst (λ (own : List ℕ). IsBusOf net faults own bus) (ap (λ (m : ℕ). share w k (take place ids) ++ m ∷ []) is ∙ sym (share_in w k ids place n l e)) was

  other : (k : ℕ) (bus : SimBus) → place < length ids → (place % w == k) ≡ false → IsBusOf net faults (share w k (take place ids)) bus → IsBusOf net faults (share w k (take (place + 1) ids)) bus
  other k bus l e was = subst (λ (own : List ℕ). IsBusOf net faults own bus) (sym (share_out w k ids place 0 l (λ q. grind (arith, nat_tests)))) was

  put_or : (buses : List SimBus) (n : ℕ) (old new d : SimBus) (k : ℕ) (b : SimBus) (is : Bool) → (place % w == k) ≡ is → place < length ids → n ≡ get_or ids place n → old ≡ get_or buses (place % w) d
      → ((own : List ℕ) → IsBusOf net faults own old → IsBusOf net faults (own ++ n ∷ []) new) → k < length buses
      → ((c : SimBus) → IsBusOf net faults (share w k (take place ids)) (get_or buses k c)) → IsBusOf net faults (share w k (take (place + 1) ids)) (get_or (set buses (place % w) new) k b)
  put_or buses n old new d k b true e l is here put long was =
      let same : place % w ≡ k = grind (arith, nat_tests) in
      let own : List ℕ = share w k (take place ids) in
      let whole : IsBusOf net faults (share w k (take (place + 1) ids)) new = owned k n new l is same
      (put own (subst (IsBusOf net faults own) (sym (here ∙ ap (λ (m : ℕ). get_or buses m d) same)) (was d))) in
      subst (IsBusOf net faults (share w k (take (place + 1) ids))) (sym (get_or-set_at buses (place % w) k new b (sym same) (omega (arith, same, long)))) whole
  put_or buses n old new d k b false e l is here put long was =
      subst (IsBusOf net faults (share w k (take (place + 1) ids))) (sym (get_or-set_other buses (place % w) k new b (λ q. grind (arith, nat_tests)))) (other k (get_or buses k b) l e (was b))

  -- one place further, whose slave goes to its worker's bus
  pub buses_put : (buses : List SimBus) (n : ℕ) (old new d : SimBus) → place < length ids → n ≡ get_or ids place n → old ≡ get_or buses (place % w) d
      → ((own : List ℕ) → IsBusOf net faults own old → IsBusOf net faults (own ++ n ∷ []) new) → w ≡ length buses
      → AreBusesUpTo net w faults place ids buses → AreBusesUpTo net w faults (place + 1) ids (set buses (place % w) new)
  buses_put buses n old new d l is here put long was k b lt = put_or buses n old new d k b (place % w == k) refl l is here put (omega (arith, long, lt)) (λ c. was k c lt)

-- all places are behind
pub buses_done : (net : Network) (w : ℕ) (faults : SlaveFaults) (buses : List SimBus) (ids : List ℕ) → ids ≡ listed_ids net → AreBusesUpTo net w faults (length ids) ids buses → AreBusesOf net w faults buses
buses_done net w faults buses ids e was k b lt = subst (λ (own : List ℕ). IsBusOf net faults (share w k own) (get_or buses k b)) (take-length ids ∙ e) (was k b lt)
