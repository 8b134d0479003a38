-- The walk over a table that looks for the place of a fault: what it finds, and that it finds nothing where there is none.
use Rattle.std.proofs.Common.{◌≡◌, ◌∙◌, ℕ, zero, suc, ◌+◌, ◌<◌, ◌≤◌, ◌⊎◌, inl, inr, Bool, true, false, ◌||◌, ◌==◌, List, [], ◌∷◌, ◌++◌, length, map, not, refl, ap, ap₂, sym, subst, arith, Some, None, is_some, take, drop, codes, take_all, take-append-drop, append-nil, eqb-true, true≢false, ⊎_elim, string_bytes, String, Global}
use Rattle.std.proofs.lemmas.Bool.{or_from, or_left, or_right}
use Rattle.std.proofs.lemmas.Option.{slice_get-get_or}
use Rattle.std.proofs.Math.Bool.{or-false, or_comm}
use Rattle.std.proofs.lemmas.List.{length-map, take_more}
use Rattle.std.proofs.lemmas.List.Folds.{list_any-append}
use Rattle.std.specs.Prelude.{Option, IsSomeAnd, get_or}
use Rattle.std.specs.List.{find, list_any, position, slice_get}
use Rattle.std.specs.Map.{keys_of}
use Rattle.toml.specs.Data.{Data, Members, string, integer, float, boolean, datetime, array, table, as_table, get_member}
use Rattle.toml.specs.View.{members_view}
use Rattle.toml.specs.declared.value.Value.{Value}
use Rattle.cm_netlist.specs.Document.{applies, has_double, integer_has, is_no_table, keys_have, slave_has, slave_id, slaves, top_has, write_has, writes}
use Rattle.cm_netlist.specs.FaultPlaces.{HasInteger, HasNoArray, SlaveIs, TableIs, slave_elements}
use Rattle.cm_netlist.specs.FaultWalk.{array_has, elements_have, holds, is_of_all, slave_at, slave_itself_has, table_of, top_itself_has}
use Rattle.cm_netlist.specs.Keys.{IntegerKey, is_listed, slave_integers, top_integers}
use Rattle.cm_netlist.specs.ListKeys.{key_of}
use Rattle.cm_netlist.specs.Table.{is_no_array, number_at, table_is, tables_in}
use Rattle.cm_netlist.specs.declared.fault.NetFault.{NetFault}
use Rattle.cm_netlist.specs.declared.fault.NetFault.TheVariants.{NotToml, UnknownKey, MissingKey, WrongKind, OutOfRange, DoubleSlave, OwnListed, NotListedBit, TooManyWrites, ValueTooWide, OutOfMemory}
use Rattle.cm_netlist.specs.declared.list_keys.IntegerKey.{IntegerKey as CodeKey}
use Rattle.cm_netlist.proofs.Finds.{find_any, find_passes, found_passes, none_pass}
use Rattle.cm_netlist.proofs.Items.{any_of_keys, any_of_map, any_of_tables}

-- ---- at the keys of a table

-- the value of the array's key is no array
pub no_array : (f : NetFault) (a : List ℕ) (ms : Members) → array_has f a ms ≡ true → HasNoArray f a ms
no_array NotToml a ms h = cc
no_array UnknownKey a ms h = cc
no_array MissingKey a ms h = cc
no_array WrongKind a ms h = (refl, h)
no_array OutOfRange a ms h = cc
no_array DoubleSlave a ms h = cc
no_array OwnListed a ms h = cc
no_array NotListedBit a ms h = cc
no_array TooManyWrites a ms h = cc
no_array ValueTooWide a ms h = cc
no_array OutOfMemory a ms h = cc

-- a fault that is no unknown key applies by the key of the array or of an integer
pub keys_by_value : (f : NetFault) (ks : List IntegerKey) (a : List ℕ) (ms : Members) → (f ≡ UnknownKey → ⊥)
    → (array_has f a ms || list_any (integer_has f ms) ks) ≡ keys_have f ks a ms
keys_by_value NotToml ks a ms other = refl
keys_by_value UnknownKey ks a ms other = absurd (other refl)
keys_by_value MissingKey ks a ms other = refl
keys_by_value WrongKind ks a ms other = or_comm (is_no_array (get_member a ms)) (list_any (integer_has WrongKind ms) ks)
keys_by_value OutOfRange ks a ms other = refl
keys_by_value DoubleSlave ks a ms other = refl
keys_by_value OwnListed ks a ms other = refl
keys_by_value NotListedBit ks a ms other = refl
keys_by_value TooManyWrites ks a ms other = refl
keys_by_value ValueTooWide ks a ms other = refl
keys_by_value OutOfMemory ks a ms other = refl

get_map : {X Y : Type 0} (f : X → Y) (xs : List X) (k : ℕ) (x : X) → get_or (map f xs) k (f x) ≡ f (get_or xs k x)
get_map f [] k x = refl
get_map f (y ∷ ys) zero x = refl
get_map f (y ∷ ys) (suc k) x = get_map f ys k x

-- the key that is found has the fault
pub has_integer : (f : NetFault) (keys : List CodeKey) (ms : Members) (k : CodeKey)
    → Some k ≡ find (λ k. integer_has f ms (key_of k)) keys → HasInteger f (map key_of keys) ms (key_of k)
has_integer f keys ms k e =
    let found = find_passes (λ k. integer_has f ms (key_of k)) keys k e in
    let (at, low, is) = found.1 in
    ((at, subst (λ n. at < n) (sym (length-map keys key_of)) low, get_map key_of keys at k ∙ ap key_of is), found.0)

-- and is found exactly where there is one
pub integer_found : (f : NetFault) (keys : List CodeKey) (ms : Members) (o : Option CodeKey)
    → o ≡ find (λ k. integer_has f ms (key_of k)) keys → is_some o ≡ list_any (integer_has f ms) (map key_of keys)
integer_found f keys ms o e = ap is_some e ∙ find_any (λ k. integer_has f ms (key_of k)) keys ∙ any_of_map (integer_has f ms) key_of keys

-- an unknown key is found exactly where there is one
pub unknown_found : (ks : List IntegerKey) (a : List ℕ) (es : List (String Global × Value)) (o : Option (String Global))
    → o ≡ find (λ k. not (is_listed ks a (string_bytes k))) (keys_of es) → is_some o ≡ keys_have UnknownKey ks a (members_view es)
unknown_found ks a es o e =
    ap is_some e ∙ find_any (λ k. not (is_listed ks a (string_bytes k))) (keys_of es) ∙ any_of_keys (λ k. not (is_listed ks a k)) es

not_true : (b : Bool) → not b ≡ true → b ≡ false
not_true true e = sym e
not_true false e = refl

-- and is none of those known
pub unknown_is : (ks : List IntegerKey) (a : List ℕ) (es : List (String Global × Value)) (s : String Global)
    → Some s ≡ find (λ k. not (is_listed ks a (string_bytes k))) (keys_of es) → is_listed ks a (string_bytes s) ≡ false
unknown_is ks a es s e = not_true _ (find_passes (λ k. not (is_listed ks a (string_bytes k))) (keys_of es) s e).0

-- ---- in the list itself

-- an element that is no table
pub top_wrong : (f : NetFault) (ms : Members) (b : Bool) → f ≡ WrongKind → false ≡ keys_have f top_integers (codes "slave") ms
    → b ≡ list_any is_no_table (slave_elements ms) → b ≡ top_itself_has f ms
top_wrong f ms b is keys e =
    let here : top_itself_has f ms ≡ (keys_have WrongKind top_integers (codes "slave") ms || list_any is_no_table (slave_elements ms)) = ap (λ g. top_itself_has g ms) is in
    let none : keys_have WrongKind top_integers (codes "slave") ms ≡ false = sym (keys ∙ ap (λ g. keys_have g top_integers (codes "slave") ms) is) in
    e ∙ ap (λ c. c || list_any is_no_table (slave_elements ms)) (sym none) ∙ sym here

-- ---- in a slave

no_write : (f : NetFault) (ds : List Data) → ((d : Data) → write_has f d ≡ false) → list_any (write_has f) ds ≡ false
no_write f ds each = none_pass (write_has f) each ds

-- the fault applies at a write exactly where it doesn't apply before
pub part_at_write : (f : NetFault) (own : ℕ) (t : Members) (b : Bool) → is_of_all f own t ≡ false
    → false ≡ keys_have f slave_integers (codes "writes") t → b ≡ list_any (write_has f) (writes t) → b ≡ slave_has f own t
part_at_write NotToml own t b whole keys e = e ∙ ap (λ c. c || list_any (write_has NotToml) (writes t)) keys
part_at_write UnknownKey own t b whole keys e = e ∙ ap (λ c. c || list_any (write_has UnknownKey) (writes t)) keys
part_at_write MissingKey own t b whole keys e = e ∙ ap (λ c. c || list_any (write_has MissingKey) (writes t)) keys
part_at_write WrongKind own t b whole keys e = e ∙ ap (λ c. c || list_any (write_has WrongKind) (writes t)) keys
part_at_write OutOfRange own t b whole keys e = e ∙ ap (λ c. c || list_any (write_has OutOfRange) (writes t)) keys
part_at_write DoubleSlave own t b whole keys e = e ∙ ap (λ c. c || list_any (write_has DoubleSlave) (writes t)) keys
part_at_write OwnListed own t b whole keys e = e ∙ no_write OwnListed (writes t) (λ d. refl) ∙ sym whole
part_at_write NotListedBit own t b whole keys e = e ∙ no_write NotListedBit (writes t) (λ d. refl) ∙ sym whole
part_at_write TooManyWrites own t b whole keys e = e ∙ no_write TooManyWrites (writes t) (λ d. refl) ∙ sym whole
part_at_write ValueTooWide own t b whole keys e = e ∙ ap (λ c. c || list_any (write_has ValueTooWide) (writes t)) keys
part_at_write OutOfMemory own t b whole keys e = e ∙ ap (λ c. c || list_any (write_has OutOfMemory) (writes t)) keys

-- ---- of one id

passing_slave : (d : Data) (id : ℕ) → table_is (λ u. slave_id u == id) d ≡ true → TableIs (λ u. slave_id u ≡ id) d
passing_slave (table u) id h = eqb-true (slave_id u) id h
passing_slave (string x) id h = cc
passing_slave (integer x) id h = cc
passing_slave (float x) id h = cc
passing_slave (boolean x) id h = cc
passing_slave (datetime x) id h = cc
passing_slave (array x) id h = cc

passing : (o : Option Data) (id : ℕ) → IsSomeAnd o (λ d. table_is (λ u. slave_id u == id) d ≡ true) → IsSomeAnd o (TableIs (λ u. slave_id u ≡ id))
passing None id h = h
passing (Some d) id h = passing_slave d id h

-- the slave that is found has the id
pub slave_with_id : (ms : Members) (j id : ℕ) → Some j ≡ position (table_is (λ u. slave_id u == id)) (slave_elements ms) → SlaveIs ms j (λ u. slave_id u ≡ id)
slave_with_id ms j id e = passing (slice_get (slave_elements ms) j) id (found_passes (table_is (λ u. slave_id u == id)) (slave_elements ms) j e)

-- ---- of the elements of `slave`

-- a fault that is no double slave
record IsOther (f : NetFault) : Type 0 where
  top : (ms : Members) → top_itself_has f ms ≡ top_has f ms
  elements : (own : ℕ) (ds : List Data) → elements_have f own ds ≡ list_any (table_is (slave_has f own)) ds
  slave : (ms : Members) (i : ℕ) (t : Members) → slave_itself_has f ms i t ≡ slave_has f (number_at (codes "own") ms) t

double_or : (f : NetFault) → (f ≡ DoubleSlave) ⊎ IsOther f
double_or NotToml = inr (record { top = λ ms. refl; elements = λ own ds. refl; slave = λ ms i t. refl })
double_or UnknownKey = inr (record { top = λ ms. refl; elements = λ own ds. refl; slave = λ ms i t. refl })
double_or MissingKey = inr (record { top = λ ms. refl; elements = λ own ds. refl; slave = λ ms i t. refl })
double_or WrongKind = inr (record { top = λ ms. refl; elements = λ own ds. refl; slave = λ ms i t. refl })
double_or OutOfRange = inr (record { top = λ ms. refl; elements = λ own ds. refl; slave = λ ms i t. refl })
double_or DoubleSlave = inl refl
double_or OwnListed = inr (record { top = λ ms. refl; elements = λ own ds. refl; slave = λ ms i t. refl })
double_or NotListedBit = inr (record { top = λ ms. refl; elements = λ own ds. refl; slave = λ ms i t. refl })
double_or TooManyWrites = inr (record { top = λ ms. refl; elements = λ own ds. refl; slave = λ ms i t. refl })
double_or ValueTooWide = inr (record { top = λ ms. refl; elements = λ own ds. refl; slave = λ ms i t. refl })
double_or OutOfMemory = inr (record { top = λ ms. refl; elements = λ own ds. refl; slave = λ ms i t. refl })

tables_more : (ds : List Data) (es : List Data) → tables_in (ds ++ es) ≡ tables_in ds ++ tables_in es
tables_more [] es = refl
tables_more (table t ∷ ds) es = ap (λ ts. t ∷ ts) (tables_more ds es)
tables_more (string x ∷ ds) es = tables_more ds es
tables_more (integer x ∷ ds) es = tables_more ds es
tables_more (float x ∷ ds) es = tables_more ds es
tables_more (boolean x ∷ ds) es = tables_more ds es
tables_more (datetime x ∷ ds) es = tables_more ds es
tables_more (array x ∷ ds) es = tables_more ds es

shuffle : (a e b c : Bool) → ((a || (e || false)) || (b || c)) ≡ ((a || b) || (e || c))
shuffle true e b c = refl
shuffle false true true c = refl
shuffle false true false c = refl
shuffle false false b c = refl

-- two of the slaves have one id, with one slave more
double_more : (ts : List Members) (t : Members) → has_double (ts ++ t ∷ []) ≡ (has_double ts || list_any (λ u. slave_id u == slave_id t) ts)
double_more [] t = refl
double_more (s ∷ ss) t =
    ap₂ (λ a b. a || b) (list_any-append (λ u. slave_id s == slave_id u) ss (t ∷ [])) (double_more ss t)
    ∙ shuffle (list_any (λ u. slave_id s == slave_id u) ss) (slave_id s == slave_id t) (has_double ss) (list_any (λ u. slave_id u == slave_id t) ss)

or_kept : (a b c d : Bool) → (a || b) ≡ true → (b ≡ true → d ≡ true) → ((a || c) || d) ≡ true
or_kept true b c d h more = refl
or_kept false b true d h more = refl
or_kept false b false d h more = more h

-- and they stay
double_kept : (ts us : List Members) → has_double ts ≡ true → has_double (ts ++ us) ≡ true
double_kept [] us h = cc
double_kept (s ∷ ss) us h =
    ap (λ b. b || has_double (ss ++ us)) (list_any-append (λ u. slave_id s == slave_id u) ss us)
    ∙ or_kept (list_any (λ u. slave_id s == slave_id u) ss) (has_double ss) (list_any (λ u. slave_id s == slave_id u) us) (has_double (ss ++ us)) h (double_kept ss us)

elements_kept : (f : NetFault) (own : ℕ) (ds es : List Data) → elements_have f own ds ≡ true → elements_have f own (ds ++ es) ≡ true
elements_kept f own ds es h = ⊎_elim double other (double_or f)
  where
    double : f ≡ DoubleSlave → elements_have f own (ds ++ es) ≡ true
    double is =
        ap (λ g. elements_have g own (ds ++ es)) is ∙ ap has_double (tables_more ds es)
        ∙ double_kept (tables_in ds) (tables_in es) (ap (λ g. elements_have g own ds) (sym is) ∙ h)

    other : IsOther f → elements_have f own (ds ++ es) ≡ true
    other o = o.elements own (ds ++ es) ∙ list_any-append (table_is (slave_has f own)) ds es ∙ or_left _ _ (sym (o.elements own ds) ∙ h)

-- what a slave adds
abbrev element_has : NetFault → Members → ℕ → Data → Bool
element_has f ms i d = holds (slave_itself_has f ms i) (as_table d)

abbrev own_of : Members → ℕ
own_of ms = number_at (codes "own") ms

abbrev before : Members → ℕ → List Data
before ms i = take i (slave_elements ms)

double_element : (ms : Members) (i : ℕ) (d : Data)
    → has_double (tables_in (before ms i ++ d ∷ [])) ≡ (has_double (tables_in (before ms i)) || element_has DoubleSlave ms i d)
double_element ms i (table t) =
    ap has_double (tables_more (before ms i) (table t ∷ [])) ∙ double_more (tables_in (before ms i)) t
    ∙ ap (λ b. has_double (tables_in (before ms i)) || b) (sym (any_of_tables (λ u. slave_id u == slave_id t) (before ms i)))
double_element ms i (string x) = ap has_double (tables_more (before ms i) (string x ∷ []) ∙ append-nil _) ∙ sym (or-false _)
double_element ms i (integer x) = ap has_double (tables_more (before ms i) (integer x ∷ []) ∙ append-nil _) ∙ sym (or-false _)
double_element ms i (float x) = ap has_double (tables_more (before ms i) (float x ∷ []) ∙ append-nil _) ∙ sym (or-false _)
double_element ms i (boolean x) = ap has_double (tables_more (before ms i) (boolean x ∷ []) ∙ append-nil _) ∙ sym (or-false _)
double_element ms i (datetime x) = ap has_double (tables_more (before ms i) (datetime x ∷ []) ∙ append-nil _) ∙ sym (or-false _)
double_element ms i (array x) = ap has_double (tables_more (before ms i) (array x ∷ []) ∙ append-nil _) ∙ sym (or-false _)

other_element : (f : NetFault) → IsOther f → (ms : Members) (i : ℕ) (d : Data) → table_is (slave_has f (own_of ms)) d ≡ element_has f ms i d
other_element f o ms i (table t) = sym (o.slave ms i t)
other_element f o ms i (string x) = refl
other_element f o ms i (integer x) = refl
other_element f o ms i (float x) = refl
other_element f o ms i (boolean x) = refl
other_element f o ms i (datetime x) = refl
other_element f o ms i (array x) = refl

-- one element more
element_more : (f : NetFault) (ms : Members) (i : ℕ) (d : Data)
    → elements_have f (own_of ms) (before ms i ++ d ∷ []) ≡ (elements_have f (own_of ms) (before ms i) || element_has f ms i d)
element_more f ms i d = ⊎_elim double other (double_or f)
  where
    double : f ≡ DoubleSlave → elements_have f (own_of ms) (before ms i ++ d ∷ []) ≡ (elements_have f (own_of ms) (before ms i) || element_has f ms i d)
    double is = subst (λ g. elements_have g (own_of ms) (before ms i ++ d ∷ []) ≡ (elements_have g (own_of ms) (before ms i) || element_has g ms i d)) (sym is) (double_element ms i d)

    other : IsOther f → elements_have f (own_of ms) (before ms i ++ d ∷ []) ≡ (elements_have f (own_of ms) (before ms i) || element_has f ms i d)
    other o =
        o.elements (own_of ms) (before ms i ++ d ∷ [])
        ∙ list_any-append (table_is (slave_has f (own_of ms))) (before ms i) (d ∷ [])
        ∙ ap₂ (λ a b. a || b) (sym (o.elements (own_of ms) (before ms i))) (or-false _ ∙ other_element f o ms i d)

any_element : (xs : List Data) (i : ℕ) → i < length xs → Data
any_element [] i l = absurd (omega arith)
any_element (x ∷ xs) i l = x

slave_is_element : (f : NetFault) (ms : Members) (i : ℕ) (d : Data) → slice_get (slave_elements ms) i ≡ Some d
    → holds (slave_itself_has f ms i) (slave_at ms i) ≡ element_has f ms i d
slave_is_element f ms i d e = ap (λ o. holds (slave_itself_has f ms i) (table_of o)) e

-- one slave more, as the walk goes on
pub walked : (f : NetFault) (ms : Members) (i : ℕ) → i < length (slave_elements ms)
    → elements_have f (own_of ms) (before ms (i + 1)) ≡ (elements_have f (own_of ms) (before ms i) || holds (slave_itself_has f ms i) (slave_at ms i))
walked f ms i l =
    let d = any_element (slave_elements ms) i l in
    let here = get_or (slave_elements ms) i d in
    ap (elements_have f (own_of ms)) (take_more (slave_elements ms) i d l) ∙ element_more f ms i here
    ∙ ap (λ b. elements_have f (own_of ms) (before ms i) || b) (sym (slave_is_element f ms i here (slice_get-get_or (slave_elements ms) i d l)))

no_double_of_slave : (own : ℕ) (t : Members) → slave_has DoubleSlave own t ≡ false
no_double_of_slave own t = or_from _ _ (none_pass (integer_has DoubleSlave t) (λ k. refl) slave_integers) (none_pass (write_has DoubleSlave) (λ d. refl) (writes t))

-- the whole of it: the list itself, and each of its slaves
pub applies_by : (f : NetFault) (ms : Members) → applies f ms ≡ (top_itself_has f ms || elements_have f (own_of ms) (slave_elements ms))
applies_by f ms = ⊎_elim double other (double_or f)
  where
    double : f ≡ DoubleSlave → applies f ms ≡ (top_itself_has f ms || elements_have f (own_of ms) (slave_elements ms))
    double is = subst (λ g. applies g ms ≡ (top_itself_has g ms || elements_have g (own_of ms) (slave_elements ms))) (sym is)
        (ap (λ b. has_double (slaves ms) || b) (none_pass (slave_has DoubleSlave (own_of ms)) (no_double_of_slave (own_of ms)) (slaves ms)) ∙ or-false _)

    other : IsOther f → applies f ms ≡ (top_itself_has f ms || elements_have f (own_of ms) (slave_elements ms))
    other o = ap₂ (λ a b. a || b) (sym (o.top ms)) (sym (o.elements (own_of ms) (slave_elements ms) ∙ any_of_tables (slave_has f (own_of ms)) (slave_elements ms)))

-- the fault applies where it applies to the list itself
pub top_applies : (f : NetFault) (ms : Members) → true ≡ top_itself_has f ms → true ≡ applies f ms
top_applies f ms h = sym (applies_by f ms ∙ or_left _ _ (sym h))

inside_of : (p : Members → Bool) (xs : List Data) (k : ℕ) → true ≡ holds p (table_of (slice_get xs k)) → k < length xs
inside_of p [] k h = absurd (true≢false h)
inside_of p (x ∷ xs) zero h = omega arith
inside_of p (x ∷ xs) (suc k) h = omega (arith, inside_of p xs k h)

inside : (f : NetFault) (ms : Members) (i : ℕ) → true ≡ holds (slave_itself_has f ms i) (slave_at ms i) → i < length (slave_elements ms)
inside f ms i h = inside_of (slave_itself_has f ms i) (slave_elements ms) i h

-- and where it applies to a slave
pub slave_applies : (f : NetFault) (ms : Members) (i : ℕ) → true ≡ holds (slave_itself_has f ms i) (slave_at ms i) → true ≡ applies f ms
slave_applies f ms i h =
    let l = inside f ms i h in
    let one = walked f ms i l ∙ or_right (elements_have f (own_of ms) (before ms i)) _ (sym h) in
    let all = elements_kept f (own_of ms) (before ms (i + 1)) (drop (i + 1) (slave_elements ms)) one in
    sym (applies_by f ms ∙ or_right (top_itself_has f ms) _ (ap (elements_have f (own_of ms)) (sym (take-append-drop (i + 1) (slave_elements ms))) ∙ all))

-- it applies nowhere where it applies to neither
pub nowhere : (f : NetFault) (ms : Members) (i : ℕ) → length (slave_elements ms) ≤ i → false ≡ top_itself_has f ms
    → elements_have f (own_of ms) (before ms i) ≡ false → false ≡ applies f ms
nowhere f ms i end top none =
    sym (applies_by f ms ∙ or_from _ _ (sym top) (ap (elements_have f (own_of ms)) (sym (take_all i (slave_elements ms) end)) ∙ none))

-- nothing of the first elements, with one more
pub none_walked : (f : NetFault) (ms : Members) (i : ℕ) → i < length (slave_elements ms) → elements_have f (own_of ms) (before ms i) ≡ false
    → false ≡ holds (slave_itself_has f ms i) (slave_at ms i) → elements_have f (own_of ms) (before ms (i + 1)) ≡ false
none_walked f ms i l was here = walked f ms i l ∙ or_from _ _ was (sym here)
