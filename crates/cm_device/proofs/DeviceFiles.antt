-- The keys of a device file, as they are read line by line.
use Rattle.std.proofs.Common.{◌≡◌, ℕ, ◌+◌, ◌<◌, List, [], ◌∷◌, ◌++◌, Option, Some, None, length, get_or, drop, refl, sym, ap, subst, ◌∙◌, arith, inl, inr}
use Rattle.std.specs.Prelude.{codes}
use Rattle.std.specs.List.{All, prefix_len}
use Rattle.std.specs.Char.{is_ascii_whitespace}
use Rattle.std.specs.Str.{IsTrimAscii}
use Rattle.std.proofs.lemmas.Str.Ascii.{trim_ascii_is}
use Rattle.std.proofs.lemmas.List.{drop_more, length-drop, get_or_past, append_cancel_right}
use Rattle.std.proofs.lemmas.List.Elements.{All-append, All-cons, Contains-append_left, Contains-append_right}
use Rattle.std.proofs.lemmas.Bool.{cases_lt}
use Rattle.cm_text.specs.Words.{Words, split}
use Rattle.cm_device.specs.DeviceFiles.{AreSame, BeginsSection, Has, IsEntry, IsIn, IsLine, IsNoHead}
use Rattle.cm_device.specs.FileValues.{StandsNone}
use Rattle.cm_device.specs.FileLines.{AreAllBefore, AreAllOf, BeginsNone, IsAmong, IsBegun, IsOther, IsTaken, item_of}
use Rattle.cm_device.specs.declared.device_file.Begun.{Begun}
use Rattle.cm_device.specs.declared.device_file.Entry.{Entry}
use Rattle.cm_device.specs.declared.device_file.Item.{Item}

same_parts : {X : Type 0} (x y : X) (xs ys : List X) → x ∷ xs ≡ y ∷ ys → (x ≡ y) × (xs ≡ ys)
same_parts x y xs ys e = (cc, cc)

-- the next of what is left of a list
next_left : {X : Type 0} (xs : List X) (n : ℕ) (d x : X) (rest : List X) → drop n xs ≡ x ∷ rest → (x ≡ get_or xs n d) × (drop (n + 1) xs ≡ rest)
next_left xs n d x rest e =
    let both = same_parts x (get_or xs n d) rest (drop (n + 1) xs) (sym e ∙ drop_more xs n d (omega (arith, length-drop n xs, ap length e))) in
    (both.0, sym both.1)

-- ---- each line, section and key is read in one way

-- a text has one form without white space at its ends
pub one_trim : (raw a b : List ℕ) → IsTrimAscii raw a → IsTrimAscii raw b → a ≡ b
one_trim raw a b p q = trim_ascii_is raw a (drop (prefix_len is_ascii_whitespace raw) raw) refl p ∙ sym (trim_ascii_is raw b (drop (prefix_len is_ascii_whitespace raw) raw) refl q)

nothing_is_trimmed : IsTrimAscii [] []
nothing_is_trimmed = (0, refl, λ i low. absurd (omega (arith, low)), λ low. absurd (omega (arith, low)), λ i from low. absurd (omega (arith, low)), λ low. absurd (omega (arith, low)))

one_text : (file : List ℕ) (n : ℕ) (a b : List ℕ) → IsLine file n a → IsLine file n b → a ≡ b
one_text file n a b p q = one_trim p.raw a b p.trimmed (subst (λ r. IsTrimAscii r b) (q.there ∙ sym p.there) q.trimmed)

one_name : (text a b : List ℕ) → BeginsSection text a → BeginsSection text b → a ≡ b
one_name text a b p q =
    let ends : p.raw ++ codes "]" ≡ q.raw ++ codes "]" = ap (drop 1) (sym p.brackets ∙ q.brackets) in
    one_trim p.raw a b p.trimmed (subst (λ r. IsTrimAscii r b) (sym (append_cancel_right p.raw q.raw (codes "]") ends)) q.trimmed)

one_entry : (text key value other_key other_value : List ℕ) → IsEntry text key value → IsEntry text other_key other_value → (key ≡ other_key) × (value ≡ other_value)
one_entry text key value other_key other_value p q =
    let same = same_parts p.front q.front (p.back ∷ p.others) (q.back ∷ q.others) (sym p.parts ∙ q.parts) in
    let back = same_parts p.back q.back p.others q.others same.1 in (
      one_trim p.front key other_key p.key_is (subst (λ r. IsTrimAscii r other_key) (sym same.0) q.key_is),
      one_trim p.back value other_value p.value_is (subst (λ r. IsTrimAscii r other_value) (sym back.0) q.value_is),
    )

empty_is_no_entry : (text key value : List ℕ) → text ≡ [] → IsEntry text key value → ⊥
empty_is_no_entry text key value empty entry = absurd (omega (arith, ap length (sym (ap (split 61) empty) ∙ entry.parts)))

empty_begins_none : (text : List ℕ) → text ≡ [] → BeginsNone text
empty_begins_none text empty name begins = absurd (omega (arith, ap length (sym empty ∙ begins.brackets)))

-- no line begins a section and begins none
no_head_here : (file : List ℕ) (n : ℕ) (text name : List ℕ) → IsLine file n text → BeginsSection text name → IsNoHead file n → ⊥
no_head_here file n text name there begins none = none.none name (subst (λ t. BeginsSection t name) (one_text file n text none.text there none.there) begins)

-- a line is in one section
one_section : (file : List ℕ) (head other to : ℕ) (a b : List ℕ) → IsIn file head to a → IsIn file other to b → a ≡ b
one_section file head other to a b p q = elim (cases_lt head other) [
  | inl less ↦ absurd (no_head_here file other q.text b q.there q.begins (p.same other less q.before))
  | inr at_least ↦ elim (cases_lt other head) [
    | inl less ↦ absurd (no_head_here file head p.text a p.there p.begins (q.same head less p.before))
    | inr least ↦
        let same : other ≡ head = omega (arith, at_least, least) in
        let text : q.text ≡ p.text = one_text file head q.text p.text (subst (λ n. IsLine file n q.text) same q.there) p.there in
        one_name p.text a b p.begins (subst (λ t. BeginsSection t b) text q.begins)
  ]
]

-- what was an item stays one
still_among : (text : List ℕ) (old new : List Item) (begun now : Option Begun) (section key value : List ℕ) → IsTaken text old new begun now
    → IsAmong section key value old → IsAmong section key value new
still_among text old new begun now section key value (inl (b, begins, is, same)) among = subst (IsAmong section key value) (sym same) among
still_among text old new begun now section key value (inr (inl (empty, is, same))) among = subst (IsAmong section key value) (sym same) among
still_among text old new begun now section key value (inr (inr (b, e, line, none, entry, in_it, is, grown))) (i, there, section_is, key_is, value_is) =
    subst (IsAmong section key value) (sym grown) (i, Contains-append_left old (item_of b e line ∷ []) i there, section_is, key_is, value_is)

module _ (file : List ℕ) (n : ℕ) (text : List ℕ) (there : IsLine file n text) where
  -- a section goes on where a line begins no other
  goes_on : (head : ℕ) (section : List ℕ) → BeginsNone text → IsIn file head n section → IsIn file head (n + 1) section
  goes_on head section none was = record {
    before = omega (arith, was.before);
    text = was.text;
    there = was.there;
    begins = was.begins;
    same = λ k above below. elim (cases_lt k n) [
      | inl less ↦ was.same k above less
      | inr at_least ↦ subst (IsNoHead file) (omega (arith, at_least, below)) record { text = text; there = there; none = none }
    ];
  }

  begun_on : (begun : Option Begun) → BeginsNone text → IsBegun file n begun → IsBegun file (n + 1) begun
  begun_on None none was = tt
  begun_on (Some b) none (head, was) = (head, goes_on head b.name.now none was)

  -- a section begins
  begins_here : (b : Begun) → BeginsSection text b.name.now → IsIn file n (n + 1) b.name.now
  begins_here b begins = record {
    before = omega arith;
    text = text;
    there = there;
    begins = begins;
    same = λ k above below. absurd (omega (arith, above, below));
  }

  -- a key with its value
  has_here : (b : Begun) (e : Entry) → IsEntry text e.key.now e.value.now → BeginsNone text → IsBegun file n (Some b) → Has file b.name.now e.key.now e.value.now
  has_here b e entry none (head, inside) = record { head = head; place = n; inside = inside; text = text; there = there; entry = entry; no_head = none }

  -- one line more
  pub taken : (old new : List Item) (begun now : Option Begun) → All (λ i. Has file i.section.now i.key.now i.value.now) old → IsBegun file n begun
      → IsTaken text old new begun now → All (λ i. Has file i.section.now i.key.now i.value.now) new × IsBegun file (n + 1) now
  taken old new begun now all was (inl (b, begins, is, same)) = (subst (All (λ i. Has file i.section.now i.key.now i.value.now)) (sym same) all, subst (IsBegun file (n + 1)) (sym is) (n, begins_here b begins))
  taken old new begun now all was (inr (inl (empty, is, same))) = (
    subst (All (λ i. Has file i.section.now i.key.now i.value.now)) (sym same) all,
    subst (IsBegun file (n + 1)) (sym is) (begun_on begun (empty_begins_none text empty) was),
  )
  taken old new begun now all was (inr (inr (b, e, line, none, entry, in_it, is, grown))) = (
    subst (All (λ i. Has file i.section.now i.key.now i.value.now)) (sym grown)
        (All-append (λ i. Has file i.section.now i.key.now i.value.now) old (item_of b e line ∷ []) all
        (All-cons (λ i. Has file i.section.now i.key.now i.value.now) (item_of b e line) [] (has_here b e entry none (subst (IsBegun file n) in_it was)) (λ k d low. absurd (omega (arith, low))))),
    subst (IsBegun file (n + 1)) (sym is) (begun_on (Some b) none (subst (IsBegun file n) in_it was)),
  )

  -- a key of this line is an item
  item_here : (old new : List Item) (begun now : Option Begun) (section key value : List ℕ) (head : ℕ) → IsBegun file n begun → IsTaken text old new begun now
      → IsIn file head n section → IsEntry text key value → BeginsNone text → IsAmong section key value new
  item_here old new begun now section key value head was (inl (b, begins, is, same)) inside entry none = absurd (none b.name.now begins)
  item_here old new begun now section key value head was (inr (inl (empty, is, same))) inside entry none = absurd (empty_is_no_entry text key value empty entry)
  item_here old new begun now section key value head was (inr (inr (b, e, line, other, found, in_it, is, grown))) inside entry none =
      let it = item_of b e line in
      let same = one_entry text e.key.now e.value.now key value found entry in
      let begun_is = subst (IsBegun file n) in_it was in
      subst (IsAmong section key value) (sym grown)
      (it, Contains-append_right old (it ∷ []) it (0, omega arith, refl), one_section file begun_is.0 head n b.name.now section begun_is.1 inside, same.0, same.1)

  -- one line more
  pub all_taken : (old new : List Item) (begun now : Option Begun) → IsBegun file n begun → AreAllBefore file n old → IsTaken text old new begun now → AreAllBefore file (n + 1) new
  all_taken old new begun now was all it section key value has low = elim (cases_lt has.place n) [
    | inl less ↦ still_among text old new begun now section key value it (all section key value has less)
    | inr at_least ↦ let here : has.place ≡ n = omega (arith, low, at_least) in
        let same : has.text ≡ text = one_text file n has.text text (subst (λ p. IsLine file p has.text) here has.there) there in
        item_here old new begun now section key value has.head was it (subst (λ p. IsIn file has.head p section) here has.inside)
        (subst (λ t. IsEntry t key value) same has.entry) (subst BeginsNone same has.no_head)
  ]

-- the line that is next
pub line_next : (file : List ℕ) (n : ℕ) (line raw text : List ℕ) (rest : Words) → drop n (split 10 file) ≡ line ∷ rest → raw ≡ get_or (split 59 line) 0 [] → IsTrimAscii raw text
    → IsLine file n text
line_next file n line raw text rest e before trimmed =
    record { raw = raw; there = before ∙ ap (λ l. get_or (split 59 l) 0 []) (next_left (split 10 file) n [] line rest e).0; trimmed = trimmed }

-- where no line is left, each key of the file is an item
pub all_read : (file : List ℕ) (n : ℕ) (items : List Item) → n ≡ length (split 10 file) → AreAllBefore file n items
    → (section key value : List ℕ) → Has file section key value → IsAmong section key value items
all_read file n items end all section key value has = elim (cases_lt has.place n) [
  | inl less ↦ all section key value has less
  | inr at_least ↦
      let past : get_or (split 10 file) has.place [] ≡ [] = get_or_past (split 10 file) has.place [] (omega (arith, at_least, end)) in
      let nothing : has.there.raw ≡ [] = has.there.there ∙ ap (λ l. get_or (split 59 l) 0 []) past in
      let trimmed : IsTrimAscii [] has.text = subst (λ r. IsTrimAscii r has.text) nothing has.there.trimmed in
      absurd (empty_is_no_entry has.text key value (one_trim [] has.text [] trimmed nothing_is_trimmed) has.entry)
]

-- and what is left behind it
pub left_behind : (file : List ℕ) (n : ℕ) (raw : List ℕ) (rest : Words) → drop n (split 10 file) ≡ raw ∷ rest → drop (n + 1) (split 10 file) ≡ rest
left_behind file n raw rest e = (next_left (split 10 file) n [] raw rest e).1

-- no text stands there, where no item is that key
pub none_stands : (file : List ℕ) (items : List Item) (name key : List ℕ) → ((k : ℕ) → (d : Item) → k < length items → IsOther name key (get_or items k d))
    → AreAllOf file items → StandsNone file name key
none_stands file items name key none all text stands =
    let among = all stands.section stands.written text stands.has in
    let at = among.1 in
    let other : IsOther name key among.0 = subst (λ (i : Item). IsOther name key i) at.2 (none at.0 among.0 at.1) in
    stands.some (sym among.4 ∙ other (subst (λ s. AreSame s name) (sym among.2) stands.section_is) (subst (λ s. AreSame s key) (sym among.3) stands.key_is))
