-- What the first field of some bytes is, by what reads it where it stands.
use Rattle.std.proofs.Common.{◌≡◌, ℕ, ◌+◌, ◌^◌, ◌<◌, ◌≤◌, Bool, true, false, ◌||◌, eqb, List, [], ◌∷◌, ◌++◌, length, get_or, take, drop, Option, Some, None, refl, sym, ap, subst, ◌∙◌, arith, eq-eqb, take-append-drop}
use Rattle.std.specs.Prelude.{decimal, bytes_eq, MatchOption}
use Rattle.std.proofs.lemmas.Bool.{eqb-true}
use Rattle.std.proofs.lemmas.List.{take_more}
use Rattle.std.proofs.lemmas.List.Elements.{All-nil, All-cons, All-append}
use Rattle.cm_text.specs.Exact.{IsExact}
use Rattle.cm_text.specs.Plain.{is_plain}
use Rattle.cm_text.specs.Words.{Words, split}
use Rattle.cm_text.specs.Decimal.{dec_of}
use Rattle.cm_text.specs.Hex.{hex_eight, two_of, four_of, eight_of}
use Rattle.cm_text.specs.FieldReading.{with_rest, field_at, word_is}
use Rattle.cm_text.specs.Ends.{behind, Lacks, Holds, IsOfOtherWidth, IsFirst}
use Rattle.cm_text.proofs.Fronts.{same, same_itself, word_takes, field_again}
use Rattle.cm_text.proofs.Decimals.{dec_exact}
use Rattle.cm_text.proofs.Plain.{decimal_plain, split_front}
use Rattle.cm_text.proofs.Digits.{hex_two_exact, hex_two_plain, hex_two_length, hex_four_exact, hex_four_plain, hex_four_length, hex_eight_exact, hex_eight_plain, hex_eight_length}
use Rattle.cm_text.proofs.Ends.{first_part, ended_part, unread, read_first, read_none, too_short, goes_on}

-- ---- spellings that have all the same number of bytes

module _ {A : Type 0} {spell : A → List ℕ} {read : List ℕ → Option A} {Fits : A → Type 0} (exact : IsExact spell read Fits)
    (width : ℕ) (long : (x : A) → length (spell x) ≡ width) (plain : (x : A) → is_plain (spell x) ≡ true) where
  exact_first : (word : List ℕ) (rest ws : Words) → IsFirst width word rest ws → field_at read ws ≡ with_rest (read word) rest
  exact_first word rest ws first =
      read_first read width word rest ws first (λ w more x is e. ap length (exact.takes w x e).0 ∙ long x) (λ x e. rw (exact.takes word x e).0 (plain x))

  exact_none : (ws : Words) → IsOfOtherWidth width ws → field_at read ws ≡ None
  exact_none ws other = read_none read width ws other (λ w more x is e. ap length (exact.takes w x e).0 ∙ long x)

pub two_first : (word : List ℕ) (rest ws : Words) → IsFirst 2 word rest ws → field_at two_of ws ≡ with_rest (two_of word) rest
two_first = exact_first hex_two_exact 2 hex_two_length hex_two_plain

pub two_none : (ws : Words) → IsOfOtherWidth 2 ws → field_at two_of ws ≡ None
two_none = exact_none hex_two_exact 2 hex_two_length hex_two_plain

pub four_first : (word : List ℕ) (rest ws : Words) → IsFirst 4 word rest ws → field_at four_of ws ≡ with_rest (four_of word) rest
four_first = exact_first hex_four_exact 4 hex_four_length hex_four_plain

pub four_none : (ws : Words) → IsOfOtherWidth 4 ws → field_at four_of ws ≡ None
four_none = exact_none hex_four_exact 4 hex_four_length hex_four_plain

pub eight_first : (word : List ℕ) (rest ws : Words) → IsFirst 8 word rest ws → field_at eight_of ws ≡ with_rest (eight_of word) rest
eight_first = exact_first hex_eight_exact 8 hex_eight_length hex_eight_plain

pub eight_none : (ws : Words) → IsOfOtherWidth 8 ws → field_at eight_of ws ≡ None
eight_none = exact_none hex_eight_exact 8 hex_eight_length hex_eight_plain

-- ---- a text

module _ (c : ℕ) (text bytes : List ℕ) where
  no_text : ((more : Words) → split c bytes ≡ text ∷ more → ⊥) → field_at (word_is text) (split c bytes) ≡ None
  no_text never = unread (word_is text) (split c bytes) (λ w more x is e. never more (is ∙ ap (λ (l : List ℕ). l ∷ more) (word_takes text w x e).0))

  pub text_too_long : length bytes < length text → field_at (word_is text) (split c bytes) ≡ None
  text_too_long short = no_text (λ more e. too_short c (length text) bytes short text more e refl)

  pub text_is_other : bytes_eq (take (length text) bytes) text ≡ false → field_at (word_is text) (split c bytes) ≡ None
  text_is_other other = no_text (λ more e. let p = first_part c bytes text more e in cc (same_itself text, p.front, other))

  pub text_is_cut : Holds c text → field_at (word_is text) (split c bytes) ≡ None
  text_is_cut held = no_text (λ more e. let p = first_part c bytes text more e in absurd (cc (p.lacks held.0 0 held.1, eq-eqb (get_or text held.0 0) c held.2)))

  -- what stands behind the text
  pub text_behind : {R : Type 0} (parts : R → Words) (o : Option R) → bytes_eq (take (length text) bytes) text ≡ true → Lacks c text
      → MatchOption o (behind c (drop (length text) bytes) ≡ None) (λ r. behind c (drop (length text) bytes) ≡ Some (parts r))
      → MatchOption o (field_at (word_is text) (split c bytes) ≡ None) (λ r. split c bytes ≡ text ∷ parts r)
  text_behind parts None begins lacks goes = no_text (λ more e. goes_on c (length text) bytes goes text more e refl)
  text_behind parts (Some r) begins lacks ended =
      ap (split c) (sym (take-append-drop (length text) bytes) ∙ ap (λ (l : List ℕ). l ++ drop (length text) bytes) (same (take (length text) bytes) text begins))
      ∙ ended_part c text (drop (length text) bytes) (parts r) lacks ended

-- ---- whether a byte is in a text

lacks_more : (c : ℕ) (text : List ℕ) (at : ℕ) → Lacks c (take at text) → at < length text → eqb (get_or text at 0) c ≡ false → Lacks c (take (at + 1) text)
lacks_more c text at so_far inside other =
    let P : ℕ → Type 0 = λ b. eqb b c ≡ false in
    subst (Lacks c) (sym (take_more text at 0 inside)) (All-append P (take at text) (get_or text at 0 ∷ []) so_far (All-cons P (get_or text at 0) [] other (All-nil P)))

-- one byte more
pub held_more : (c : ℕ) (text : List ℕ) (at : ℕ) (held here : Bool) → at < length text → eqb (get_or text at 0) c ≡ here
    → (held ≡ false → Lacks c (take at text)) × (held ≡ true → Holds c text) → ((held || here) ≡ false → Lacks c (take (at + 1) text)) × ((held || here) ≡ true → Holds c text)
held_more c text at true here inside is so_far = (λ e. absurd cc, λ e. so_far.1 refl)
held_more c text at false true inside is so_far = (λ e. absurd cc, λ e. (at, inside, eqb-true (get_or text at 0) c is))
held_more c text at false false inside is so_far = (λ e. lacks_more c text at (so_far.0 refl) inside is, λ e. absurd cc)

-- ---- a spelling with the space that ends it

spelled_first : {A : Type 0} (spell : A → List ℕ) (read : List ℕ → Option A) (Fits : A → Type 0) → IsExact spell read Fits → (x : A) (bytes rest : List ℕ) → Fits x → is_plain (spell x) ≡ true → bytes ≡ spell x ++ 32 ∷ rest
    → field_at read (split 32 bytes) ≡ Some (x, split 32 rest)
spelled_first spell read Fits exact x bytes rest fits plain is =
    ap (field_at read) (ap (split 32) is ∙ split_front 32 (spell x) rest plain) ∙ field_again spell read Fits exact x (split 32 rest) fits

pub decimal_first : (most n : ℕ) (bytes rest : List ℕ) → most < 2 ^ 64 → n ≤ most → bytes ≡ decimal n ++ 32 ∷ rest → field_at (dec_of most) (split 32 bytes) ≡ Some (n, split 32 rest)
decimal_first most n bytes rest wide le is = spelled_first decimal (dec_of most) (λ m. m ≤ most) (dec_exact most wide) n bytes rest le (decimal_plain n (omega arith)) is

pub eight_near : (word bytes rest : List ℕ) (n : ℕ) → Some n ≡ eight_of word → bytes ≡ word ++ 32 ∷ rest → field_at eight_of (split 32 bytes) ≡ Some (n, split 32 rest)
eight_near word bytes rest n read is =
    let t = hex_eight_exact.takes word n (sym read) in
    spelled_first hex_eight eight_of (λ m. m < 2 ^ 32) hex_eight_exact n bytes rest t.1 (hex_eight_plain n) (is ∙ ap (λ (w : List ℕ). w ++ (32 ∷ rest)) t.0)
