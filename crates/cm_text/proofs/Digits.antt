-- Hexadecimal fields are read exactly.
use Rattle.std.proofs.Common.{◌≡◌, ℕ, ◌+◌, ◌*◌, ◌/◌, ◌%◌, ◌^◌, ◌<◌, ◌≤◌, Bool, true, false, cond, eqb, ltb, List, [], ◌∷◌, ◌++◌, length, map, get_or, Option, Some, None, refl, sym, ap, ◌∙◌, subst, arith, eqb-true, eq-eqb}
use Rattle.std.proofs.lemmas.Bool.Decides.{nat_tests}
use Rattle.std.specs.Prelude.{◌-◌, MatchOption, replicate, Result, Ok, Err}
use Rattle.std.specs.Result.{OkIff, result_ok}
use Rattle.std.specs.List.{range_with_len}
use Rattle.std.proofs.lemmas.List.FromFn.{get_or-map-range_with_len}
use Rattle.cm_text.specs.Exact.{IsExact, respelled}
use Rattle.cm_text.specs.Plain.{is_plain}
use Rattle.cm_text.specs.Hex.{glyph, nibble, two, four, hex_two, hex_four, hex_eight, two_of, four_of, eight_of, padded, digits_of}
use Rattle.cm_text.proofs.Fronts.{same, same_itself}

-- ---- a value that is spelled again

pub respelled_is : {A : Type 0} (b : Bool) (x y : A) → cond b (Some x) None ≡ Some y → (b ≡ true) × (x ≡ y)
respelled_is true x y e = (refl, cc)
respelled_is false x y e = absurd cc

pub respelled_again : {A : Type 0} (spell : A → List ℕ) (x y : A) → y ≡ x → respelled spell y (spell x) ≡ Some x
respelled_again spell x y e = rw (e, same_itself (spell x)) refl

-- ---- one digit

nibble_glyph : (d : ℕ) → d < 16 → nibble (glyph d) ≡ d
nibble_glyph d lt = grind (arith, nat_tests)

glyph_plain : (d : ℕ) → ltb 32 (glyph d) ≡ true
glyph_plain d = grind (arith, nat_tests)

glyph_small : (d : ℕ) → d < 16 → glyph d < 71
glyph_small d lt = grind (arith, nat_tests)

nibble_small : (c : ℕ) → nibble c < 16
nibble_small c = grind (arith, nat_tests)

-- ---- two digits

two_small : (a b : ℕ) → two a b < 2 ^ 8
unfolding two
two_small a b = omega (arith, nibble_small a, nibble_small b)

two_glyphs : (n : ℕ) → n < 2 ^ 8 → two (glyph (n / 16)) (glyph (n % 16)) ≡ n
unfolding two
two_glyphs n lt =
    let high : n / 16 < 16 = omega arith in
    let low : n % 16 < 16 = omega arith in
    rw (nibble_glyph (n / 16) high, nibble_glyph (n % 16) low) (omega arith)

two_takes : (w : List ℕ) (n : ℕ) → two_of w ≡ Some n → (w ≡ hex_two n) × (n < 2 ^ 8)
unfolding two_of
two_takes (a ∷ b ∷ []) n e =
    let h = respelled_is _ _ _ e in
    (sym (same _ _ h.0) ∙ ap hex_two h.1, omega (arith, h.1, two_small a b))
two_takes [] n e = absurd cc
two_takes (a ∷ []) n e = absurd cc
two_takes (a ∷ b ∷ c ∷ w) n e = absurd cc

two_again : (n : ℕ) → n < 2 ^ 8 → two_of (hex_two n) ≡ Some n
unfolding two_of hex_two
two_again n lt = respelled_again hex_two n _ (two_glyphs n lt)

pub hex_two_exact : IsExact hex_two two_of (λ n. n < 2 ^ 8)
hex_two_exact = record { takes = two_takes; again = two_again }

pub hex_two_length : (n : ℕ) → length (hex_two n) ≡ 2
unfolding hex_two
hex_two_length n = refl

pub hex_two_plain : (n : ℕ) → is_plain (hex_two n) ≡ true
unfolding hex_two
hex_two_plain n = rw (glyph_plain (n / 16), glyph_plain (n % 16)) refl

-- ---- four digits

four_small : (a b c d : ℕ) → four a b c d < 2 ^ 16
unfolding four
four_small a b c d = omega (arith, two_small a b, two_small c d)

four_glyphs : (n : ℕ) → n < 2 ^ 16 → four (glyph (n / 256 / 16)) (glyph (n / 256 % 16)) (glyph (n % 256 / 16)) (glyph (n % 256 % 16)) ≡ n
unfolding four
four_glyphs n lt =
    let high : n / 256 < 2 ^ 8 = omega arith in
    let low : n % 256 < 2 ^ 8 = omega arith in
    rw (two_glyphs (n / 256) high, two_glyphs (n % 256) low) (omega arith)

four_takes : (w : List ℕ) (n : ℕ) → four_of w ≡ Some n → (w ≡ hex_four n) × (n < 2 ^ 16)
unfolding four_of
four_takes (a ∷ b ∷ c ∷ d ∷ []) n e =
    let h = respelled_is _ _ _ e in
    (sym (same _ _ h.0) ∙ ap hex_four h.1, omega (arith, h.1, four_small a b c d))
four_takes [] n e = absurd cc
four_takes (a ∷ []) n e = absurd cc
four_takes (a ∷ b ∷ []) n e = absurd cc
four_takes (a ∷ b ∷ c ∷ []) n e = absurd cc
four_takes (a ∷ b ∷ c ∷ d ∷ x ∷ w) n e = absurd cc

four_again : (n : ℕ) → n < 2 ^ 16 → four_of (hex_four n) ≡ Some n
unfolding four_of hex_four hex_two
four_again n lt = respelled_again hex_four n _ (four_glyphs n lt)

pub hex_four_exact : IsExact hex_four four_of (λ n. n < 2 ^ 16)
hex_four_exact = record { takes = four_takes; again = four_again }

pub hex_four_length : (n : ℕ) → length (hex_four n) ≡ 4
unfolding hex_four hex_two
hex_four_length n = refl

pub hex_four_plain : (n : ℕ) → is_plain (hex_four n) ≡ true
unfolding hex_four hex_two
hex_four_plain n = simp glyph_plain

-- ---- eight digits

eight_takes : (w : List ℕ) (n : ℕ) → eight_of w ≡ Some n → (w ≡ hex_eight n) × (n < 2 ^ 32)
unfolding eight_of
eight_takes (a ∷ b ∷ c ∷ d ∷ e ∷ f ∷ g ∷ h ∷ []) n eq =
    let k = respelled_is _ _ _ eq in
    (sym (same _ _ k.0) ∙ ap hex_eight k.1, omega (arith, k.1, four_small a b c d, four_small e f g h))
eight_takes [] n eq = absurd cc
eight_takes (a ∷ []) n eq = absurd cc
eight_takes (a ∷ b ∷ []) n eq = absurd cc
eight_takes (a ∷ b ∷ c ∷ []) n eq = absurd cc
eight_takes (a ∷ b ∷ c ∷ d ∷ []) n eq = absurd cc
eight_takes (a ∷ b ∷ c ∷ d ∷ e ∷ []) n eq = absurd cc
eight_takes (a ∷ b ∷ c ∷ d ∷ e ∷ f ∷ []) n eq = absurd cc
eight_takes (a ∷ b ∷ c ∷ d ∷ e ∷ f ∷ g ∷ []) n eq = absurd cc
eight_takes (a ∷ b ∷ c ∷ d ∷ e ∷ f ∷ g ∷ h ∷ i ∷ w) n eq = absurd cc

eight_again : (n : ℕ) → n < 2 ^ 32 → eight_of (hex_eight n) ≡ Some n
unfolding eight_of hex_eight hex_four hex_two
eight_again n lt =
    let high : n / 65536 < 2 ^ 16 = omega arith in
    let low : n % 65536 < 2 ^ 16 = omega arith in
    let value : four (glyph (n / 65536 / 256 / 16)) (glyph (n / 65536 / 256 % 16)) (glyph (n / 65536 % 256 / 16)) (glyph (n / 65536 % 256 % 16)) * 65536
    + four (glyph (n % 65536 / 256 / 16)) (glyph (n % 65536 / 256 % 16)) (glyph (n % 65536 % 256 / 16)) (glyph (n % 65536 % 256 % 16)) ≡ n =
    rw (four_glyphs (n / 65536) high, four_glyphs (n % 65536) low) (omega arith) in
    respelled_again hex_eight n _ value

pub hex_eight_exact : IsExact hex_eight eight_of (λ n. n < 2 ^ 32)
hex_eight_exact = record { takes = eight_takes; again = eight_again }

pub hex_eight_plain : (n : ℕ) → is_plain (hex_eight n) ≡ true
unfolding hex_eight hex_four hex_two
hex_eight_plain n = simp glyph_plain

pub hex_eight_length : (n : ℕ) → length (hex_eight n) ≡ 8
unfolding hex_eight hex_four hex_two
hex_eight_length n = refl

-- the first digit is no small letter, so no lower-case word begins so
pub hex_eight_head : (n : ℕ) → n < 2 ^ 32 → get_or (hex_eight n) 0 0 < 71
unfolding hex_eight hex_four hex_two
hex_eight_head n lt = glyph_small (n / 65536 / 256 / 16) (omega arith)

-- ---- digits that are read one by one

pub not_some : {A : Type 0} (o : Option A) → ((x : A) → o ≡ Some x → ⊥) → o ≡ None
not_some None never = refl
not_some (Some x) never = absurd (never x refl)

-- the value of two parts, if both have one
abbrev pub joined : ℕ → Option ℕ → Option ℕ → Option ℕ
joined base (Some high) (Some low) = Some (high * base + low)
joined base (Some high) None = None
joined base None low = None

-- a field is read by its two parts, where each is read exactly, and so is the whole
module _ {half whole : ℕ → List ℕ} {read read_whole : List ℕ → Option ℕ} {base wide : ℕ}
    (exact : IsExact half read (λ n. n < base)) (exact_whole : IsExact whole read_whole (λ n. n < wide))
    (spelled : (x y : ℕ) → x < base → y < base → (whole (x * base + y) ≡ half x ++ half y) × (x * base + y < wide))
    (small : (n : ℕ) → n < wide → (n / base < base) × (n % base < base))
    (u v : List ℕ) (cut : (n : ℕ) → u ++ v ≡ whole n → (u ≡ half (n / base)) × (v ≡ half (n % base))) where
  join_by : (p q : Option ℕ) → read u ≡ p → read v ≡ q → read_whole (u ++ v) ≡ joined base p q
  join_by (Some x) (Some y) e f =
      let h = exact.takes u x e in
      let l = exact.takes v y f in
      let s = spelled x y h.1 l.1 in
      let is : u ++ v ≡ whole (x * base + y) = rw (h.0, l.0) (sym s.0) in
      ap read_whole is ∙ exact_whole.again (x * base + y) s.1
  join_by (Some x) None e f = not_some (read_whole (u ++ v)) (λ n g.
      let t = exact_whole.takes (u ++ v) n g in
      let again = exact.again (n % base) (small n t.1).1 in
      let part = (cut n t.0).1 in cc)
  join_by None q e f = not_some (read_whole (u ++ v)) (λ n g.
      let t = exact_whole.takes (u ++ v) n g in
      let again = exact.again (n / base) (small n t.1).0 in
      let part = (cut n t.0).0 in cc)

  join : read_whole (u ++ v) ≡ joined base (read u) (read v)
  join = join_by (read u) (read v) refl refl

-- what a byte is worth, if it is a digit
abbrev pub worth_of : ℕ → Option ℕ
worth_of c = cond (eqb (glyph (nibble c)) c) (Some (nibble c)) None

one : ℕ → List ℕ
one n = glyph n ∷ []

one_of : List ℕ → Option ℕ
one_of [] = None
one_of (c ∷ []) = worth_of c
one_of (c ∷ d ∷ w) = None

one_takes : (w : List ℕ) (n : ℕ) → one_of w ≡ Some n → (w ≡ one n) × (n < 16)
unfolding one_of one
one_takes [] n e = absurd cc
one_takes (c ∷ []) n e =
    let h = respelled_is (eqb (glyph (nibble c)) c) (nibble c) n e in
    let is : glyph (nibble c) ≡ c = eqb-true _ _ h.0 in
    (rw (← h.1, is) refl, omega (arith, h.1, nibble_small c))
one_takes (c ∷ d ∷ w) n e = absurd cc

one_again : (n : ℕ) → n < 16 → one_of (one n) ≡ Some n
unfolding one_of one
one_again n lt = let same : nibble (glyph n) ≡ n = nibble_glyph n lt in rw (same, eq-eqb (glyph n) (glyph n) refl) refl

one_exact : IsExact one one_of (λ n. n < 16)
one_exact = record { takes = one_takes; again = one_again }

pub two_joined : (a b : ℕ) → two_of (a ∷ b ∷ []) ≡ joined 16 (worth_of a) (worth_of b)
unfolding hex_two one one_of
two_joined a b =
    let spelled : (x y : ℕ) → x < 16 → y < 16 → (hex_two (x * 16 + y) ≡ one x ++ one y) × (x * 16 + y < 2 ^ 8) = λ x y p q.
    let high : (x * 16 + y) / 16 ≡ x = omega arith in
    let low : (x * 16 + y) % 16 ≡ y = omega arith in
    (rw (high, low) refl, omega arith) in
    join one_exact hex_two_exact spelled (λ n lt. (omega arith, omega arith)) (a ∷ []) (b ∷ []) (λ n e. (cc, cc))

pub four_joined : (a b c d : ℕ) → four_of (a ∷ b ∷ c ∷ d ∷ []) ≡ joined 256 (two_of (a ∷ b ∷ [])) (two_of (c ∷ d ∷ []))
unfolding hex_four hex_two
four_joined a b c d =
    let spelled : (x y : ℕ) → x < 2 ^ 8 → y < 2 ^ 8 → (hex_four (x * 256 + y) ≡ hex_two x ++ hex_two y) × (x * 256 + y < 2 ^ 16) = λ x y p q.
    let high : (x * 256 + y) / 256 ≡ x = omega arith in
    let low : (x * 256 + y) % 256 ≡ y = omega arith in
    (rw (high, low) refl, omega arith) in
    join hex_two_exact hex_four_exact spelled (λ n lt. (omega arith, omega arith)) (a ∷ b ∷ []) (c ∷ d ∷ []) (λ n e. (cc, cc))

pub eight_joined : (a b c d e f g h : ℕ) → eight_of (a ∷ b ∷ c ∷ d ∷ e ∷ f ∷ g ∷ h ∷ []) ≡ joined 65536 (four_of (a ∷ b ∷ c ∷ d ∷ [])) (four_of (e ∷ f ∷ g ∷ h ∷ []))
unfolding hex_eight hex_four hex_two
eight_joined a b c d e f g h =
    let spelled : (x y : ℕ) → x < 2 ^ 16 → y < 2 ^ 16 → (hex_eight (x * 65536 + y) ≡ hex_four x ++ hex_four y) × (x * 65536 + y < 2 ^ 32) = λ x y p q.
    let high : (x * 65536 + y) / 65536 ≡ x = omega arith in
    let low : (x * 65536 + y) % 65536 ≡ y = omega arith in
    (rw (high, low) refl, omega arith) in
    join hex_four_exact hex_eight_exact spelled (λ n lt. (omega arith, omega arith)) (a ∷ b ∷ c ∷ d ∷ []) (e ∷ f ∷ g ∷ h ∷ []) (λ n e. (cc, cc))

-- ---- digits that are weighed: 2^32 for a byte that is none, which outweighs all that they spell

-- the sum stands for what is spelled, and is 2^32 or more where nothing is
abbrev pub Weighs : Option ℕ → ℕ → Type 0
Weighs o n = MatchOption o (2 ^ 32 ≤ n) (λ x. n ≡ x)

abbrev pub weight : ℕ → ℕ
weight c = cond (eqb (glyph (nibble c)) c) (nibble c) (2 ^ 32)

unfoldable pub weights : List ℕ
weights = map weight (range_with_len 0 256)

weighed : (b : Bool) (n : ℕ) → n < 16 → Weighs (cond b (Some n) None) (cond b n (2 ^ 32)) × (cond b n (2 ^ 32) ≤ 2 ^ 32)
weighed true n small = (refl, omega arith)
weighed false n small = (omega arith, omega arith)

pub digit_weighs : (c : ℕ) → c < 256 → Weighs (worth_of c) (get_or weights c 0) × (get_or weights c 0 ≤ 2 ^ 32)
unfolding weights
digit_weighs c within =
    let at : get_or (map weight (range_with_len 0 256)) c 0 ≡ weight c = get_or-map-range_with_len weight 0 256 c c 0 within (omega arith) in
    rw at (weighed (eqb (glyph (nibble c)) c) (nibble c) (nibble_small c))

pub joined_weighs : (base : ℕ) (p q : Option ℕ) (t u : ℕ) → t ≤ t * base → Weighs p t → Weighs q u → Weighs (joined base p q) (t * base + u)
joined_weighs base None q t u more h k = omega (arith, h)
joined_weighs base (Some x) None t u more h k = omega (arith, k)
joined_weighs base (Some x) (Some y) t u more h k = cc

pub two_weighs : (a b t u : ℕ) → Weighs (worth_of a) t → Weighs (worth_of b) u → Weighs (two_of (a ∷ b ∷ [])) (t * 16 + u)
two_weighs a b t u h k = rw two_joined (joined_weighs 16 (worth_of a) (worth_of b) t u (omega arith) h k)

pub four_weighs : (a b c d t u : ℕ) → Weighs (two_of (a ∷ b ∷ [])) t → Weighs (two_of (c ∷ d ∷ [])) u → Weighs (four_of (a ∷ b ∷ c ∷ d ∷ [])) (t * 256 + u)
four_weighs a b c d t u h k = rw four_joined (joined_weighs 256 (two_of (a ∷ b ∷ [])) (two_of (c ∷ d ∷ [])) t u (omega arith) h k)

eight_weighs : (a b c d e f g h t u : ℕ) → Weighs (four_of (a ∷ b ∷ c ∷ d ∷ [])) t → Weighs (four_of (e ∷ f ∷ g ∷ h ∷ [])) u
    → Weighs (eight_of (a ∷ b ∷ c ∷ d ∷ e ∷ f ∷ g ∷ h ∷ [])) (t * 65536 + u)
eight_weighs a b c d e f g h t u p q = rw eight_joined (joined_weighs 65536 (four_of (a ∷ b ∷ c ∷ d ∷ [])) (four_of (e ∷ f ∷ g ∷ h ∷ [])) t u (omega arith) p q)

-- a weight that fits is what is spelled
fitted : {E : Type 0} (o : Option ℕ) (n k : ℕ) (t : Result ℕ E) → OkIff t (n < k) n → Weighs o n → ((x : ℕ) → o ≡ Some x → x < k) → k ≤ 2 ^ 32 → result_ok t ≡ o
fitted None n k (Ok x) fits weighs small wide = absurd (omega (arith, fits.0))
fitted None n k (Err e) fits weighs small wide = refl
fitted (Some y) n k (Ok x) fits weighs small wide = cc (fits.1, weighs)
fitted (Some y) n k (Err e) fits weighs small wide = absurd (fits (omega (arith, weighs, small y refl)))

-- the eight bytes of an array
pub octet_weighs : (w : List ℕ) (t u : ℕ) → length w ≡ 8 → Weighs (four_of (get_or w 0 0 ∷ get_or w 1 0 ∷ get_or w 2 0 ∷ get_or w 3 0 ∷ [])) t
    → Weighs (four_of (get_or w 4 0 ∷ get_or w 5 0 ∷ get_or w 6 0 ∷ get_or w 7 0 ∷ [])) u → Weighs (eight_of w) (t * 65536 + u)
octet_weighs (a ∷ b ∷ c ∷ d ∷ e ∷ f ∷ g ∷ h ∷ []) t u eight p q = eight_weighs a b c d e f g h t u p q
octet_weighs [] t u eight p q = absurd cc
octet_weighs (a ∷ []) t u eight p q = absurd cc
octet_weighs (a ∷ b ∷ []) t u eight p q = absurd cc
octet_weighs (a ∷ b ∷ c ∷ []) t u eight p q = absurd cc
octet_weighs (a ∷ b ∷ c ∷ d ∷ []) t u eight p q = absurd cc
octet_weighs (a ∷ b ∷ c ∷ d ∷ e ∷ []) t u eight p q = absurd cc
octet_weighs (a ∷ b ∷ c ∷ d ∷ e ∷ f ∷ []) t u eight p q = absurd cc
octet_weighs (a ∷ b ∷ c ∷ d ∷ e ∷ f ∷ g ∷ []) t u eight p q = absurd cc
octet_weighs (a ∷ b ∷ c ∷ d ∷ e ∷ f ∷ g ∷ h ∷ i ∷ w) t u eight p q = absurd (omega (arith, eight))

-- ---- fewer digits than eight, with 0 in front

joined_zero : (base : ℕ) (o : Option ℕ) → joined base (Some 0) o ≡ o
joined_zero base None = refl
joined_zero base (Some n) = let same : 0 * base + n ≡ n = omega arith in ap Some same

-- a field of another width isn't read
other_width : (width : ℕ) (w : List ℕ) → (length w ≡ width → ⊥) → digits_of width w ≡ None
other_width width w other = by_test (eqb (length w) width) refl
  where
    by_test : (b : Bool) → eqb (length w) width ≡ b → cond b (eight_of (padded w)) None ≡ None
    by_test true e = absurd (other (eqb-true _ _ e))
    by_test false e = refl

pub two_digits : (w : List ℕ) → digits_of 2 w ≡ two_of w
unfolding four_of two_of hex_four hex_two four two
two_digits [] = refl
two_digits (a ∷ []) = refl
two_digits (a ∷ b ∷ []) = eight_joined 48 48 48 48 48 48 a b ∙ joined_zero 65536 _ ∙ four_joined 48 48 a b ∙ joined_zero 256 _
two_digits (a ∷ b ∷ c ∷ w) = other_width 2 (a ∷ b ∷ c ∷ w) (λ e. omega (arith, e))

pub four_digits : (w : List ℕ) → digits_of 4 w ≡ four_of w
unfolding four_of hex_four hex_two four two
four_digits [] = refl
four_digits (a ∷ []) = refl
four_digits (a ∷ b ∷ []) = refl
four_digits (a ∷ b ∷ c ∷ []) = refl
four_digits (a ∷ b ∷ c ∷ d ∷ []) = eight_joined 48 48 48 48 a b c d ∙ joined_zero 65536 _
four_digits (a ∷ b ∷ c ∷ d ∷ e ∷ w) = other_width 4 (a ∷ b ∷ c ∷ d ∷ e ∷ w) (λ e. omega (arith, e))

pub eight_digits : (w : List ℕ) → digits_of 8 w ≡ eight_of w
eight_digits w = by_test (eqb (length w) 8) refl
  where
    by_test : (b : Bool) → eqb (length w) 8 ≡ b → cond b (eight_of (padded w)) None ≡ eight_of w
    by_test true e = ap (λ (n : ℕ). eight_of (replicate (8 - n) 48 ++ w)) (eqb-true (length w) 8 e)
    by_test false e = sym (not_some (eight_of w) (λ n is.
        let long : length w ≡ 8 = ap length (eight_takes w n is).0 ∙ hex_eight_length n in
        let test : eqb (length w) 8 ≡ true = eq-eqb (length w) 8 long in
        cc))

-- digits that are weighed are what is read of them
pub weighed_read : {E : Type 0} {spell : ℕ → List ℕ} {read : List ℕ → Option ℕ} (width k : ℕ) → IsExact spell read (λ n. n < k) → ((w : List ℕ) → digits_of width w ≡ read w)
    → k ≤ 2 ^ 32 → (w : List ℕ) (n : ℕ) (t : Result ℕ E) → OkIff t (n < k) n → Weighs (digits_of width w) n → result_ok t ≡ read w
weighed_read {read = read} width k exact digits wide w n t fits weighs =
    fitted (read w) n k t fits (subst (λ (o : Option ℕ). Weighs o n) (digits w) weighs) (λ x e. (exact.takes w x e).1) wide
