-- Texts that are content of XML.
use Rattle.std.proofs.Common.{◌≡◌, ℕ, zero, suc, ◌+◌, ◌*◌, ◌/◌, ◌%◌, ◌<◌, Bool, true, false, List, [], ◌∷◌, ◌++◌, refl, sym, ◌∙◌, ap, subst, arith, append_assoc, append-nil}
use Rattle.std.specs.Prelude.{◌==◌, ◌&&◌, if◌then◌else◌, codes, decimal, flat_map, min, ◌-◌, nat_lt}
use Rattle.std.specs.Fmt.{digits, digits_onto, digit_glyph}
use Rattle.std.specs.List.{list_all}
use Rattle.std.proofs.lemmas.List.Folds.{list_all-append}
use Rattle.std.proofs.lemmas.List.Concat.{flat_map-cons}
use Rattle.std.proofs.lemmas.Bool.Decides.{nat_tests}
use Rattle.canboot_picture.specs.Xml.{is_plain, is_plain_text, attribute_text, element_text, AreAttributes, no_attribute, attribute}
use Rattle.canboot_picture.specs.Xml.{IsContent, nothing, plain, entity, element, behind, escape, escaped}

-- ---- numbers

-- a digit stands for itself
plain_digit : (d : ℕ) → d < 10 → is_plain (48 + d) ≡ true
plain_digit d h = grind (arith, nat_tests)

plain_glyph : (d : ℕ) → d < 10 → is_plain (digit_glyph false d) ≡ true
plain_glyph d h = let small : nat_lt d 10 ≡ true = grind (arith, nat_tests) in rw small (plain_digit d h)

plain_more : (c : ℕ) (cs : List ℕ) → is_plain c ≡ true → is_plain_text cs ≡ true → is_plain_text (c ∷ cs) ≡ true
plain_more c cs p q = ap (λ (b : Bool). b && is_plain_text cs) p ∙ q

plain_onto : (k n : ℕ) (acc : List ℕ) → is_plain_text acc ≡ true → is_plain_text (digits_onto k 10 false n acc) ≡ true
plain_onto zero n acc h = h
plain_onto (suc k) n acc h =
    let digit : List ℕ = digit_glyph false (n % 10) ∷ acc in
    let more : is_plain_text digit ≡ true = plain_more (digit_glyph false (n % 10)) acc (plain_glyph (n % 10) (omega arith)) h in
    elim (n / 10 == 0) as (λ b. is_plain_text (if b then digit else digits_onto k 10 false (n / 10) digit) ≡ true)
    [ true ↦ more | false ↦ plain_onto k (n / 10) digit more ]

-- both parts of a text stand for themselves
pub plain_both : (one other : List ℕ) → is_plain_text one ≡ true → is_plain_text other ≡ true → is_plain_text (one ++ other) ≡ true
plain_both one other p q = list_all-append is_plain one other ∙ ap (λ (b : Bool). b && is_plain_text other) p ∙ q

-- so does each digit of a number
pub plain_number : (n : ℕ) → is_plain_text (decimal n) ≡ true
unfolding digits
plain_number n = plain_onto 64 n [] refl

pub number : (n : ℕ) → IsContent (decimal n)
number n = plain (decimal n) (plain_number n)

-- ---- text that isn't markup

either : (b : Bool) {one other : List ℕ} → IsContent one → IsContent other → IsContent (if b then one else other)
either true p q = p
either false p q = q

byte_or : (c : ℕ) (b : Bool) → is_plain c ≡ b → IsContent (if b then c ∷ [] else codes "?")
byte_or c true is = plain (c ∷ []) (plain_more c [] is refl)
byte_or c false is = plain (codes "?") refl

byte : (c : ℕ) → IsContent (escape c)
byte c =
    either (c == 34) (entity (codes "quot") refl)
    (either (c == 38) (entity (codes "amp") refl)
    (either (c == 39) (entity (codes "apos") refl)
    (either (c == 60) (entity (codes "lt") refl)
    (either (c == 62) (entity (codes "gt") refl) (byte_or c (is_plain c) refl)))))

pub escapes : (text : List ℕ) → IsContent (escaped text)
escapes [] = nothing
escapes (c ∷ cs) = subst IsContent (sym (flat_map-cons escape c cs)) (behind (escape c) (escaped cs) (byte c) (escapes cs))

-- ---- elements

-- a text of this class at this place
abbrev pub text_line : List ℕ → List ℕ → List ℕ → List ℕ → List ℕ
text_line class x y content =
    codes "<text class=\"" ++ (class ++ (codes "\" x=\"" ++ (x ++ (codes "\" y=\"" ++ (y ++ (codes "\">" ++ (content ++ codes "</text>\n")))))))

pub text_is_content : (class x y content : List ℕ) → is_plain_text class ≡ true → is_plain_text x ≡ true → is_plain_text y ≡ true → IsContent content
    → IsContent (text_line class x y content)
text_is_content class x y content c p q inside =
    let attributes : List ℕ = attribute_text (codes "class") class ++ (attribute_text (codes "x") x ++ (attribute_text (codes "y") y ++ [])) in
    let given : AreAttributes (codes "class" ∷ codes "x" ∷ codes "y" ∷ []) attributes =
    attribute (codes "class") class _ _ refl c refl (attribute (codes "x") x _ _ refl p refl (attribute (codes "y") y _ _ refl q refl no_attribute)) in
    let is : element_text (codes "text") attributes content ++ codes "\n" ≡ text_line class x y content = simp append_assoc in
    subst IsContent is (behind _ _ (element (codes "text") _ attributes content refl given inside) (plain (codes "\n") refl))

-- a rectangle with a title
abbrev pub rect_line : List ℕ → List ℕ → List ℕ → List ℕ → List ℕ → List ℕ → List ℕ
rect_line class x y width height title =
    codes "<rect class=\"" ++ (class ++ (codes "\" x=\"" ++ (x ++ (codes "\" y=\"" ++ (y ++ (codes "\" width=\"" ++ (width ++ (codes "\" height=\""
    ++ (height ++ (codes "\"><title>" ++ (title ++ codes "</title></rect>\n")))))))))))

pub rect_is_content : (class x y width height title : List ℕ) → is_plain_text class ≡ true → is_plain_text x ≡ true → is_plain_text y ≡ true
    → is_plain_text width ≡ true → is_plain_text height ≡ true → IsContent title → IsContent (rect_line class x y width height title)
rect_is_content class x y width height title c p q w h inside =
    let attributes : List ℕ = attribute_text (codes "class") class ++ (attribute_text (codes "x") x ++ (attribute_text (codes "y") y
    ++ (attribute_text (codes "width") width ++ (attribute_text (codes "height") height ++ [])))) in
    let given : AreAttributes (codes "class" ∷ codes "x" ∷ codes "y" ∷ codes "width" ∷ codes "height" ∷ []) attributes =
    attribute (codes "class") class _ _ refl c refl (attribute (codes "x") x _ _ refl p refl (attribute (codes "y") y _ _ refl q refl
    (attribute (codes "width") width _ _ refl w refl (attribute (codes "height") height _ _ refl h refl no_attribute)))) in
    let titled : IsContent (element_text (codes "title") [] title) = element (codes "title") [] [] title refl no_attribute inside in
    let is : element_text (codes "rect") attributes (element_text (codes "title") [] title) ++ codes "\n" ≡ rect_line class x y width height title = simp append_assoc in
    subst IsContent is (behind _ _ (element (codes "rect") _ attributes _ refl given titled) (plain (codes "\n") refl))

-- content of each item
pub each : {A : Type 0} (f : A → List ℕ) (xs : List A) → ((x : A) → IsContent (f x)) → IsContent (flat_map f xs)
each f [] h = nothing
each f (x ∷ xs) h = subst IsContent (sym (flat_map-cons f x xs)) (behind (f x) (flat_map f xs) (h x) (each f xs h))
