-- What is cut out of a text that is received, and where it stands there.
use Rattle.std.proofs.Common.{◌≡◌, ℕ, zero, suc, ◌+◌, List, [], ◌∷◌, ◌++◌, length, take, drop, refl, sym, ap, subst, ◌∙◌, arith}
use Rattle.std.specs.Prelude.{Option, Some, None, slice_get}
use Rattle.std.specs.Io.KnownBytes.{Consumes}
use Rattle.std.proofs.lemmas.List.{take_more, drop_more, take-append-drop, length-take-le, drop-drop, drop_at, take_at}
use Rattle.std.proofs.lemmas.Option.{slice_get_within, get_or_from_slice_get}
use Rattle.cm_receiving.specs.Places.{EndsLine, EndsWithLine, HasLineAt, LineStandsIn}
use Rattle.cm_receiving.specs.Cutting.{ComeNext, IsCounting, IsCutting, IsLeft}
use Rattle.cm_receiving.specs.declared.line_counter.LineCounter.{LineCounter}
use Rattle.cm_receiving.specs.declared.line_cutter.LineCutter.{LineCutter}

-- ---- the byte that comes next

one_more : (t : List ℕ) (n b : ℕ) → slice_get t n ≡ Some b → take (n + 1) t ≡ take n t ++ b ∷ []
one_more t n b e = take_more t n 0 (slice_get_within t n b e) ∙ ap (λ (x : ℕ). take n t ++ x ∷ []) (get_or_from_slice_get t n b 0 e)

in_parts : (t : List ℕ) (n b : ℕ) → slice_get t n ≡ Some b → t ≡ take n t ++ b ∷ drop (n + 1) t
in_parts t n b e =
    sym (take-append-drop n t)
    ∙ ap (λ (r : List ℕ). take n t ++ r) (drop_more t n 0 (slice_get_within t n b e) ∙ ap (λ (x : ℕ). x ∷ drop (n + 1) t) (get_or_from_slice_get t n b 0 e))

pub next_byte : (text : Option (List ℕ)) (place b : ℕ) → ComeNext text place (b ∷ []) → (t : List ℕ) → text ≡ Some t → slice_get t place ≡ Some b
next_byte text place b h t e = let z : place + 0 ≡ place = omega arith in subst (λ (k : ℕ). slice_get t k ≡ Some b) z (h t e 0 b refl)

pub cut_more : (t : List ℕ) (n b : ℕ) (old new : LineCutter) → slice_get t n ≡ Some b → IsCutting (take n t) old → ((taken : List ℕ) → IsCutting taken old → IsCutting (taken ++ b ∷ []) new) → IsCutting (take (n + 1) t) new
cut_more t n b old new e c h = subst (λ (l : List ℕ). IsCutting l new) (sym (one_more t n b e)) (h (take n t) c)

pub line_at : (t : List ℕ) (n b : ℕ) (line : List ℕ) → slice_get t n ≡ Some b → EndsLine b → EndsWithLine (take n t) line → HasLineAt t n line
line_at t n b line e ends last = record {
  taken = take n t;
  ending = b;
  rest = drop (n + 1) t;
  parts = in_parts t n b e;
  place_is = (let within = slice_get_within t n b e in length-take-le n t (omega arith));
  ends = ends;
  last = last;
}

get_seam : (front : List ℕ) (b : ℕ) (rest : List ℕ) → slice_get (front ++ b ∷ rest) (length front) ≡ Some b
get_seam [] b rest = refl
get_seam (x ∷ front) b rest = get_seam front b rest

pub same_some : (a b : ℕ) → Some a ≡ Some b → a ≡ b
same_some a b e = cc

-- a line that stands at a place is the end of the bytes before it
pub line_before : (t : List ℕ) (n b : ℕ) (line : List ℕ) → slice_get t n ≡ Some b → HasLineAt t n line → EndsLine b × EndsWithLine (take n t) line
line_before t n b line at h =
    let ending : slice_get t n ≡ Some h.ending = ap (λ (l : List ℕ). slice_get l n) h.parts
    ∙ subst (λ (k : ℕ). slice_get (h.taken ++ h.ending ∷ h.rest) k ≡ Some h.ending) h.place_is (get_seam h.taken h.ending h.rest) in
    let front : take n t ≡ h.taken = ap (λ (l : List ℕ). take n l) h.parts ∙ take_at h.taken (h.ending ∷ h.rest) n h.place_is in
    (subst EndsLine (sym (same_some b h.ending (sym at ∙ ending))) h.ends, subst (λ (l : List ℕ). EndsWithLine l line) (sym front) h.last)

-- ---- bytes that come next

pub come_one : (text : Option (List ℕ)) (place : ℕ) (bytes : List ℕ) (i b : ℕ) → ComeNext text place bytes → slice_get bytes i ≡ Some b → ComeNext text (place + i) (b ∷ [])
come_one text place bytes i b h at t e zero x q = let z : place + i ≡ place + i + 0 = omega arith in subst (λ (k : ℕ). slice_get t k ≡ Some x) z (h t e i x (at ∙ q))
come_one text place bytes i b h at t e (suc k) x q = absurd (cc (q))

get_behind : (t : List ℕ) (n k : ℕ) → slice_get (drop n t) k ≡ slice_get t (n + k)
get_behind t zero k = let z : k ≡ 0 + k = omega arith in ap (λ (j : ℕ). slice_get t j) z
get_behind [] (suc n) k = refl
get_behind (x ∷ t) (suc n) k = let z : suc n + k ≡ suc (n + k) = omega arith in get_behind t n k ∙ sym (ap (λ (j : ℕ). slice_get (x ∷ t) j) z)

get_before : (xs ys : List ℕ) (k b : ℕ) → slice_get xs k ≡ Some b → slice_get (xs ++ ys) k ≡ Some b
get_before [] ys k b e = absurd cc
get_before (x ∷ xs) ys zero b e = e
get_before (x ∷ xs) ys (suc k) b e = get_before xs ys k b e

-- what a read leaves of known bytes
left_by : (old : List ℕ) (new : Option (List ℕ)) (bs : List ℕ) → Consumes (Some old) new bs → (ys : List ℕ) × (new ≡ Some ys) × (old ≡ bs ++ ys)
left_by old None bs c = absurd c
left_by old (Some ys) bs c = (ys, refl, c)

pub come_read : (text : Option (List ℕ)) (place : ℕ) (old new : Option (List ℕ)) (bs : List ℕ) → IsLeft text place old → Consumes old new bs → ComeNext text place bs
come_read text place old new bs left c t e k b at =
    let r = left_by (drop place t) new bs (subst (λ (o : Option (List ℕ)). Consumes o new bs) (left t e) c) in
    sym (get_behind t place k) ∙ (ap (λ (l : List ℕ). slice_get l k) r.2 ∙ get_before bs r.0 k b at)

pub left_read : (text : Option (List ℕ)) (place : ℕ) (old new : Option (List ℕ)) (bs : List ℕ) → IsLeft text place old → Consumes old new bs → IsLeft text (place + length bs) new
left_read text place old new bs left c t e =
    let r = left_by (drop place t) new bs (subst (λ (o : Option (List ℕ)). Consumes o new bs) (left t e) c) in
    r.1 ∙ ap (λ (l : List ℕ). Some l) (sym (drop_at bs r.0 (length bs) refl) ∙ (ap (λ (l : List ℕ). drop (length bs) l) (sym r.2) ∙ drop-drop (length bs) place t))

-- what is known of a text stays known of it behind the byte that comes next
pub counted_more : (text : Option (List ℕ)) (n b : ℕ) (old new : LineCounter) → old.taken ≡ n → ComeNext text n (b ∷ []) → ((t : List ℕ) → slice_get t old.taken ≡ Some b → IsCounting t old → IsCounting t new)
    → ((t : List ℕ) → text ≡ Some t → IsCounting t old) → (t : List ℕ) → text ≡ Some t → IsCounting t new
counted_more text n b old new same next more known t e =
    more t (subst (λ (k : ℕ). slice_get t k ≡ Some b) (sym same) (next_byte text n b next t e)) (known t e)

-- and so the line stands there that it ends
pub counted_line : (text : Option (List ℕ)) (n b place : ℕ) (line : List ℕ) (old : LineCounter) → old.taken ≡ n → ComeNext text n (b ∷ [])
    → ((t : List ℕ) → slice_get t old.taken ≡ Some b → IsCounting t old → HasLineAt t place line)
    → ((t : List ℕ) → text ≡ Some t → IsCounting t old) → LineStandsIn text place line
counted_line text n b place line old same next at known t e =
    at t (subst (λ (k : ℕ). slice_get t k ≡ Some b) (sym same) (next_byte text n b next t e)) (known t e)
