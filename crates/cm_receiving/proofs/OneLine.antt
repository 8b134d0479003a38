-- One line stands at the end of bytes, and how a byte more ends it or goes on with it.
use Rattle.std.proofs.Common.{◌≡◌, ◌<◌, ◌≤◌, ◌⊎◌, ℕ, suc, Bool, true, false, List, [], ◌∷◌, ◌++◌, All, length, refl, sym, ap, subst, ◌∙◌, inl, inr, append_assoc, arith, length-append}
use Rattle.std.specs.Prelude.{IsFalse, IsTrue}
use Rattle.std.proofs.lemmas.List.{append-nil, get_or_append_left}
use Rattle.std.proofs.lemmas.List.Elements.{All-nil, All-cons, All-append}
use Rattle.cm_receiving.specs.Places.{EndsLine, EndsWithLine, IsLineStart}
use Rattle.cm_receiving.specs.Cutting.{IsCutting}
use Rattle.cm_receiving.specs.declared.line_cutter.LineCutter.{LineCutter}

abbrev pub IsUnbroken : List ℕ → Type 0
IsUnbroken line = All (λ b. EndsLine b → ⊥) line

-- ---- one line

less_of : (b : ℕ) (bs front : List ℕ) (c : ℕ) → EndsLine c → b ∷ bs ≡ front ++ c ∷ [] → IsLineStart bs
less_of b bs [] c ends e = let rest : bs ≡ [] = cc in inl rest
less_of b bs (x ∷ front) c ends e = let rest : bs ≡ front ++ c ∷ [] = cc in inr (front, c, ends, rest)

start_less : (b : ℕ) (bs : List ℕ) → IsLineStart (b ∷ bs) → IsLineStart bs
start_less b bs (inl e) = absurd cc
start_less b bs (inr s) = less_of b bs s.0 s.1 s.2 s.3

broken : (front : List ℕ) (c : ℕ) (line : List ℕ) → EndsLine c → IsUnbroken (front ++ c ∷ line) → ⊥
broken [] c line ends all = all 0 c (omega arith) ends
broken (x ∷ xs) c line ends all = broken xs c line ends (λ k d l. all (suc k) d (omega arith))

no_start : (b : ℕ) (bs line : List ℕ) → IsLineStart (b ∷ bs) → IsUnbroken ((b ∷ bs) ++ line) → ⊥
no_start b bs line (inl e) all = absurd cc
no_start b bs line (inr s) all =
    broken s.0 s.1 line s.2 (subst IsUnbroken (ap (λ (l : List ℕ). l ++ line) s.3 ∙ append_assoc s.0 (s.1 ∷ []) line) all)

same_end : (first second line other : List ℕ) → IsLineStart first → IsLineStart second → IsUnbroken line → IsUnbroken other → first ++ line ≡ second ++ other → line ≡ other
same_end [] [] line other sf ss ul uo e = e
same_end [] (y ∷ ys) line other sf ss ul uo e = absurd (no_start y ys other ss (subst IsUnbroken e ul))
same_end (x ∷ xs) [] line other sf ss ul uo e = absurd (no_start x xs line sf (subst IsUnbroken (sym e) uo))
same_end (x ∷ xs) (y ∷ ys) line other sf ss ul uo e =
    let tails : xs ++ line ≡ ys ++ other = cc in same_end xs ys line other (start_less x xs sf) (start_less y ys ss) ul uo tails

pub one_line : (taken line other : List ℕ) → EndsWithLine taken line → EndsWithLine taken other → line ≡ other
one_line taken line other a b = same_end a.before b.before line other a.starts b.starts a.unbroken b.unbroken (sym a.parts ∙ b.parts)

-- ---- a byte more

last_one : (xs ys : List ℕ) (a b : ℕ) → xs ++ a ∷ [] ≡ ys ++ b ∷ [] → (xs ≡ ys) × (a ≡ b)
last_one [] [] a b e = let same : a ≡ b = cc in (refl, same)
last_one [] (y ∷ ys) a b e = absurd (omega (arith, ap length e, length-append ys (b ∷ [])))
last_one (x ∷ xs) [] a b e = absurd (omega (arith, ap length e, length-append xs (a ∷ [])))
last_one (x ∷ xs) (y ∷ ys) a b e =
    let heads : x ≡ y = cc in
    let tails : xs ++ a ∷ [] ≡ ys ++ b ∷ [] = cc in
    let r = last_one xs ys a b tails in
    let fronts : xs ≡ ys = r.0 in
    let whole : x ∷ xs ≡ y ∷ ys = cc in
    (whole, r.1)

snoc_more : (x : ℕ) (xs : List ℕ) → (xs ≡ []) ⊎ ((front : List ℕ) × (b : ℕ) × (xs ≡ front ++ b ∷ [])) → (x ∷ xs ≡ []) ⊎ ((front : List ℕ) × (b : ℕ) × (x ∷ xs ≡ front ++ b ∷ []))
snoc_more x xs (inl e) = inr ([], x, ap (λ (l : List ℕ). x ∷ l) e)
snoc_more x xs (inr s) = inr (x ∷ s.0, s.1, ap (λ (l : List ℕ). x ∷ l) s.2)

snoc_of : (xs : List ℕ) → (xs ≡ []) ⊎ ((front : List ℕ) × (b : ℕ) × (xs ≡ front ++ b ∷ []))
snoc_of [] = inl refl
snoc_of (x ∷ xs) = snoc_more x xs (snoc_of xs)

not_start : (taken : List ℕ) (b : ℕ) → (EndsLine b → ⊥) → IsLineStart (taken ++ b ∷ []) → ⊥
not_start taken b goes (inl e) = absurd (omega (arith, ap length e, length-append taken (b ∷ [])))
not_start taken b goes (inr s) = goes (subst EndsLine (sym (last_one taken s.0 b s.1 s.3).1) s.2)

front_whole : (front rest : List ℕ) → IsUnbroken (front ++ rest) → IsUnbroken front
front_whole front rest all = λ k d l. subst (λ (b : ℕ). EndsLine b → ⊥) (get_or_append_left front rest d k l) (all k d (omega (arith, l, length-append front rest)))

less_cut : (taken line : List ℕ) (b : ℕ) → (EndsLine b → ⊥) → EndsWithLine (taken ++ b ∷ []) line → (line ≡ []) ⊎ ((front : List ℕ) × (c : ℕ) × (line ≡ front ++ c ∷ []))
    → (less : List ℕ) × EndsWithLine taken less × (line ≡ less ++ b ∷ [])
less_cut taken line b goes w (inl e) =
    absurd (not_start taken b goes (subst IsLineStart (sym (w.parts ∙ (ap (λ (l : List ℕ). w.before ++ l) e ∙ append-nil w.before))) w.starts))
less_cut taken line b goes w (inr s) =
    let cut = last_one taken (w.before ++ s.0) b s.1 (w.parts ∙ (ap (λ (l : List ℕ). w.before ++ l) s.2 ∙ sym (append_assoc w.before s.0 (s.1 ∷ [])))) in (
      s.0,
      record { before = w.before; starts = w.starts; unbroken = front_whole s.0 (s.1 ∷ []) (subst IsUnbroken s.2 w.unbroken); parts = cut.0 },
      s.2 ∙ ap (λ (c : ℕ). s.0 ++ c ∷ []) (sym cut.1),
    )

-- behind a byte that ends no line, the line is the one before with this byte
less_line : (taken line : List ℕ) (b : ℕ) → (EndsLine b → ⊥) → EndsWithLine (taken ++ b ∷ []) line → (less : List ℕ) × EndsWithLine taken less × (line ≡ less ++ b ∷ [])
less_line taken line b goes w = less_cut taken line b goes w (snoc_of line)

still_long : (taken : List ℕ) (b : ℕ) → (EndsLine b → ⊥) → ((less : List ℕ) → EndsWithLine taken less → 128 < length less) → (line : List ℕ) → EndsWithLine (taken ++ b ∷ []) line → 128 < length line
still_long taken b goes long line w = let r = less_line taken line b goes w in omega (arith, long r.0 r.1, ap length r.2, length-append r.0 (b ∷ []))

now_long : (taken before : List ℕ) (b : ℕ) → (EndsLine b → ⊥) → EndsWithLine taken before → 128 ≤ length before → (line : List ℕ) → EndsWithLine (taken ++ b ∷ []) line → 128 < length line
now_long taken before b goes had full line w =
    let r = less_line taken line b goes w in omega (arith, full, ap length (one_line taken r.0 before r.1 had), ap length r.2, length-append r.0 (b ∷ []))

by_length : (P : Type 0) (long : Bool) → (IsFalse long → P) → (IsTrue long → P) → P
by_length P true short far = far refl
by_length P false short far = short refl

one_longer : (taken before : List ℕ) (b : ℕ) → (EndsLine b → ⊥) → EndsWithLine taken before → EndsWithLine (taken ++ b ∷ []) (before ++ b ∷ [])
one_longer taken before b goes w = record {
  before = w.before;
  starts = w.starts;
  unbroken = all_one before w.unbroken;
  parts = ap (λ (l : List ℕ). l ++ b ∷ []) w.parts ∙ append_assoc w.before before (b ∷ []);
}
  where
    all_one : (line : List ℕ) → IsUnbroken line → IsUnbroken (line ++ b ∷ [])
    all_one line all = All-append (λ c. EndsLine c → ⊥) line (b ∷ []) all (All-cons (λ c. EndsLine c → ⊥) b [] goes (All-nil (λ c. EndsLine c → ⊥)))

pub goes_on : (b : ℕ) → (b ≡ 10 → ⊥) → (b ≡ 13 → ⊥) → EndsLine b → ⊥
goes_on b feed carriage (inl e) = feed e
goes_on b feed carriage (inr e) = carriage e

-- a cutter that has taken a byte more of its line
pub cutting_on : (taken : List ℕ) (b : ℕ) (old new : LineCutter) → (EndsLine b → ⊥) → (IsFalse old.is_too_long → EndsWithLine taken old.line.items)
    → (IsTrue old.is_too_long → (line : List ℕ) → EndsWithLine taken line → 128 < length line) → IsFalse new.is_ended
    → (IsFalse new.is_too_long → IsFalse old.is_too_long × (new.line.items ≡ old.line.items ++ b ∷ [])) → (IsTrue new.is_too_long → IsFalse old.is_too_long → 128 ≤ length old.line.items)
    → IsCutting (taken ++ b ∷ []) new
cutting_on taken b old new goes had far going added full = record {
  ended = λ h. absurd cc;
  going = λ e short. let a = added short in subst (EndsWithLine (taken ++ b ∷ [])) (sym a.1) (one_longer taken old.line.items b goes (had a.0));
  long = λ e is line w. by_length (128 < length line) old.is_too_long (λ s. now_long taken old.line.items b goes (had s) (full is s) line w) (λ f. still_long taken b goes (far f) line w);
}

-- and one that has taken the end of its line
pub cutting_end : (taken : List ℕ) (b : ℕ) (new : LineCutter) → EndsLine b → IsTrue new.is_ended → IsCutting (taken ++ b ∷ []) new
cutting_end taken b new ends is = record { ended = λ h. inr (taken, b, ends, refl); going = λ e s. absurd cc; long = λ e s. absurd cc }

-- where the end of a line isn't told, the line is empty or too long
pub ended_none : (taken : List ℕ) (old : LineCutter) → (IsFalse old.is_too_long → EndsWithLine taken old.line.items)
    → (IsTrue old.is_too_long → (line : List ℕ) → EndsWithLine taken line → 128 < length line) → (IsFalse old.is_too_long → old.line.items ≡ []) → (line : List ℕ) → EndsWithLine taken line → length line ≤ 128 → line ≡ []
ended_none taken old had far empty line w small =
    by_length (line ≡ []) old.is_too_long (λ s. one_line taken line old.line.items w (had s) ∙ empty s) (λ f. absurd (omega (arith, far f line w, small)))
