-- Where a first part ends, and what reads it without a look for its end.
use Rattle.std.proofs.Common.{◌≡◌, ℕ, ◌<◌, ◌≤◌, Bool, true, false, cond, eqb, ltb, List, [], ◌∷◌, ◌++◌, length, get_or, take, drop, Option, Some, None, refl, sym, ap, subst, ◌∙◌, arith, append-nil, ne_eqb, take-append-drop}
use Rattle.std.specs.List.{onto_first}
use Rattle.std.proofs.lemmas.Bool.{ltb-true}
use Rattle.std.proofs.lemmas.List.Sums.{AllPass-from_list_all}
use Rattle.std.proofs.lemmas.List.Elements.{All-nil, All-cons}
use Rattle.std.proofs.lemmas.List.Splits.{slice_split_none, slice_split_at}
use Rattle.cm_text.specs.Plain.{is_plain}
use Rattle.cm_text.specs.Words.{Words, split}
use Rattle.cm_text.specs.FieldReading.{with_rest, field_at}
use Rattle.cm_text.specs.Ends.{behind, Lacks, IsOfOtherWidth, IsFirst}
use Rattle.cm_text.proofs.Digits.{respelled_is, not_some}

-- a part behind which it ends is the first one
pub ended_part : (c : ℕ) (w tail : List ℕ) (ws : Words) → Lacks c w → behind c tail ≡ Some ws → split c (w ++ tail) ≡ w ∷ ws
ended_part c w [] ws lacks e = rw append-nil (slice_split_none (λ b. eqb b c) w lacks ∙ ap (λ (l : Words). w ∷ l) (cc))
ended_part c w (b ∷ bs) ws lacks e =
    let h = respelled_is (eqb b c) (split c bs) ws e in
    slice_split_at (λ b. eqb b c) w b bs lacks h.0 ∙ ap (λ (l : Words). w ∷ l) h.1

-- what a first part is: the bytes up to where it ends
pub record IsPart (c : ℕ) (bytes w : List ℕ) (ws : Words) : Type 0 where
  pub lacks : Lacks c w
  pub front : take (length w) bytes ≡ w
  pub ended : behind c (drop (length w) bytes) ≡ Some ws
  pub short : length w ≤ length bytes

HasPart : ℕ → List ℕ → Words → Type 0
HasPart c bytes [] = ⊥
HasPart c bytes (w ∷ ws) = IsPart c bytes w ws

one_more : (c b : ℕ) (bs : List ℕ) (parts : Words) (here : Bool) → eqb b c ≡ here → split c bs ≡ parts → HasPart c bs parts → HasPart c (b ∷ bs) (cond here ([] ∷ parts) (onto_first b parts))
unfolding HasPart
one_more c b bs parts true test is has = record { lacks = All-nil (λ x. eqb x c ≡ false); front = refl; ended = rw (test, is) refl; short = omega arith }
one_more c b bs [] false test is has = absurd has
one_more c b bs (v ∷ vs) false test is has =
    record { lacks = All-cons (λ x. eqb x c ≡ false) b v test has.lacks; front = ap (λ (l : List ℕ). b ∷ l) has.front; ended = has.ended; short = omega (arith, has.short) }

has_part : (c : ℕ) (bytes : List ℕ) → HasPart c bytes (split c bytes)
unfolding HasPart
has_part c [] = record { lacks = All-nil (λ x. eqb x c ≡ false); front = refl; ended = refl; short = omega arith }
has_part c (b ∷ bs) = one_more c b bs (split c bs) (eqb b c) refl refl (has_part c bs)

pub first_part : (c : ℕ) (bytes w : List ℕ) (ws : Words) → split c bytes ≡ w ∷ ws → IsPart c bytes w ws
unfolding HasPart
first_part c bytes w ws e = subst (HasPart c bytes) e (has_part c bytes)

-- ---- a part of so many bytes

plain_lacks : (w : List ℕ) → is_plain w ≡ true → Lacks 32 w
plain_lacks w plain k d inside = ne_eqb (get_or w k d) 32 (λ e. omega (arith, e, ltb-true _ _ (AllPass-from_list_all (λ b. ltb 32 b) w plain k d inside)))

pub is_first : (width : ℕ) (bytes : List ℕ) (rest : Words) → width ≤ length bytes → behind 32 (drop width bytes) ≡ Some rest → IsFirst width (take width bytes) rest (split 32 bytes)
is_first width bytes rest inside ended = record {
  only = λ w more e wide. (let p = first_part 32 bytes w more e in (cc (p.front, wide), cc (p.ended, wide, ended)));
  plain = λ plain. (ap (split 32) (sym (take-append-drop width bytes)) ∙ ended_part 32 (take width bytes) (drop width bytes) rest (plain_lacks (take width bytes) plain) ended);
}

pub too_short : (c width : ℕ) (bytes : List ℕ) → length bytes < width → IsOfOtherWidth width (split c bytes)
too_short c width bytes short w more e wide = let p = first_part c bytes w more e in omega (arith, p.short)

pub goes_on : (c width : ℕ) (bytes : List ℕ) → behind c (drop width bytes) ≡ None → IsOfOtherWidth width (split c bytes)
goes_on c width bytes more_bytes w more e wide = let p = first_part c bytes w more e in cc (p.ended, wide)

-- ---- what takes only plain parts of so many bytes reads what was cut so

module _ {A : Type 0} (read : List ℕ → Option A) where
  -- a first part that is read has so many bytes
  abbrev pub OfWidth : ℕ → Words → Type 0
  OfWidth width ws = (w : List ℕ) (more : Words) (x : A) → ws ≡ w ∷ more → read w ≡ Some x → length w ≡ width

  pub unread : (ws : Words) → ((w : List ℕ) (more : Words) (x : A) → ws ≡ w ∷ more → read w ≡ Some x → ⊥) → field_at read ws ≡ None
  unfolding field_at
  unread [] never = refl
  unread (w ∷ more) never = rw (not_some (read w) (λ x e. never w more x refl e)) refl

  pub read_none : (width : ℕ) (ws : Words) → IsOfOtherWidth width ws → OfWidth width ws → field_at read ws ≡ None
  read_none width ws other wide = unread ws (λ w more x is e. other w more is (wide w more x is e))

  read_by : (width : ℕ) (word : List ℕ) (rest ws : Words) (o : Option A) → read word ≡ o → IsFirst width word rest ws → OfWidth width ws → ((x : A) → o ≡ Some x → is_plain word ≡ true) → field_at read ws ≡ with_rest o rest
  unfolding field_at
  read_by width word rest ws (Some x) e first wide plain = rw (first.plain (plain x refl), e) refl
  read_by width word rest [] None e first wide plain = refl
  read_by width word rest (w ∷ more) None e first wide plain =
      rw (not_some (read w) (λ x is. let same = (first.only w more refl (wide w more x refl is)).0 in cc)) refl

  pub read_first : (width : ℕ) (word : List ℕ) (rest ws : Words) → IsFirst width word rest ws → OfWidth width ws → ((x : A) → read word ≡ Some x → is_plain word ≡ true) → field_at read ws ≡ with_rest (read word) rest
  read_first width word rest ws first wide plain = read_by width word rest ws (read word) refl first wide plain
