-- Which line is that of a boot-up message.
use Rattle.std.proofs.Common.{◌≡◌, ◌≢◌, ◌<◌, ◌≤◌, ◌⊎◌, ◌+◌, ◌/◌, ◌%◌, ℕ, List, [], ◌∷◌, ◌++◌, length, get_or, set, sym, ap, subst, ◌∙◌, inl, inr, arith, length-append}
use Rattle.std.specs.Prelude.{Option, Some, slice_get, slice_index}
use Rattle.std.proofs.lemmas.List.Elements.{All-nil, All-cons}
use Rattle.cm_text.specs.Hex.{glyph}
use Rattle.cm_can.specs.Control.{IsErrorControl}
use Rattle.cm_can.specs.Frames.{data_of}
use Rattle.cm_can.specs.Lines.{AreBytes, IsAdapterText, IsFrameText, IsLog, IsRemoteTail, byte_digits, id_digits}
use Rattle.cm_can.specs.declared.frame.CanFrame.{CanFrame}
use Rattle.cm_can.specs.declared.frame.Kind.{Kind}
use Rattle.cm_can.specs.declared.frame.Kind.TheVariants.{Data, Remote}
use Rattle.cm_can.proofs.OneFrame.{id_one}
use Rattle.cm_can.proofs.Spaces.{same_cut}
use Rattle.std.proofs.Math.Nat.{eq-or-lt_of_le}
use Rattle.std.proofs.lemmas.Bool.{cases_order}
use Rattle.std.proofs.lemmas.List.{get_or-set_same, get_or-set_other}
use Rattle.cm_receiving.specs.BootUps.{EndsNoBootUp, IsBootUp, IsLastBootUp}
use Rattle.cm_receiving.specs.Places.{HasBootUpAt, HasLineAt, IsFrameLine}
use Rattle.cm_receiving.specs.Cutting.{ComeNext, IsCounting}
use Rattle.cm_receiving.specs.declared.line_counter.LineCounter.{LineCounter}
use Rattle.cm_can.specs.declared.format.Format.{Format}
use Rattle.cm_can.specs.declared.format.Format.TheVariants.{CanUtils, Adapter}
use Rattle.cm_nmt.specs.NodeId.{IsNodeId}
use Rattle.cm_receiving.proofs.Lines.{next_byte, same_some}

-- ---- the bytes of a boot-up message

glyph_one : (a b : ℕ) → glyph a ≡ glyph b → a ≡ b
glyph_one a b e = grind arith

byte_one : (a b : ℕ) → glyph (a / 16) ≡ glyph (b / 16) → glyph (a % 16) ≡ glyph (b % 16) → a ≡ b
byte_one a b high low = omega (arith, glyph_one (a / 16) (b / 16) high, glyph_one (a % 16) (b % 16) low)

one_byte : (bytes : List ℕ) (b : ℕ) → byte_digits bytes ≡ byte_digits (b ∷ []) → bytes ≡ b ∷ []
one_byte [] b e = absurd cc
one_byte (a ∷ []) b e =
    let high : glyph (a / 16) ≡ glyph (b / 16) = cc in
    let low : glyph (a % 16) ≡ glyph (b % 16) = cc in
    ap (λ (c : ℕ). c ∷ []) (byte_one a b high low)
one_byte (a ∷ c ∷ bytes) b e = absurd cc

no_letter : (b : ℕ) → (b ≡ 0) ⊎ (b ≡ 128) → glyph (b / 16) ≡ 82 → ⊥
no_letter b (inl e) h = grind arith
no_letter b (inr e) h = grind arith

no_tail : (b : ℕ) (tail : List ℕ) → (b ≡ 0) ⊎ (b ≡ 128) → IsRemoteTail tail → byte_digits (b ∷ []) ≡ tail → ⊥
no_tail b tail is (inl r) e = let first : glyph (b / 16) ≡ 82 = cc in no_letter b is first
no_tail b tail is (inr r) e = let text = r.2 in let first : glyph (b / 16) ≡ 82 = cc in no_letter b is first

small_byte : (b : ℕ) → (b ≡ 0) ⊎ (b ≡ 128) → b < 256
small_byte b (inl e) = omega (arith, e)
small_byte b (inr e) = omega (arith, e)

boot_up_bytes : (node : ℕ) (f : CanFrame) → IsBootUp node f → AreBytes (data_of f)
boot_up_bytes node f is = subst AreBytes (sym is.1.1.2) (All-cons (λ b. b < 256) is.0 [] (small_byte is.0 is.2) (All-nil (λ b. b < 256)))

-- ---- two frames of one text

kinds : {A : Type 0} (kind : Kind) → kind ≡ Data → kind ≡ Remote → A
kinds kind d r = absurd cc

text_of : (text : List ℕ) (node byte : ℕ) (f : CanFrame) → IsErrorControl node byte f → IsFrameText text f → text ≡ id_digits (0x0700 + node) ++ 35 ∷ byte_digits (byte ∷ [])
text_of text node byte f c (inl d) =
    d.1 ∙ (ap (λ (n : ℕ). id_digits n ++ 35 ∷ byte_digits (data_of f)) c.1.1 ∙ ap (λ (bytes : List ℕ). id_digits (0x0700 + node) ++ 35 ∷ byte_digits bytes) c.1.2)
text_of text node byte f c (inr r) = kinds f.kind c.1.0 r.0

heads : (a b : ℕ) (xs ys : List ℕ) → a < 2048 → b < 2048 → id_digits a ++ xs ≡ id_digits b ++ ys → (a ≡ b) × (xs ≡ ys)
heads a b xs ys la lb e =
    let ids : id_digits a ≡ id_digits b = cc in
    let rest : xs ≡ ys = cc in
    (id_one a b la lb ids, rest)

below : (node byte : ℕ) (f : CanFrame) → IsErrorControl node byte f → 0x0700 + node < 2048
below node byte f c = omega (arith, c.0.0, c.0.1)

behind_hash : (xs ys : List ℕ) → 35 ∷ xs ≡ 35 ∷ ys → xs ≡ ys
behind_hash xs ys e = cc

text_boot_up : (text : List ℕ) (node byte : ℕ) (f g : CanFrame) → IsErrorControl node byte g → (byte ≡ 0) ⊎ (byte ≡ 128) → text ≡ id_digits (0x0700 + node) ++ 35 ∷ byte_digits (byte ∷ []) → IsFrameText text f
    → IsErrorControl node byte f
text_boot_up text node byte f g c is e (inl d) =
    let h = heads f.id.number (0x0700 + node) (35 ∷ byte_digits (data_of f)) (35 ∷ byte_digits (byte ∷ [])) f.id.in_range (below node byte g c) (sym d.1 ∙ e) in
    (c.0, (d.0, h.0, one_byte (data_of f) byte (behind_hash (byte_digits (data_of f)) (byte_digits (byte ∷ [])) h.1)))
text_boot_up text node byte f g c is e (inr r) =
    let tail = r.1 in
    let h = heads f.id.number (0x0700 + node) (35 ∷ tail.0) (35 ∷ byte_digits (byte ∷ [])) f.id.in_range (below node byte g c) (sym tail.2 ∙ e) in
    absurd (no_tail byte tail.0 is tail.1 (sym (behind_hash tail.0 (byte_digits (byte ∷ [])) h.1)))

same_log : (line text other : List ℕ) → IsLog line text → IsLog line other → text ≡ other
same_log line text other a b =
    let first = same_cut a.time (a.interface ++ 32 ∷ text) b.time (b.interface ++ 32 ∷ other) a.unspaced.0 b.unspaced.0 (sym a.parts ∙ b.parts) in
    (same_cut a.interface text b.interface other a.unspaced.1 b.unspaced.1 first.1).1

adapter_of : (text : List ℕ) (node byte : ℕ) (f : CanFrame) → IsErrorControl node byte f → IsAdapterText text f → text ≡ 116 ∷ id_digits (0x0700 + node) ++ 49 ∷ byte_digits (byte ∷ [])
adapter_of text node byte f c (inl d) =
    d.1 ∙ (ap (λ (n : ℕ). 116 ∷ id_digits n ++ (48 + length (data_of f)) ∷ byte_digits (data_of f)) c.1.1
    ∙ ap (λ (bytes : List ℕ). 116 ∷ id_digits (0x0700 + node) ++ (48 + length bytes) ∷ byte_digits bytes) c.1.2)
adapter_of text node byte f c (inr r) = kinds f.kind c.1.0 r.0

behind_letter : (xs ys : List ℕ) → 116 ∷ xs ≡ 116 ∷ ys → xs ≡ ys
behind_letter xs ys e = cc

other_letter : (xs ys : List ℕ) → 116 ∷ xs ≡ 114 ∷ ys → ⊥
other_letter xs ys e = omega (arith, ap (λ (l : List ℕ). get_or l 0 0) e)

behind_count : (a b : ℕ) (xs ys : List ℕ) → a ∷ xs ≡ b ∷ ys → xs ≡ ys
behind_count a b xs ys e = cc

adapter_boot_up : (text : List ℕ) (node byte : ℕ) (f g : CanFrame) → IsErrorControl node byte g → text ≡ 116 ∷ id_digits (0x0700 + node) ++ 49 ∷ byte_digits (byte ∷ []) → IsAdapterText text f
    → IsErrorControl node byte f
adapter_boot_up text node byte f g c e (inl d) =
    let mine = (48 + length (data_of f)) ∷ byte_digits (data_of f) in
    let h = heads f.id.number (0x0700 + node) mine (49 ∷ byte_digits (byte ∷ [])) f.id.in_range (below node byte g c)
    (behind_letter (id_digits f.id.number ++ mine) (id_digits (0x0700 + node) ++ 49 ∷ byte_digits (byte ∷ [])) (sym d.1 ∙ e)) in
    (c.0, (d.0, h.0, one_byte (data_of f) byte (behind_count (48 + length (data_of f)) 49 (byte_digits (data_of f)) (byte_digits (byte ∷ [])) h.1)))
adapter_boot_up text node byte f g c e (inr r) =
    let other = r.1 in
    absurd (other_letter (id_digits (0x0700 + node) ++ 49 ∷ byte_digits (byte ∷ [])) (id_digits f.id.number ++ (48 + other.0) ∷ []) (sym e ∙ other.2))

same_boot_up : (format : Format) (line : List ℕ) (node : ℕ) (f g : CanFrame) → IsFrameLine format line f → IsFrameLine format line g → IsBootUp node g → IsBootUp node f
same_boot_up CanUtils line node f g a b is = (
  is.0,
  text_boot_up b.0 node is.0 f g is.1 is.2 (text_of b.0 node is.0 g is.1 b.2) (subst (λ (text : List ℕ). IsFrameText text f) (same_log line a.0 b.0 a.1 b.1) a.2),
  is.2,
)
same_boot_up Adapter line node f g a b is = (is.0, adapter_boot_up line node is.0 f g is.1 (adapter_of line node is.0 g is.1 b) a, is.2)

-- an empty line is that of no frame
no_log : (text : List ℕ) → IsLog [] text → ⊥
no_log text l = omega (arith, ap length l.parts, length-append l.time (32 ∷ (l.interface ++ 32 ∷ text)), l.timed.two)

no_frame : (format : Format) (f : CanFrame) → IsFrameLine format [] f → ⊥
no_frame CanUtils f l = no_log l.0 l.1
no_frame Adapter f (inl d) = let e = d.1 in absurd cc
no_frame Adapter f (inr r) = let e = r.1.2 in absurd cc

-- ---- the line that a byte ends

abbrev pub IsKnown : Option (List ℕ) → LineCounter → Type 0
IsKnown text old = (t : List ℕ) → text ≡ Some t → IsCounting t old

module _ (format : Format) (text : Option (List ℕ)) (place b n : ℕ) (old : LineCounter) where
  module _ (here : place ≡ old.taken) (there : old.taken ≡ n) (next : ComeNext text n (b ∷ [])) (known : IsKnown text old) where
    byte_at : (t : List ℕ) → text ≡ Some t → slice_get t old.taken ≡ Some b
    byte_at t e = subst (λ (k : ℕ). slice_get t k ≡ Some b) (sym there) (next_byte text n b next t e)

    -- where no line is ended that is to be read
    pub no_line : ((t : List ℕ) → slice_get t old.taken ≡ Some b → IsCounting t old → (line : List ℕ) → HasLineAt t old.taken line → length line ≤ 128 → line ≡ []) → (node : ℕ) → EndsNoBootUp format text node place
    no_line none node = λ t e has.
        let is_empty = none t (byte_at t e) (known t e) has.line (subst (λ (k : ℕ). HasLineAt t k has.line) here has.at) has.short in
        no_frame format has.frame (subst (λ (line : List ℕ). IsFrameLine format line has.frame) is_empty has.is)

    module _ (line : List ℕ) (spot : ℕ) (spot_is : spot ≡ old.taken) (only : (t : List ℕ) → slice_get t old.taken ≡ Some b → IsCounting t old → (other : List ℕ) → HasLineAt t spot other → other ≡ line) where
      this_line : (t : List ℕ) (node : ℕ) → text ≡ Some t → (has : HasBootUpAt format t node place) → IsFrameLine format line has.frame
      this_line t node e has =
          subst (λ (other : List ℕ). IsFrameLine format other has.frame)
          (only t (byte_at t e) (known t e) has.line (subst (λ (k : ℕ). HasLineAt t k has.line) (here ∙ sym spot_is) has.at)) has.is

      -- where the line is that of no frame
      pub no_frame_there : ((f : CanFrame) → AreBytes (data_of f) → IsFrameLine format line f → ⊥) → (node : ℕ) → EndsNoBootUp format text node place
      no_frame_there none node = λ t e has. none has.frame (boot_up_bytes node has.frame (has.byte, has.control, has.boot_up)) (this_line t node e has)

      -- where it is that of a frame
      pub other_frame : (f : CanFrame) → IsFrameLine format line f → (node : ℕ) → (IsBootUp node f → ⊥) → EndsNoBootUp format text node place
      other_frame f is node none = λ t e has. none (same_boot_up format line node f has.frame is (this_line t node e has) (has.byte, has.control, has.boot_up))

-- ---- what is kept of them

module _ (format : Format) (text : Option (List ℕ)) where
  pub last_more : (n last taken : ℕ) → IsLastBootUp format text n last taken → EndsNoBootUp format text n taken → IsLastBootUp format text n last (taken + 1)
  last_more n last taken before none place behind within = by_place (eq-or-lt_of_le {n = place} {m = taken} (omega (arith, within)))
    where
      by_place : (place ≡ taken) ⊎ (place < taken) → EndsNoBootUp format text n place
      by_place (inl e) = subst (λ (k : ℕ). EndsNoBootUp format text n k) (sym e) none
      by_place (inr l) = before place behind l

  pub passed : (last : List ℕ) (taken old : ℕ) → taken ≡ old → ((n : ℕ) → n < 128 → IsLastBootUp format text n (slice_index last n) taken) → ((n : ℕ) → EndsNoBootUp format text n old)
      → (n : ℕ) → n < 128 → IsLastBootUp format text n (slice_index last n) (taken + 1)
  passed last taken old is before none n few =
      last_more n (slice_index last n) taken (before n few) (subst (λ (k : ℕ). EndsNoBootUp format text n k) (sym is) (none n))

  -- a boot-up message of this node is noted
  pub noted : (last : List ℕ) (index node taken old : ℕ) → index ≡ node → taken ≡ old → index < length last → ((n : ℕ) → n < 128 → IsLastBootUp format text n (slice_index last n) taken) → ((n : ℕ) → n ≢ node → EndsNoBootUp format text n old)
      → (n : ℕ) → n < 128 → IsLastBootUp format text n (slice_index (set last index taken) n) (taken + 1)
  noted last index node taken old index_is is inside before others n few = by_node (cases_order n index)
    where
      this : n ≡ index → IsLastBootUp format text n (slice_index (set last index taken) n) (taken + 1)
      this e place behind within =
          let at : slice_index (set last index taken) n ≡ taken = ap (λ (k : ℕ). slice_index (set last index taken) k) e ∙ get_or-set_same last index taken 0 inside in
          absurd (omega (arith, at, behind, within))

      other : n ≢ index → IsLastBootUp format text n (slice_index (set last index taken) n) (taken + 1)
      other not =
          subst (λ (k : ℕ). IsLastBootUp format text n k (taken + 1)) (sym (get_or-set_other last index n taken 0 not))
          (last_more n (slice_index last n) taken (before n few) (subst (λ (k : ℕ). EndsNoBootUp format text n k) (sym is) (others n (λ e. not (e ∙ sym index_is)))))

      by_node : (n ≡ index) ⊎ ((n < index) ⊎ (index < n)) → IsLastBootUp format text n (slice_index (set last index taken) n) (taken + 1)
      by_node (inl e) = this e
      by_node (inr (inl l)) = other (λ e. omega (arith, e, l))
      by_node (inr (inr l)) = other (λ e. omega (arith, e, l))

  -- what is kept of the node of a frame
  pub kept_of : (last : List ℕ) (taken now n node index : ℕ) → taken ≡ now → ((n : ℕ) → n < 128 → IsLastBootUp format text n (slice_index last n) taken) → Some node ≡ Some n → index ≡ node → IsNodeId n
      → IsLastBootUp format text n (slice_index last index) now
  kept_of last taken now n node index is kept node_is index_is id =
      let same : n ≡ index = sym (same_some node n node_is) ∙ sym index_is in
      subst (λ (k : ℕ). IsLastBootUp format text n (slice_index last k) now) same
      (subst (λ (k : ℕ). IsLastBootUp format text n (slice_index last n) k) is (kept n (omega (arith, id.0, id.1))))
