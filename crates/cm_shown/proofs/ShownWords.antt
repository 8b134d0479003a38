-- A line, word by word.
use Rattle.std.proofs.Common.{◌≡◌, ◌∙◌, ℕ, Bool, true, false, List, [], ◌∷◌, ◌++◌, Option, Some, None, append_assoc, append-nil, refl, sym, ap, subst}
use Rattle.std.specs.Prelude.{MatchBool, option_and_then}
use Rattle.std.specs.List.{join_with_byte}
use Rattle.cm_text.specs.FieldReading.{is_empty}
use Rattle.cm_text.specs.Words.{Words, split}
use Rattle.cm_shown.specs.Names.{node_of}
use Rattle.cm_shown.specs.Shown.{IsShown, bare, before_feed, colour_in, is_fault, is_object, leads_on, name_behind, shown_whole, shown_word, shown_words}
use Rattle.cm_shown.specs.declared.shown.Colour.{Colour}

joined : (text shown rest : List ℕ) → text ++ (shown ++ (32 ∷ rest)) ≡ ((text ++ shown) ++ 32 ∷ []) ++ rest
joined text shown rest = sym (append_assoc (text ++ shown) (32 ∷ []) rest ∙ append_assoc text shown (32 ∷ rest))

-- a word is shown that others follow
pub word_more : (coloured : Bool) (names : ℕ → Option (List ℕ)) (before : List ℕ) (leads : Bool) (w : List ℕ) (ws : Words) (text : List ℕ) → is_empty ws ≡ false
    → text ++ join_with_byte 32 (shown_words coloured names before leads (w ∷ ws))
    ≡ ((text ++ shown_word (colour_in coloured before w) (name_behind names leads w) w) ++ 32 ∷ []) ++ join_with_byte 32 (shown_words coloured names w (leads_on leads w) ws)
unfolding shown_words
word_more coloured names before leads w [] text more = absurd cc
word_more coloured names before leads w (v ∷ vs) text more = joined text (shown_word (colour_in coloured before w) (name_behind names leads w) w) _

-- the last word is shown
pub word_last : (coloured : Bool) (names : ℕ → Option (List ℕ)) (before : List ℕ) (leads : Bool) (w : List ℕ) (ws : Words) (text : List ℕ) → is_empty ws ≡ true
    → text ++ join_with_byte 32 (shown_words coloured names before leads (w ∷ ws))
    ≡ (text ++ shown_word (colour_in coloured before w) (name_behind names leads w) w) ++ join_with_byte 32 (shown_words coloured names w (leads_on leads w) ws)
unfolding shown_words
word_last coloured names before leads w [] text last = sym (append-nil _)
word_last coloured names before leads w (v ∷ vs) text last = absurd cc

-- no word is left to show
pub words_end : (coloured : Bool) (names : ℕ → Option (List ℕ)) (before : List ℕ) (leads : Bool) (ws : Words) (text : List ℕ) → ws ≡ []
    → text ≡ text ++ join_with_byte 32 (shown_words coloured names before leads ws)
unfolding shown_words
words_end coloured names before leads [] text end = sym (append-nil text)
words_end coloured names before leads (w ∷ ws) text end = absurd cc

-- ---- a turn of the loop, where the word's parts are those of the word

module _ (coloured : Bool) (names : ℕ → Option (List ℕ)) (before : List ℕ) (leads : Bool) (w : List ℕ) (ws all : Words) (text put whole : List ℕ)
    (colour : Option Colour) (name : Option (List ℕ)) (next : Bool) (split : all ≡ w ∷ ws)
    (so_far : text ++ join_with_byte 32 (shown_words coloured names before leads all) ≡ whole) (putted : put ≡ text ++ shown_word colour name w)
    (colour_is : colour ≡ colour_in coloured before w) (name_is : name ≡ name_behind names leads w) (next_is : next ≡ leads_on leads w) where
  put_is : put ≡ text ++ shown_word (colour_in coloured before w) (name_behind names leads w) w
  put_is = putted ∙ ap (λ (c : Option Colour). text ++ shown_word c name w) colour_is ∙ ap (λ (n : Option (List ℕ)). text ++ shown_word (colour_in coloured before w) n w) name_is

  from_start : text ++ join_with_byte 32 (shown_words coloured names before leads (w ∷ ws)) ≡ whole
  from_start = ap (λ (vs : Words). text ++ join_with_byte 32 (shown_words coloured names before leads vs)) (sym split) ∙ so_far

  -- other words follow
  pub turn_more : is_empty ws ≡ false → (put ++ 32 ∷ []) ++ join_with_byte 32 (shown_words coloured names w next ws) ≡ whole
  turn_more more =
      ap (λ (t : List ℕ). (t ++ 32 ∷ []) ++ join_with_byte 32 (shown_words coloured names w next ws)) put_is
      ∙ ap (λ (b : Bool). ((text ++ shown_word (colour_in coloured before w) (name_behind names leads w) w) ++ 32 ∷ []) ++ join_with_byte 32 (shown_words coloured names w b ws)) next_is
      ∙ sym (word_more coloured names before leads w ws text more) ∙ from_start

  -- it is the last word
  pub turn_last : is_empty ws ≡ true → put ++ join_with_byte 32 (shown_words coloured names w next ws) ≡ whole
  turn_last last =
      ap (λ (t : List ℕ). t ++ join_with_byte 32 (shown_words coloured names w next ws)) put_is
      ∙ ap (λ (b : Bool). (text ++ shown_word (colour_in coloured before w) (name_behind names leads w) w) ++ join_with_byte 32 (shown_words coloured names w b ws)) next_is
      ∙ sym (word_last coloured names before leads w ws text last) ∙ from_start

-- ---- names that are alike

names_alike : (f g : ℕ → Option (List ℕ)) → ((id : ℕ) → f id ≡ g id) → (o : Option ℕ) → option_and_then f o ≡ option_and_then g o
names_alike f g same None = refl
names_alike f g same (Some id) = same id

behind_alike : (f g : ℕ → Option (List ℕ)) → ((id : ℕ) → f id ≡ g id) → (leads : Bool) (w : List ℕ) → name_behind f leads w ≡ name_behind g leads w
behind_alike f g same true w = names_alike f g same (node_of (bare w))
behind_alike f g same false w = refl

-- words are shown alike where each node has the same name
pub words_alike : (coloured : Bool) (f g : ℕ → Option (List ℕ)) → ((id : ℕ) → f id ≡ g id) → (before : List ℕ) (leads : Bool) (ws : Words)
    → shown_words coloured f before leads ws ≡ shown_words coloured g before leads ws
unfolding shown_words
words_alike coloured f g same before leads [] = refl
words_alike coloured f g same before leads (w ∷ ws) =
    ap (λ (name : Option (List ℕ)). shown_word (colour_in coloured before w) name w ∷ shown_words coloured f w (leads_on leads w) ws) (behind_alike f g same leads w)
    ∙ ap (λ (vs : Words). shown_word (colour_in coloured before w) (name_behind g leads w) w ∷ vs) (words_alike coloured f g same w (leads_on leads w) ws)

-- and so is a line
pub whole_alike : (coloured : Bool) (f g : ℕ → Option (List ℕ)) → ((id : ℕ) → f id ≡ g id) → (line : List ℕ) → shown_whole coloured f line ≡ shown_whole coloured g line
whole_alike coloured f g same line =
    ap (λ (vs : Words). join_with_byte 32 vs ++ 10 ∷ []) (words_alike coloured f g same [] false (split 32 (before_feed line)))

-- ---- a line as it is shown

module _ (coloured : Bool) (f names : ℕ → Option (List ℕ)) (line come front text : List ℕ) (came : come ≡ line) (is : text ≡ front ++ shown_whole coloured f come) where
  text_is : (g : ℕ → Option (List ℕ)) → ((id : ℕ) → f id ≡ g id) → text ≡ front ++ shown_whole coloured g line
  text_is g same = is ∙ ap (λ (l : List ℕ). front ++ shown_whole coloured f l) came ∙ ap (λ (t : List ℕ). front ++ t) (whole_alike coloured f g same line)

  abbrev Told : Bool → Type 0
  Told fault = MatchBool fault (text ≡ shown_whole coloured (λ id. None) line) ((time : List ℕ) × (text ≡ time ++ shown_whole coloured names line))

  by_kind : (b : Bool) → is_object line ≡ false → is_fault line ≡ b → Told b → IsShown coloured names line text
  by_kind b told kind so = subst (λ (x : Bool). MatchBool x (text ≡ line) (Told (is_fault line))) (sym told) (subst Told (sym kind) so)

  -- one of fault
  pub fault_shown : is_object line ≡ false → is_fault line ≡ true → front ≡ [] → ((id : ℕ) → f id ≡ None) → IsShown coloured names line text
  fault_shown told fault empty none = by_kind true told fault (text_is (λ id. None) none ∙ ap (λ (t : List ℕ). t ++ shown_whole coloured (λ id. None) line) empty)

  -- any other
  pub line_shown : is_object line ≡ false → is_fault line ≡ false → ((id : ℕ) → f id ≡ names id) → IsShown coloured names line text
  line_shown told other same = by_kind false told other (front, text_is names same)

-- an object of JSON as it is shown
pub object_shown : (coloured : Bool) (names : ℕ → Option (List ℕ)) (line text : List ℕ) → is_object line ≡ true → text ≡ line → IsShown coloured names line text
object_shown coloured names line text object is =
    subst (λ (x : Bool). MatchBool x (text ≡ line) (MatchBool (is_fault line) (text ≡ shown_whole coloured (λ id. None) line) ((time : List ℕ) × (text ≡ time ++ shown_whole coloured names line)))) (sym object) is
