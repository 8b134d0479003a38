-- Well-formed XML, as much of it as a picture has (XML 1.0, in ASCII: no comment, no section of characters, no type).
use Rattle.std.specs.Prelude.{◌≡◌, ℕ, Bool, true, false, ◌==◌, ◌&&◌, ◌||◌, not, nat_le, if◌then◌else◌, List, [], ◌∷◌, ◌++◌, codes, bytes_eq, flat_map}
use Rattle.std.specs.List.{list_all, list_any}

-- ---- bytes and names

-- a letter
abbrev pub is_letter : ℕ → Bool
is_letter c = nat_le 97 c && nat_le c 122 || nat_le 65 c && nat_le c 90

-- what may stand in a name: a letter, a digit, '-' or ':'
abbrev pub is_name_byte : ℕ → Bool
is_name_byte c = is_letter c || nat_le 48 c && nat_le c 57 || c == 45 || c == 58

-- a name: a letter, and behind it what may stand in a name
abbrev pub is_name : List ℕ → Bool
is_name [] = false
is_name (c ∷ cs) = is_letter c && list_all is_name_byte cs

-- a byte with a meaning of its own: " & ' < >
abbrev pub is_markup : ℕ → Bool
is_markup c = c == 34 || c == 38 || c == 39 || c == 60 || c == 62

-- a byte that stands for itself: a line feed, or of ASCII what is printed, but none with a meaning of its own
abbrev pub is_plain : ℕ → Bool
is_plain c = (c == 10 || nat_le 32 c && nat_le c 126) && not (is_markup c)

-- each byte of the text stands for itself
abbrev pub is_plain_text : List ℕ → Bool
is_plain_text text = list_all is_plain text

-- the name of an entity that each XML has
abbrev pub is_entity : List ℕ → Bool
is_entity name =
    bytes_eq name (codes "quot") || bytes_eq name (codes "amp") || bytes_eq name (codes "apos") || bytes_eq name (codes "lt")
    || bytes_eq name (codes "gt")

-- ---- elements

-- an attribute, behind a space
abbrev pub attribute_text : List ℕ → List ℕ → List ℕ
attribute_text name value = codes " " ++ (name ++ (codes "=\"" ++ (value ++ codes "\"")))

-- an element of this name, these attributes and this content, which is closed by its own name
abbrev pub element_text : List ℕ → List ℕ → List ℕ → List ℕ
element_text name attributes content =
    codes "<" ++ (name ++ (attributes ++ (codes ">" ++ (content ++ (codes "</" ++ (name ++ codes ">"))))))

-- an element without content
abbrev pub empty_text : List ℕ → List ℕ → List ℕ
empty_text name attributes = codes "<" ++ (name ++ (attributes ++ codes "/>"))

-- attributes of these names, none of which comes twice; their values have only bytes that stand for themselves
pub data AreAttributes : List (List ℕ) → List ℕ → Type 0 where
  no_attribute : AreAttributes [] []
  attribute : (name value : List ℕ) (names : List (List ℕ)) (more : List ℕ) → is_name name ≡ true → is_plain_text value ≡ true
      → list_any (bytes_eq name) names ≡ false → AreAttributes names more → AreAttributes (name ∷ names) (attribute_text name value ++ more)

-- content: nothing; bytes that stand for themselves; an entity; an element with its content, or without; and content with content
-- behind it
pub data IsContent : List ℕ → Type 0 where
  nothing : IsContent []
  plain : (text : List ℕ) → is_plain_text text ≡ true → IsContent text
  entity : (name : List ℕ) → is_entity name ≡ true → IsContent (codes "&" ++ (name ++ codes ";"))
  element : (name : List ℕ) (names : List (List ℕ)) (attributes content : List ℕ) → is_name name ≡ true
      → AreAttributes names attributes → IsContent content → IsContent (element_text name attributes content)
  empty : (name : List ℕ) (names : List (List ℕ)) (attributes : List ℕ) → is_name name ≡ true → AreAttributes names attributes
      → IsContent (empty_text name attributes)
  behind : (first second : List ℕ) → IsContent first → IsContent second → IsContent (first ++ second)

-- what may stand before a document's element
abbrev pub declaration : List ℕ
declaration = codes "<?xml version=\"1.0\" encoding=\"UTF-8\"?>\n"

-- a document: the declaration, one element, and a line feed
pub record IsDocument (text : List ℕ) : Type 0 where
  pub name : List ℕ
  pub names : List (List ℕ)
  pub attributes : List ℕ
  pub content : List ℕ
  pub named : is_name name ≡ true
  pub given : AreAttributes names attributes
  pub well_formed : IsContent content
  pub is : text ≡ declaration ++ (element_text name attributes content ++ codes "\n")

-- ---- text that isn't markup

-- a byte as it is written: an entity where it has a meaning of its own, '?' where it can't be written
abbrev pub escape : ℕ → List ℕ
escape c =
    if c == 34 then codes "&quot;"
    else (if c == 38 then codes "&amp;"
    else (if c == 39 then codes "&apos;"
    else (if c == 60 then codes "&lt;"
    else (if c == 62 then codes "&gt;"
    else (if is_plain c then c ∷ [] else codes "?")))))

-- a text as it is written
abbrev pub escaped : List ℕ → List ℕ
escaped text = flat_map escape text
