-- The numbers that stand in the words of a row for what these say (own).
use Rattle.std.specs.Prelude.{◌≡◌, ◌<◌, ◌⊎◌, ◌+◌, ◌*◌, ◌/◌, ◌%◌, ℕ}
use Rattle.cm_growing.specs.declared.status.TheConstants.{BYTE, BYTES, COUNTS, GONE}

-- the first word: how many entries there are; up to how many the words of all nodes are right, but for one; and this
-- one, 0 where there is none, with its state with so many
abbrev pub packed_status : ℕ → ℕ → ℕ → ℕ → ℕ
packed_status count done node state = count * (COUNTS * BYTES) + done * BYTES + node * BYTE + state

-- what it says
abbrev pub status_count : ℕ → ℕ
status_count word = word / BYTES / COUNTS

abbrev pub status_done : ℕ → ℕ
status_done word = word / BYTES % COUNTS

abbrev pub status_node : ℕ → ℕ
status_node word = word / BYTE % BYTE

abbrev pub status_state : ℕ → ℕ
status_state word = word % BYTE

-- the first word where the history is shown no more
abbrev pub gone_word : ℕ
gone_word = GONE

-- a node's word that was stored: with how many entries, the state, and the state with one entry less
abbrev pub node_word : ℕ → ℕ → ℕ → ℕ
node_word since state before = since * BYTES + state * BYTE + before

-- what it says
abbrev pub word_since : ℕ → ℕ
word_since word = word / BYTES

abbrev pub word_state : ℕ → ℕ
word_state word = word / BYTE % BYTE

abbrev pub word_before : ℕ → ℕ
word_before word = word % BYTE

-- a state that has a byte of a word
abbrev pub IsByte : ℕ → Type 0
IsByte state = state < BYTE

-- a node's word: 0 where it was never stored
abbrev pub IsWord : ℕ → ℕ → ℕ → ℕ → Type 0
IsWord word since state before =
    ((since ≡ 0) × (word ≡ 0))
    ⊎ ((0 < since) × (word ≡ node_word since state before) × IsByte state × IsByte before)
