-- Versions of a history that grows (own). Histories have their oldest entry first.
use Rattle.std.specs.Prelude.{◌≡◌, List, [], ◌∷◌, ◌++◌, map}
use Rattle.cm_history.specs.declared.call.Entry.{Entry}

-- the last entry of the history is this one
abbrev pub EndsWith : List Entry → Entry → Type 0
EndsWith history entry = (before : List Entry) × (history ≡ before ++ entry ∷ [])

-- an entry, and the history up to it
pub record NextView : Type 0 where
  pub after : List Entry
  pub entry : Entry

-- a publisher: the history whose version readers are shown, and the one that it was told
pub record PublisherView : Type 0 where
  pub shown : List Entry
  pub told : List Entry

-- the entries alone, in their order
abbrev pub entries_of : List NextView → List Entry
entries_of nexts = map (λ n. n.entry) nexts
