-- How often something of one kind is told: at most ten times in any second; what comes beyond is counted, and told by its number (own).
use Rattle.std.specs.Prelude.{◌≡◌, ◌≤◌, ◌<◌, ℕ, ◌+◌, ◌-◌, ◌==◌, ◌&&◌, [], ◌∷◌, List, Bool, true, not, if◌then◌else◌, min, nat_le, nat_lt, All}
use Rattle.std.specs.Prelude.{replicate, slice_get, slice_index_or, take}
use Rattle.std.specs.Prelude.{Option, Some, None}
use Rattle.cm_telling.specs.declared.limit.Limit.{Limit}

-- nothing was told
abbrev pub none_told : Limit
none_told = record { told = replicate 10 None; left_out = 0 }

-- a line was told a second ago or before, or never
abbrev pub is_a_second_old : Option ℕ → ℕ → Bool
is_a_second_old None now = true
is_a_second_old (Some t) now = nat_le 1000 (now - t)

-- a line may be told: the tenth of the last ten is a second old
abbrev pub is_open : Limit → ℕ → Bool
is_open l now = is_a_second_old (slice_index_or l.told 9 None) now

-- the times of the last ten lines, the newest first, where one is told now
abbrev pub told_more : ℕ → List (Option ℕ) → List (Option ℕ)
told_more now told = Some now ∷ take 9 told

-- a line is told now
abbrev pub line_told : Limit → ℕ → Limit
line_told l now = record { told = told_more now l.told; left_out = 0 }

-- a message that comes now is told: a line may be told, and none was left out before it
abbrev pub is_told : Limit → ℕ → Bool
is_told l now = (l.left_out == 0) && is_open l now

-- behind a message it was told, or one more was left out
abbrev pub behind_message : Limit → ℕ → Limit
behind_message l now =
    if is_told l now then line_told l now else record { told = l.told; left_out = min (l.left_out + 1) 0xFFFFFFFF }

-- it is to be told now that some were left out
abbrev pub is_to_be_counted : Limit → ℕ → Bool
is_to_be_counted l now = not (l.left_out == 0) && is_open l now

-- how many, if that is to be told
abbrev pub left_out_now : Limit → ℕ → Option ℕ
left_out_now l now = if is_to_be_counted l now then Some l.left_out else None

-- behind a turn that was told, or all is as before
abbrev pub behind_turn : Limit → ℕ → Limit
behind_turn l now = if is_to_be_counted l now then line_told l now else l

-- ---- that these are ten in any second

-- lines were told at these times, the newest first, each when one might be told, and not before the one before it
abbrev pub AreTold : List ℕ → Type 0
AreTold [] = Unit {0}
AreTold (t ∷ ts) = (is_a_second_old (slice_get ts 9) t ≡ true) × All (λ u. u ≤ t) ts × AreTold ts

-- how many of them in the second that begins at `start`
abbrev pub told_in : ℕ → List ℕ → ℕ
told_in start [] = 0
told_in start (t ∷ ts) = if nat_le start t && nat_lt t (start + 1000) then told_in start ts + 1 else told_in start ts

-- the law: at most ten
abbrev pub IsTenASecond : Type 0
IsTenASecond = (ts : List ℕ) (start : ℕ) → AreTold ts → told_in start ts ≤ 10

-- what a limit keeps is of these lines: the times of the last ten
abbrev pub KeepsLines : Limit → List ℕ → Type 0
KeepsLines l ts = (k : ℕ) → k < 10 → slice_index_or l.told k None ≡ slice_get ts k

-- the same lines, and one now, where it is told
abbrev pub lines_with : Bool → ℕ → List ℕ → List ℕ
lines_with told now ts = if told then now ∷ ts else ts
