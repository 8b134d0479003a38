-- Which worker boots which slave (own).
use Rattle.std.specs.Prelude.{◌==◌, ◌%◌, ℕ, List, Option, None, if◌then◌else◌, option_map, position}

-- the place of a node among the listed ones, counted from 0
abbrev pub place_of : ℕ → List ℕ → Option ℕ
place_of node listed = position (λ n. n == node) listed

-- of so many workers, the one of what stands at a place: the place modulo their number
abbrev pub worker_at : ℕ → ℕ → ℕ
worker_at workers place = place % workers

-- of so many workers, the one that boots a node: that of its place; a node that isn't listed is nobody's, and so is each where there
-- are no workers
abbrev pub worker_of : List ℕ → ℕ → ℕ → Option ℕ
worker_of listed workers node = if workers == 0 then None else option_map (worker_at workers) (place_of node listed)
