-- When the time may be looked at: a process that was stopped and goes on finds in its input what came meanwhile, and has to
-- read it before it calls a slave late (own).
use Rattle.std.specs.Prelude.{ℕ, ◌-◌, ◌==◌, nat_le, nat_lt, Bool, ◌&&◌, ◌||◌, if◌then◌else◌, Option, None, Some, unwrap_or}
use Rattle.cm_watch.specs.declared.pace.Pace.{Pace}

-- how long ago the input was looked at, in ms; 0 where it never was
abbrev pub since_look : Option ℕ → ℕ → ℕ
since_look None now = 0
since_look (Some t) now = now - t

-- since when what is received is waited for, by how long ago the input was looked at: a look comes late behind 20 ms, and
-- behind a second all begins anew
abbrev pub waited_since : Option ℕ → ℕ → ℕ → Option ℕ
waited_since since now ago =
    if nat_le 1000 ago then Some now
    else (if nat_lt 20 ago then Some (unwrap_or since now) else since)

-- since when nothing was read, by the looks so far: since now, where something was, or the look comes late
abbrev pub still_at : Pace → ℕ → ℕ → ℕ
still_at p now received = if nat_le (since_look p.looked now) 20 && received == p.received then p.still else now

-- that it is waited for ends where nothing was read for 20 ms, or after a second
abbrev pub is_caught_up : Pace → ℕ → ℕ → ℕ → Bool
is_caught_up p now received since = nat_le 1000 (now - since) || nat_le 20 (now - still_at p now received)

abbrev pub unless_caught_up : Pace → ℕ → ℕ → Option ℕ → Option ℕ
unless_caught_up p now received None = None
unless_caught_up p now received (Some since) = if is_caught_up p now received since then None else Some since

-- since when what is received is waited for, once the input is looked at now, of which so many bytes were read; nothing
-- where the time may be looked at
abbrev pub behind_at : Pace → ℕ → ℕ → Option ℕ
behind_at p now received = unless_caught_up p now received (waited_since p.behind now (since_look p.looked now))

-- what is kept of a look
abbrev pub pace_after : Pace → ℕ → ℕ → Pace
pace_after p now received = record {
  looked = Some now;
  received = received;
  still = still_at p now received;
  behind = behind_at p now received;
}
