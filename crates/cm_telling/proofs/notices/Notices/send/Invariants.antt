use Rattle.std.proofs.Common.{◌≡◌, ◌<◌, ℕ, drop}
use Rattle.cm_telling.specs.Echoes.{behind_sent_all, count_at}
use Rattle.cm_telling.proofs.notices.Notices.send.Given as goal

-- the messages so far were counted
abbrev pub invariant-loop-message : goal.invariant-loop-message
invariant-loop-message l =
    (k : ℕ) → k < 640
    → behind_sent_all (drop l.message-index l.messages) k (count_at l.sent k) ≡ behind_sent_all l.messages k (count_at l.initial.sent k)
