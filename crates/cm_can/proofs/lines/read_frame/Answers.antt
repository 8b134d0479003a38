use Rattle.std.proofs.Common.{ap, arith, length, get_or, ℕ, List, refl}
use mathlib.Core.Logic.{inl, inr}
use Rattle.cm_can.specs.Frames.{data_of}
use Rattle.cm_can.specs.Lines.{byte_digits}
use Rattle.cm_can.proofs.Heads.{few_bytes, frame_head, frame_tail, frame_whole}
use Rattle.cm_can.proofs.lines.read_frame.Goals as goal

pub returns-in_default-clause-none : goal.returns-in_default-clause-none
returns-in_default-clause-none c = λ f small is.
    let head = frame_head c.args.text.now f is in
    omega (arith, ap length head.1, c.in_default.len_below)

pub returns-in_default-2-clause-none : goal.returns-in_default-2-clause-none
returns-in_default-2-clause-none c = λ f small is.
    let head = frame_head c.args.text.now f is in
    omega (arith, ap (λ (text : List ℕ). get_or text 3 0) head.1)

pub returns-in_default-read_id-clause-none : goal.returns-in_default-read_id-clause-none
returns-in_default-read_id-clause-none c = λ f small is.
    let head = frame_head c.args.text.now f is in
    let none = rw head.1 at c.in_default-read_id.ensures.none in
    none f.id.number f.id.in_range refl

pub returns-then-is_remote-clause-some : goal.returns-then-is_remote-clause-some
returns-then-is_remote-clause-some c =
    let whole = frame_whole c.args.text.now c.in-Some.id.number c.in-35.len_at_least (omega arith) c.in-Some.ensures.some in
    inr (c.remote.ensures.0, (_, c.if-is_remote.ensures.yes refl, rw c.remote.ensures.1 whole))

pub returns-in_default-data_frame-clause-none : goal.returns-in_default-data_frame-clause-none
returns-in_default-data_frame-clause-none c = λ f small is.
    elim is [
      | inl w ↦ c.in_default-data_frame.ensures.none (data_of f) (few_bytes f) small (frame_tail c.args.text.now (byte_digits (data_of f)) f.id.number w.1)
      | inr w ↦ let tail = w.1 in c.if-is_remote.ensures.no refl (rw (frame_tail c.args.text.now tail.0 f.id.number tail.2) tail.1)
    ]

pub returns-clause-some : goal.returns-clause-some
returns-clause-some c =
    let is = c.in-Some-data_frame.ensures.some in
    let whole = frame_whole c.args.text.now c.in-Some.id.number c.in-35.len_at_least (omega arith) c.in-Some.ensures.some in
    inl (is.1.0, rw (is.1.1, is.1.2, ← is.2) whole)
