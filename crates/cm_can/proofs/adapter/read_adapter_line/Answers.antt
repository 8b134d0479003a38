use Rattle.std.proofs.Common.{◌≡◌, ◌+◌, ap, arith, length, get_or, ℕ, List, [], take, drop, ◌-◌, refl}
use Rattle.std.proofs.lemmas.List.{nil_from_length}
use mathlib.Core.Logic.{inl, inr}
use Rattle.cm_can.specs.Frames.{data_of}
use Rattle.cm_can.specs.Lines.{byte_digits}
use Rattle.cm_can.proofs.Heads.{few_bytes, line_head, line_tail, line_whole}
use Rattle.cm_can.proofs.adapter.read_adapter_line.Goals as goal
use Rattle.cm_can.proofs.adapter.read_adapter_line.Goals.{then-letter-ne114-via-then-letter-ne114, then-letter-ne114-via-else-letter-ne114+then-not-is_empty}

pub returns-in_default-clause-none : goal.returns-in_default-clause-none
returns-in_default-clause-none c = λ f small is.
    let head = line_head c.args.text.now f is in
    omega (arith, ap length head.4, c.in_default.len_below)

pub returns-in_default-read_id-clause-none : goal.returns-in_default-read_id-clause-none
returns-in_default-read_id-clause-none c = λ f small is.
    let head = line_head c.args.text.now f is in
    let none = rw head.4 at c.in_default-read_id.ensures.none in
    none f.id.number f.id.in_range refl

pub returns-in_default-count_of-clause-none : goal.returns-in_default-count_of-clause-none
returns-in_default-count_of-clause-none c = λ f small is.
    let head = line_head c.args.text.now f is in
    c.in_default-count_of.ensures head.1 head.3 (ap (λ (text : List ℕ). get_or text 4 0) head.4)

pub returns-in_default-data_frame-clause-none : goal.returns-in_default-data_frame-clause-none
returns-in_default-data_frame-clause-none c = λ f small is.
    elim is [
      | inl w ↦
          let bytes = data_of f in
          c.in_default-data_frame.ensures.none bytes (few_bytes f) small
          (line_tail c.args.text.now (byte_digits bytes) 116 f.id.number (48 + length bytes) w.1)
          (omega (arith, c.in-Some-count_of.ensures.1, ap (λ (text : List ℕ). get_or text 4 0) w.1))
      | inr w ↦ let asked = w.1 in omega (arith, c.if-letter-eq116.true, ap (λ (text : List ℕ). get_or text 0 0) asked.2)
    ]

pub returns-then-letter-eq116-clause-some : goal.returns-then-letter-eq116-clause-some
returns-then-letter-eq116-clause-some c =
    let is = c.in-Some-data_frame.ensures.some in
    let count = c.in-Some-count_of.ensures in
    let whole = line_whole c.args.text.now 116 c.in-Some.id.number (48 + c.in-Some-count_of.count) c.in-len5-up.len_at_least (omega arith) c.in-Some.ensures.some count.1 in
    inl (is.1.0, rw (is.1.1, is.1.2, is.3, ← is.2) whole)

pub returns-then-letter-ne114-clause-none : goal.returns-then-letter-ne114-clause-none
returns-then-letter-ne114-clause-none c = λ f small is.
    elim is [
      | inl w ↦ omega (arith, c.if-letter-eq116.false, ap (λ (text : List ℕ). get_or text 0 0) w.1)
      | inr w ↦ let asked = w.1 in
          elim c.then-letter-ne114.branch [
            | then-letter-ne114-via-then-letter-ne114 v ↦ omega (arith, ap (λ (text : List ℕ). get_or text 0 0) asked.2)
            | then-letter-ne114-via-else-letter-ne114+then-not-is_empty v ↦
                let no = rw (line_tail c.args.text.now [] 114 f.id.number (48 + asked.0) asked.2) at v.if-not-is_empty.ensures in cc
          ]
    ]

pub returns-clause-some : goal.returns-clause-some
returns-clause-some c =
    let text = c.args.text.now in
    let count = c.in-Some-count_of.ensures in
    let rest : take (length text - 5) (drop 5 text) ≡ [] = nil_from_length _ (grind (arith, c.if-not-is_empty.ensures)) in
    let whole = line_whole text 114 c.in-Some.id.number (48 + c.in-Some-count_of.count) c.in-len5-up.len_at_least (omega arith) c.in-Some.ensures.some count.1 in
    inr (c.remote.ensures.0, (c.in-Some-count_of.count, count.0, rw (c.remote.ensures.1, ← rest) whole))
