-- Of which node a frame is.
use Rattle.std.proofs.Common.{◌≡◌, ◌<◌, ◌+◌, ◌-◌, ◌⊎◌, ◌∙◌, ℕ, refl, ap, inl, inr, arith}
use Rattle.std.specs.Prelude.{◌↔◌, Option, Some, None}
use Rattle.cm_nmt.specs.NodeId.{IsNodeId}
use Rattle.cm_boot.specs.declared.question.Question.{Question}
use Rattle.cm_boot.specs.declared.question.Question.TheVariants.{Read, Write, StateByBeat, StateByGuard, Beat}
use Rattle.cm_boot.specs.declared.question.Answer.{Answer}
use Rattle.cm_can.specs.declared.frame.CanFrame.{CanFrame}
use Rattle.cm_can.specs.declared.frame.Kind.{Kind}
use Rattle.cm_can.specs.declared.frame.Kind.TheVariants.{Data, Remote}
use Rattle.cm_can.specs.Questions.{IsAnswer}
use Rattle.cm_text.specs.Picked.{first_of, within}
use Rattle.cm_receiving.specs.Identifiers.{IsOfNode, node_by, node_in}

-- ---- what stands above an identifier

within_is : (m n : ℕ) → within 1 127 m ≡ Some n → (m ≡ n) × IsNodeId n
within_is m n e = grind arith

within_yes : (m n : ℕ) → m ≡ n → IsNodeId n → within 1 127 m ≡ Some n
within_yes m n e h = grind arith

within_no : (m : ℕ) → 127 < m → within 1 127 m ≡ None
within_no m h = grind arith

first_is : (a b : Option ℕ) (n : ℕ) → first_of a b ≡ Some n → (a ≡ Some n) ⊎ (b ≡ Some n)
first_is None b n e = inr e
first_is (Some k) b n e = inl e

-- ---- the node of an identifier

server_is : (id n : ℕ) → within 1 127 (id - 0x0580) ≡ Some n → IsNodeId n × ((id ≡ 0x0580 + n) ⊎ (id ≡ 0x0700 + n))
server_is id n e = let w = within_is (id - 0x0580) n e in (w.1, inl (omega (arith, w.0, w.1.0)))

control_is : (id n : ℕ) → within 1 127 (id - 0x0700) ≡ Some n → IsNodeId n × ((id ≡ 0x0580 + n) ⊎ (id ≡ 0x0700 + n))
control_is id n e = let w = within_is (id - 0x0700) n e in (w.1, inr (omega (arith, w.0, w.1.0)))

by_is : (id n : ℕ) → (a : (within 1 127 (id - 0x0580) ≡ Some n) ⊎ (within 1 127 (id - 0x0700) ≡ Some n)) → IsNodeId n × ((id ≡ 0x0580 + n) ⊎ (id ≡ 0x0700 + n))
by_is id n (inl e) = server_is id n e
by_is id n (inr e) = control_is id n e

of_server : (id n : ℕ) → IsNodeId n → id ≡ 0x0580 + n → node_by id ≡ Some n
of_server id n h e = ap (λ (o : Option ℕ). first_of o (within 1 127 (id - 0x0700))) (within_yes (id - 0x0580) n (omega (arith, e)) h)

of_control : (id n : ℕ) → IsNodeId n → id ≡ 0x0700 + n → node_by id ≡ Some n
of_control id n h e =
    ap (λ (o : Option ℕ). first_of o (within 1 127 (id - 0x0700))) (within_no (id - 0x0580) (omega (arith, e)))
    ∙ within_yes (id - 0x0700) n (omega (arith, e)) h

by_of : (id n : ℕ) → IsNodeId n → (id ≡ 0x0580 + n) ⊎ (id ≡ 0x0700 + n) → node_by id ≡ Some n
by_of id n h (inl e) = of_server id n h e
by_of id n h (inr e) = of_control id n h e

-- ---- the node of a frame

in_is : (kind : Kind) (id n : ℕ) → node_in kind id ≡ Some n → IsNodeId n × (kind ≡ Data) × ((id ≡ 0x0580 + n) ⊎ (id ≡ 0x0700 + n))
in_is Data id n e = let w = by_is id n (first_is (within 1 127 (id - 0x0580)) (within 1 127 (id - 0x0700)) n e) in (w.0, refl, w.1)
in_is Remote id n e = absurd cc

pub node_is : (f : CanFrame) (n : ℕ) → (node_in f.kind f.id.number ≡ Some n) ↔ IsOfNode n f
node_is f n = (
  in_is f.kind f.id.number n,
  λ is. ap (λ (kind : Kind). node_in kind f.id.number) is.1 ∙ by_of f.id.number n is.0 is.2,
)

pub answer_is_of : (n : ℕ) (q : Question) (f : CanFrame) (a : Answer) → IsNodeId n → IsAnswer n q f a → IsOfNode n f
answer_is_of n (Read index sub) f a h is = (h, is.2.carries, inl is.2.id)
answer_is_of n (Write w) f a h is = (h, is.2.carries, inl is.2.id)
answer_is_of n StateByBeat f a h is = (h, is.1.1.0, inr is.1.1.1)
answer_is_of n StateByGuard f a h is = (h, is.1.1.0, inr is.1.1.1)
answer_is_of n Beat f a h is = (h, is.1.1.0, inr is.1.1.1)
