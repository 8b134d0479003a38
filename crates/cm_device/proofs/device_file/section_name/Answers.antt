use Rattle.std.proofs.Common.{◌≡◌, ◌-◌, [], ap, arith, get_or, length, suc, ◌∙◌}
use Rattle.std.specs.Prelude.{codes}
use Rattle.std.proofs.Math.Seq.{get_or-append_seam}
use Rattle.std.proofs.lemmas.List.{length-append}
use Rattle.cm_device.proofs.device_file.section_name.Goals as goal

pub returns-then-text-lt2-clause-none : goal.returns-then-text-lt2-clause-none
returns-then-text-lt2-clause-none c =
    λ name begins. absurd (omega (arith, c.if-text-lt2.true, ap length begins.brackets, length-append begins.raw (codes "]")))

pub returns-then-text-ne91-clause-none : goal.returns-then-text-ne91-clause-none
returns-then-text-ne91-clause-none c = λ name begins. c.if-text-ne91.true (ap (λ xs. get_or xs 0 0) begins.brackets)

pub returns-then-text-last-ne93-clause-none : goal.returns-then-text-last-ne93-clause-none
returns-then-text-last-ne93-clause-none c = λ name begins.
    let text = c.args.text.now in
    let raw = begins.raw in
    let last : length text - 1 ≡ suc (length raw) = omega (arith, ap length begins.brackets, length-append raw (codes "]")) in
    c.if-text-last-ne93.true
    (ap (λ n. get_or text n 0) last ∙ ap (λ xs. get_or xs (suc (length raw)) 0) begins.brackets ∙ get_or-append_seam raw 93 [] 0)
