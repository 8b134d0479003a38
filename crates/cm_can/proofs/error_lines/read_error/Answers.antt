use Rattle.std.proofs.Common.{◌≡◌, ◌∙◌, ◌++◌, ℕ, List, ap, sym, subst, drop, length, slice_index, take, codes}
use Rattle.std.proofs.lemmas.List.{take-append-drop}
use Rattle.std.specs.Cmp.Lexicographic as texts
use Rattle.cm_can.specs.Lines.{IsFrameText}
use Rattle.cm_can.proofs.SameText.{same_rest, same_text}
use Rattle.cm_can.proofs.error_lines.read_error.Goals as goal

pub returns-in_default-error_of-clause-none : goal.returns-in_default-error_of-clause-none
returns-in_default-error_of-clause-none c = λ e t.
    let text = c.args.text.now in
    let frame = c.in-Some-read_frame.frame in
    let front : take 5 text ≡ codes "20000" = texts.same_text (take 5 text) (codes "20000") (sym c.in-Some.ensures.cases.0) in
    let parts : text ≡ codes "20000" ++ c.in-Some.rest.now = sym (take-append-drop 5 text) ∙ ap (λ (bytes : List ℕ). bytes ++ drop 5 text) front ∙ ap (λ (bytes : List ℕ). codes "20000" ++ bytes) (sym c.in-Some.ensures.cases.1) in
    let rest : t.rest ≡ c.in-Some.rest.now = same_rest t.rest c.in-Some.rest.now (sym t.parts ∙ parts) in
    let spelled = subst (λ (text : List ℕ). IsFrameText text t.frame) rest t.spelled in
    let same = same_text c.in-Some.rest.now frame t.frame c.error_of.ensures.bytes t.bytes c.in-Some-read_frame.ensures.some spelled in
    let kind = same.kind ∙ t.says.carries in
    let carried = same.carried kind in
    c.in_default-error_of.ensures.none e (record {
      carries = kind;
      class = same.id ∙ t.says.class;
      eight = ap length carried ∙ t.says.eight;
      controller = ap (λ (bytes : List ℕ). slice_index bytes 1) carried ∙ t.says.controller;
    })

pub returns-clause-some : goal.returns-clause-some
returns-clause-some c =
    let text = c.args.text.now in
    let front : take 5 text ≡ codes "20000" = texts.same_text (take 5 text) (codes "20000") (sym c.in-Some.ensures.cases.0) in
    record {
      rest = c.in-Some.rest.now;
      frame = c.in-Some-read_frame.frame;
      parts = sym (take-append-drop 5 text) ∙ ap (λ (bytes : List ℕ). bytes ++ drop 5 text) front ∙ ap (λ (bytes : List ℕ). codes "20000" ++ bytes) (sym c.in-Some.ensures.cases.1);
      bytes = c.error_of.ensures.bytes;
      spelled = c.in-Some-read_frame.ensures.some;
      says = c.in-Some-error_of.ensures.some;
    }
