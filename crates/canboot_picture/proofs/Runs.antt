-- Spans of a lane, one after another.
use Rattle.std.proofs.Common.{◌≡◌, ℕ, ◌+◌, ◌<◌, ◌≤◌, List, [], ◌∷◌, ◌++◌, refl, sym, ◌∙◌, ap, subst, arith, append-nil}
use Rattle.std.specs.Prelude.{◌≢◌, Option, flat_map}
use Rattle.std.specs.Io.KnownBytes.{Appends}
use Rattle.std.proofs.KnownBytes.{Appends-nil, Appends-trans}
use Rattle.std.proofs.lemmas.Grind.{flat_map-append}
use Rattle.canboot_picture.specs.Spans.{AreSpans, IsRun, no_span, span, span_text}
use Rattle.canboot_picture.specs.declared.scale.Scale.{Scale}
use Rattle.canboot_picture.specs.declared.scale.Span.{Span}

-- the spans up to a column were written; the column has another state than the one before it
pub record AreWritten (state : ℕ → ℕ) (scale : Scale) (row node columns first : ℕ) (old new : Option (List ℕ)) : Type 0 where
  pub spans : List Span
  pub shown : AreSpans state first spans
  pub differs : (column : ℕ) → column + 1 ≡ first → first < columns → state column ≢ state first
  pub written : Appends old new (flat_map (span_text scale row node) spans)

-- before any
pub none_written : (state : ℕ → ℕ) (scale : Scale) (row node columns : ℕ) (old : Option (List ℕ)) → AreWritten state scale row node columns 0 old old
none_written state scale row node columns old = record {
  spans = [];
  shown = no_span;
  differs = λ column is inside. absurd (omega arith);
  written = Appends-nil old;
}

-- a span more
pub span_more : (state : ℕ → ℕ) (scale : Scale) (row node columns first end shown : ℕ) (a b c : Option (List ℕ)) → AreWritten state scale row node columns first a b
    → IsRun state columns first end → shown ≡ state first → Appends b c (span_text scale row node (record { first = first; end = end; state = shown }))
    → AreWritten state scale row node columns end a c
span_more state scale row node columns first end shown a b c before run is written =
    let s : Span = record { first = first; end = end; state = shown } in
    record {
      spans = before.spans ++ s ∷ [];
      shown = span before.spans s before.shown run.longer (λ column low high. run.same column low high ∙ sym is)
          (λ column next same. before.differs column next (omega (arith, run.longer, run.inside)) (same ∙ is));
      differs = λ column next inside same. run.ends inside (sym same ∙ run.same column (omega (arith, run.longer)) (omega arith));
      written = subst (λ (text : List ℕ). Appends a c text)
          (sym (flat_map-append (span_text scale row node) before.spans (s ∷ []) ∙ ap (λ (text : List ℕ). flat_map (span_text scale row node) before.spans ++ text) (append-nil _)))
          (Appends-trans a b c _ _ before.written written);
    }
