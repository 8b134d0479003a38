use Rattle.std.proofs.Common.{◌≡◌, ℕ, ◌+◌, List, [], ◌∷◌, ◌++◌, length, take, drop, ap, sym, subst, ◌∙◌, append_assoc, arith}
use Rattle.std.proofs.Math.Seq.{take-append-add}
use Rattle.std.proofs.lemmas.List.{take-append-drop, take_more}
use Rattle.cm_history.specs.declared.call.Entry.{Entry}
use Rattle.cm_versions.specs.Versions.{PublisherView}
use Rattle.cm_versions.proofs.publisher.Publisher.tell_all.Goals as goal

pub new-requires : goal.new-requires
new-requires g c =
    let told = c.args.self.now.told in
    let es = c.args.entries.now in
    let i = c.loop-place.place in
    let e = c.index-entries-place.result in
    let n : c.len-base.result + i + 1 ≡ length told + (i + 1) = omega (arith, c.len-base.ensures, ap (λ (v : PublisherView). length v.told) c.self.view_is) in
    let more : take (i + 1) es ≡ take i es ++ e ∷ [] = take_more es i e c.loop-place-test.true ∙ ap (λ (x : Entry). take i es ++ x ∷ []) (sym c.index-entries-place.is) in
    let push : told ++ take (i + 1) es ≡ (told ++ take i es) ++ e ∷ [] = ap (λ (l : List Entry). told ++ l) more ∙ sym (append_assoc told (take i es) (e ∷ [])) in
    (told ++ take i es, c.first.ensures ∙ (ap (λ (k : ℕ). take k c.args.after.now) n ∙ (ap (λ (xs : List Entry). take (length told + (i + 1)) xs) c.requires ∙ (take-append-add told es (i + 1) ∙ push))))

pub returns-in-Err-clause-part : goal.returns-in-Err-clause-part
returns-in-Err-clause-part g c =
    let told = c.args.self.now.told in
    let es = c.args.entries.now in
    let i = c.loop-place.place in
    let now : told ++ take i es ≡ c.tell.new.self.told = sym (ap (λ (v : PublisherView). v.told) c.in-Err.ensures.same ∙ c.loop-place.invariant.0) in
    let all : (told ++ take i es) ++ drop i es ≡ c.args.after.now = append_assoc told (take i es) (drop i es) ∙ (ap (λ (l : List Entry). told ++ l) (take-append-drop i es) ∙ sym c.requires) in
    ((take i es, now), (drop i es, subst (λ (l : List Entry). l ++ drop i es ≡ c.args.after.now) now all))
