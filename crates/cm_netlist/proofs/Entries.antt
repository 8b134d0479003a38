-- Entries that `==` says are the same are the same.
use Rattle.std.proofs.Common.{◌≡◌, ℕ, Bool, true, false, true≢false, eqb, List, [], ◌∷◌, refl, sym, ap}
use Rattle.std.specs.Prelude.{◌&&◌}
use Rattle.std.proofs.lemmas.Bool.{eqb-true}
use Rattle.std.proofs.Math.Bool.{Bool-set}
use Rattle.std.specs.Cmp.Lexicographic.{pointwise}
use mathlib.Core.HLevel.{Σ_prop_path}
use Rattle.cm_nmt.specs.Size.{is_size}
use Rattle.cm_nmt.specs.declared.write.Write.{Write}
use Rattle.cm_netlist.specs.declared.entry.SlaveEntry.{SlaveEntry}

-- the write of four numbers, of which the size is one
write_of : (n : ℕ × ℕ × ℕ × ℕ) × (is_size n.2 ≡ true) → Write
write_of p = record { index = p.0.0; sub = p.0.1; size = p.0.2; value = p.0.3; sized = p.1 }

-- two writes of equal numbers are equal
pub same_write : (v w : Write) → v.index ≡ w.index → v.sub ≡ w.sub → v.size ≡ w.size → v.value ≡ w.value → v ≡ w
unfolding write_of
same_write v w a b c d =
    let same : ◌≡◌ {A = (n : ℕ × ℕ × ℕ × ℕ) × (is_size n.2 ≡ true)} ((v.index, v.sub, v.size, v.value), v.sized) ((w.index, w.sub, w.size, w.value), w.sized) =
    Σ_prop_path (λ n. Bool-set (is_size n.2) true) (λ i. (a i, b i, c i, d i)) in
    ap write_of same

both : (a b : Bool) → (a && b) ≡ true → (a ≡ true) × (b ≡ true)
both true b h = (refl, h)
both false b h = absurd (true≢false (sym h))

-- `==` of two writes
abbrev write_eq : Write → Write → Bool
write_eq v w = eqb v.index w.index && (eqb v.sub w.sub && (eqb v.size w.size && eqb v.value w.value))

equal_writes : (vs ws : List Write) → pointwise write_eq vs ws ≡ true → vs ≡ ws
equal_writes [] [] h = refl
equal_writes [] (w ∷ ws) h = absurd (true≢false (sym h))
equal_writes (v ∷ vs) [] h = absurd (true≢false (sym h))
equal_writes (v ∷ vs) (w ∷ ws) h =
    let p = both (write_eq v w) (pointwise write_eq vs ws) h in
    let a = both (eqb v.index w.index) _ p.0 in
    let b = both (eqb v.sub w.sub) _ a.1 in
    let c = both (eqb v.size w.size) _ b.1 in
    let one = same_write v w (eqb-true _ _ a.0) (eqb-true _ _ b.0) (eqb-true _ _ c.0) (eqb-true _ _ c.1) in
    let rest = equal_writes vs ws p.1 in
    λ i. one i ∷ rest i

-- two entries of equal fields are equal
pub same_entry : (d e : SlaveEntry) → (eqb d.assignment.0 e.assignment.0 && (eqb d.device_type e.device_type && (eqb d.vendor e.vendor && (eqb d.product e.product
    && (eqb d.revision e.revision && (eqb d.serial e.serial && (eqb d.heartbeat_ms e.heartbeat_ms && (eqb d.date e.date && (eqb d.time e.time
    && pointwise write_eq d.writes.items e.writes.items))))))))) ≡ true → d ≡ e
same_entry d e h =
    let a = both (eqb d.assignment.0 e.assignment.0) _ h in
    let b = both (eqb d.device_type e.device_type) _ a.1 in
    let c = both (eqb d.vendor e.vendor) _ b.1 in
    let f = both (eqb d.product e.product) _ c.1 in
    let g = both (eqb d.revision e.revision) _ f.1 in
    let j = both (eqb d.serial e.serial) _ g.1 in
    let k = both (eqb d.heartbeat_ms e.heartbeat_ms) _ j.1 in
    let l = both (eqb d.date e.date) _ k.1 in
    let m = both (eqb d.time e.time) _ l.1 in
    let pa = eqb-true _ _ a.0 in
    let pb = eqb-true _ _ b.0 in
    let pc = eqb-true _ _ c.0 in
    let pf = eqb-true _ _ f.0 in
    let pg = eqb-true _ _ g.0 in
    let pj = eqb-true _ _ j.0 in
    let pk = eqb-true _ _ k.0 in
    let pl = eqb-true _ _ l.0 in
    let pm = eqb-true _ _ m.0 in
    let pw = equal_writes d.writes.items e.writes.items m.1 in
    λ i. record {
      assignment = record { 0 = pa i };
      device_type = pb i;
      vendor = pc i;
      product = pf i;
      revision = pg i;
      serial = pj i;
      heartbeat_ms = pk i;
      date = pl i;
      time = pm i;
      writes = record { items = pw i };
    }
