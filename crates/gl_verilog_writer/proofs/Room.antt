-- The text of a netlist of at most 297,000 nodes and 3,900 ports has at most 64 MiB.
use Rattle.std.proofs.Common.{◌≡◌, ℕ, suc, ◌*◌, ◌≤◌, Bool, true, false, List, [], ◌∷◌, length, Option, Some, None, IsSomeAnd, refl, arith, leb-true}
use Rattle.std.specs.Prelude.{slice_get, unwrap_or, nat_le, if◌then◌else◌}
use Rattle.std.specs.List.{sum_by}
use Rattle.std.proofs.lemmas.List.Sums.{sum_by-cons}
use Rattle.gl_net.specs.declared.node.Port.{Port}
use Rattle.gl_net.specs.Net.{Net}
use Rattle.gl_net.specs.Finished.{IsName, IsNetlist}
use Rattle.gl_verilog_writer.specs.Size.{port_bytes, most_bytes, HasRoom}

ports-most : (qs : List Port) → ((k : ℕ) (q : Port) → slice_get qs k ≡ Some q → length q.name ≤ 128) → sum_by port_bytes qs ≤ 376 * length qs
ports-most [] h = omega arith
ports-most (q ∷ qs) h =
    let s = sum_by-cons port_bytes q qs in
    let one = h 0 q refl in
    let more = ports-most qs (λ k r e. h (suc k) r e) in
    omega (arith, s, one, more)

name-most : (o : Option (List ℕ)) → IsSomeAnd o IsName → length (unwrap_or o []) ≤ 128
name-most None h = absurd h
name-most (Some w) h = h.short

nodes-most : (n : ℕ) → n ≤ 297000 → (t : Bool) → nat_le n 65536 ≡ t → (if t then 1000 else 220) * n ≤ 65536000
nodes-most n h true e = let l = leb-true n 65536 e in omega (arith, l)
nodes-most n h false e = omega (arith, h)

pub text_has_room : (net : Net) → IsNetlist net → HasRoom net
unfolding most_bytes
text_has_room net h nodes ports =
    let n = nodes-most (length net.nodes) nodes (nat_le (length net.nodes) 65536) refl in
    let p = ports-most net.ports (λ k q e. (h.finished.port_names k q e).short) in
    let m = name-most net.name h.finished.module_name in
    omega (arith, n, p, m, ports)
