-- Levels one behind another.
use Rattle.std.proofs.Common.{◌≡◌, ℕ, suc, ◌+◌, ◌-◌, ◌*◌, ◌/◌, ◌%◌, ◌≤◌, length, refl, sym, ap, ◌∙◌, subst, arith}
use Rattle.std.specs.List.{sum}
use Rattle.std.proofs.lemmas.Nat.{div-add-mod', mod_below}
use Rattle.gl_net.specs.Net.{Net}
use Rattle.gl_net.proofs.Determined.{keeps_then}
use Rattle.gl_net.proofs.Growth.{same_keeps}
use Rattle.gl_frames_lanes.specs.declared.lane.Keys.{Keys}
use Rattle.gl_frames_tree.specs.declared.level.Climb.{Climb}
use Rattle.gl_frames_tree.specs.TreeNets.{HasClimb, IsClimb, IsLevelIn, IsRaisedIn}

-- two bits a level are enough
pub levels_enough : (x : ℕ) → x ≤ 2 * ((x + 1) / 2)
levels_enough x =
    let whole : (x + 1) / 2 * 2 + (x + 1) % 2 ≡ x + 1 = div-add-mod' (x + 1) 2 in
    let rest = mod_below (x + 1) 2 (omega arith) in
    omega (arith, whole, rest)

pub raised_none : (net : Net) (keys : Keys) (root : Climb) (all : ℕ) → HasClimb net root.wire keys.width root → IsRaisedIn net net keys root all 0 root
raised_none net keys root all has = record {
  keeps = same_keeps net;
  cost = record { nodes = omega arith; registers = omega arith; memories = omega arith };
  has = has;
  law = λ run r source h. (let e : all - 0 ≡ all = omega arith in subst (λ (k : ℕ). IsClimb 0 k run keys source root) (sym e) h);
}

pub raised_more : (old mid new : Net) (keys : Keys) (root climb up : Climb) (all done rest : ℕ) → all - done ≡ suc rest → IsRaisedIn old mid keys root all done climb → IsLevelIn mid new keys rest climb up
    → IsRaisedIn old new keys root all (done + 1) up
raised_more old mid new keys root climb up all done rest is h l =
    let count = ap length h.has.same_widths in
    let bits = ap sum h.has.same_widths in
    let next : suc done ≡ done + 1 = omega arith in
    let left : rest ≡ all - (done + 1) = omega (arith, is) in
    record {
      keeps = keeps_then old mid new h.keeps l.keeps;
      cost = record {
        nodes = omega (arith, h.cost.nodes, l.cost.nodes, count);
        registers = omega (arith, h.cost.registers, l.cost.registers, bits);
        memories = omega (arith, h.cost.memories, l.cost.memories);
      };
      has = record {
        wire = l.has.wire;
        same_widths = l.has.same_widths ∙ h.has.same_widths;
        node = l.has.node;
        node_width = l.has.node_width;
        next = l.has.next;
        next_width = l.has.next_width;
        fresh = l.has.fresh;
        lost = l.has.lost;
      };
      law = λ run r source first.
          subst (λ (k : ℕ). IsClimb k (all - (done + 1)) run keys source up) next
          (subst (λ (k : ℕ). IsClimb (suc done) k run keys source up) left
          (l.law run r source done (subst (λ (k : ℕ). IsClimb done k run keys source climb) is (h.law run (l.keeps.runs run r) source first))));
    }

-- rows on their way, over their own columns
pub own_climb : (net : Net) (keys : Keys) (root climb : Climb) → HasClimb net root.wire keys.width climb → HasClimb net climb.wire keys.width climb
own_climb net keys root climb h = record {
  wire = h.wire;
  same_widths = refl;
  node = h.node;
  node_width = h.node_width;
  next = h.next;
  next_width = h.next_width;
  fresh = h.fresh;
  lost = h.lost;
}
