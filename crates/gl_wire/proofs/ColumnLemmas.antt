-- Lists of columns: one more, kept, and looked up by widths.
use Rattle.std.proofs.Common.{◌≡◌, ℕ, zero, suc, ◌+◌, List, [], ◌∷◌, ◌++◌, length, Some, refl, sym, ap, ◌∙◌, subst, arith, length-append}
use Rattle.std.specs.Prelude.{slice_get, slice_index}
use Rattle.std.proofs.lemmas.List.Sums.{sum_by-append, sum_by-cons}
use Rattle.std.specs.List.{sum}
use Rattle.gl_net.specs.declared.node.Bus.{Bus}
use Rattle.gl_net.specs.declared.node.Bit.{Bit}
use Rattle.gl_net.specs.Net.{Net, Run, IsBit, IsBus, Keeps}
use Rattle.gl_net.proofs.Determined.{keeps_then}
use Rattle.gl_net.proofs.Growth.{same_keeps}
use Rattle.gl_wire.specs.declared.wire.Wire.{Wire}
use Rattle.gl_wire.specs.Wire.{AreBuses, IsWire, widths, row_at}
use Rattle.gl_wire.specs.Stages.{AreLater, IsLaterBus}

pub row_at-push : (run : Run) (t : ℕ) (bs : List Bus) (b : Bus) → row_at run t (bs ++ b ∷ []) ≡ row_at run t bs ++ run.at t b.node ∷ []
unfolding row_at
row_at-push run t [] b = refl
row_at-push run t (x ∷ bs) b = ap (λ l. run.at t x.node ∷ l) (row_at-push run t bs b)

pub row_at-none : (run : Run) (t : ℕ) → row_at run t [] ≡ []
unfolding row_at
row_at-none run t = refl

-- the value in a row of the column at a place
pub row_at-value : (run : Run) (t : ℕ) (bs : List Bus) (k : ℕ) (b : Bus) → slice_get bs k ≡ Some b → slice_index (row_at run t bs) k ≡ run.at t b.node
unfolding row_at
row_at-value run t [] k b h = absurd (cc)
row_at-value run t (x ∷ bs) zero b h = let e : x ≡ b = cc in ap (λ (y : Bus). run.at t y.node) e
row_at-value run t (x ∷ bs) (suc k) b h = row_at-value run t bs k b h

pub widths-push : (bs : List Bus) (b : Bus) → widths (bs ++ b ∷ []) ≡ widths bs ++ b.width ∷ []
widths-push [] b = refl
widths-push (x ∷ bs) b = ap (λ l. x.width ∷ l) (widths-push bs b)

pub row_at-append : (run : Run) (t : ℕ) (bs cs : List Bus) → row_at run t (bs ++ cs) ≡ row_at run t bs ++ row_at run t cs
unfolding row_at
row_at-append run t [] cs = refl
row_at-append run t (b ∷ bs) cs = ap (λ l. run.at t b.node ∷ l) (row_at-append run t bs cs)

pub widths-append : (bs cs : List Bus) → widths (bs ++ cs) ≡ widths bs ++ widths cs
widths-append [] cs = refl
widths-append (b ∷ bs) cs = ap (λ l. b.width ∷ l) (widths-append bs cs)

-- the column that a width at a place tells of
pub column_at : (bs : List Bus) (k w : ℕ) → slice_get (widths bs) k ≡ Some w → (b : Bus) × (slice_get bs k ≡ Some b) × (b.width ≡ w)
column_at [] k w h = absurd (cc)
column_at (x ∷ bs) zero w h = (x, refl, cc)
column_at (x ∷ bs) (suc k) w h = column_at bs k w h

pushed : (net : Net) (bs : List Bus) (b : Bus) → ((k : ℕ) (x : Bus) → slice_get bs k ≡ Some x → IsBus net x) → IsBus net b → (k : ℕ) (x : Bus) → slice_get (bs ++ b ∷ []) k ≡ Some x → IsBus net x
pushed net [] b h i zero x e = let q : b ≡ x = cc in subst (IsBus net) q i
pushed net [] b h i (suc k) x e = absurd (cc)
pushed net (y ∷ bs) b h i zero x e = h zero x e
pushed net (y ∷ bs) b h i (suc k) x e = pushed net bs b (λ j z q. h (suc j) z q) i k x e

pub AreBuses-push : (net : Net) (bs : List Bus) (b : Bus) → AreBuses net bs → IsBus net b → AreBuses net (bs ++ b ∷ [])
AreBuses-push net bs b h i = record { each = pushed net bs b h.each i }

appended : (net : Net) (bs cs : List Bus) → ((k : ℕ) (x : Bus) → slice_get bs k ≡ Some x → IsBus net x) → ((k : ℕ) (x : Bus) → slice_get cs k ≡ Some x → IsBus net x) → (k : ℕ) (x : Bus) → slice_get (bs ++ cs) k ≡ Some x → IsBus net x
appended net [] cs h i k x e = i k x e
appended net (b ∷ bs) cs h i zero x e = h zero x e
appended net (b ∷ bs) cs h i (suc k) x e = appended net bs cs (λ j z q. h (suc j) z q) i k x e

pub AreBuses-append : (net : Net) (bs cs : List Bus) → AreBuses net bs → AreBuses net cs → AreBuses net (bs ++ cs)
AreBuses-append net bs cs h i = record { each = appended net bs cs h.each i.each }

pub AreBuses-none : (net : Net) → AreBuses net []
AreBuses-none net = record { each = λ k x e. absurd (cc) }

-- columns of the same widths
pub same_length : (xs ys : List Bus) → widths xs ≡ widths ys → length xs ≡ length ys
same_length [] [] h = refl
same_length [] (y ∷ ys) h = absurd (cc)
same_length (x ∷ xs) [] h = absurd (cc)
same_length (x ∷ xs) (y ∷ ys) h = let t : widths xs ≡ widths ys = cc in ap suc (same_length xs ys t)

-- a bit, a bus, a list of buses and a wire stay what they are
pub bit_kept : (old new : Net) (b : Bit) → Keeps old new → IsBit old b → IsBit new b
bit_kept old new b g i = record { there = g.shapes b.node _ i.there }

pub bus_kept : (old new : Net) (b : Bus) → Keeps old new → IsBus old b → IsBus new b
bus_kept old new b g i = record { there = g.shapes b.node _ i.there; width = i.width }

pub buses_kept : (old new : Net) (bs : List Bus) → Keeps old new → AreBuses old bs → AreBuses new bs
buses_kept old new bs g h = record { each = λ k x e. bus_kept old new x g (h.each k x e) }

pub wire_kept : (old new : Net) (w : Wire) → Keeps old new → IsWire old w → IsWire new w
wire_kept old new w g h = record {
  valid = record { there = g.shapes w.valid.node _ h.valid.there };
  eos = record { there = g.shapes w.eos.node _ h.eos.there };
  columns = buses_kept old new w.columns g h.columns;
}

-- the bits of one column more, and of one
pub sum-one : (x : ℕ) → sum (x ∷ []) ≡ x
sum-one x = sum_by-cons (λ (y : ℕ). y) x [] ∙ omega arith

pub sum-push : (xs : List ℕ) (x : ℕ) → sum (xs ++ x ∷ []) ≡ sum xs + x
sum-push xs x = sum_by-append (λ (y : ℕ). y) xs (x ∷ []) ∙ ap (λ (n : ℕ). sum xs + n) (sum-one x)

pub later_none : (net : Net) → AreLater net net [] []
later_none net = record {
  keeps = same_keeps net;
  cost = record { nodes = omega arith; registers = omega arith; memories = omega arith };
  buses = AreBuses-none net;
  same_widths = refl;
  row = λ run r t. row_at-none run (suc (suc t)) ∙ sym (row_at-none run (suc t));
}

pub later_more : (old mid new : Net) (cs ds : List Bus) (c d : Bus) → AreLater old mid cs ds → IsLaterBus mid new c d → AreLater old new (cs ++ c ∷ []) (ds ++ d ∷ [])
later_more old mid new cs ds c d h i = record {
  keeps = keeps_then old mid new h.keeps i.keeps;
  cost = record {
    nodes = omega (arith, h.cost.nodes, i.cost.nodes, ap length (widths-push cs c), length-append (widths cs) (c.width ∷ []));
    registers = omega (arith, h.cost.registers, i.cost.registers, ap sum (widths-push cs c), sum-push (widths cs) c.width);
    memories = omega (arith, h.cost.memories, i.cost.memories);
  };
  buses = AreBuses-push new ds d (buses_kept mid new ds i.keeps h.buses) i.bus;
  same_widths = widths-push ds d ∙ ap (λ l. l ++ d.width ∷ []) h.same_widths ∙ ap (λ x. widths cs ++ x ∷ []) i.same_width ∙ sym (widths-push cs c);
  row = λ run r t. row_at-push run (suc (suc t)) ds d ∙ ap (λ l. l ++ run.at (suc (suc t)) d.node ∷ []) (h.row run (i.keeps.runs run r) t) ∙ ap (λ v. row_at run (suc t) cs ++ v ∷ []) (i.value run r t) ∙ sym (row_at-push run (suc t) cs c);
}
