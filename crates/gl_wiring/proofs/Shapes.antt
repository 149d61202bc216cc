-- The ports of a netlist, with their directions and bits, while it grows.
use Rattle.std.proofs.Common.{◌≡◌, ℕ, zero, suc, Bool, true, false, ◌+◌, ◌<◌, List, [], ◌∷◌, ◌++◌, length, take, get_or, Some, refl, sym, ap, subst, ◌∙◌, append_assoc, arith}
use Rattle.std.specs.Prelude.{map, slice_get}
use Rattle.std.proofs.lemmas.List.{append-nil, map-append}
use Rattle.gl_bits.proofs.AllLists.{taken_next}
use Rattle.gl_values.specs.Kinds.{width_of}
use Rattle.gl_schema.specs.declared.schema.Column.{Column}
use Rattle.gl_schema.specs.declared.schema.Stream.{Stream}
use Rattle.gl_schema.specs.Ports.{tick, in_valid, in_column, in_parameter}
use Rattle.gl_net.specs.declared.node.Bus.{Bus}
use Rattle.gl_net.specs.declared.node.Node.{Node}
use Rattle.gl_net.specs.declared.node.Port.{Port}
use Rattle.gl_net.specs.declared.node.Direction.{Direction}
use Rattle.gl_net.specs.Net.{Net, Shape, Value, shape_in, IsPort}
use Rattle.gl_net.specs.PortValues.{PortShape, port_shape, port_shapes, bits_of}
use Rattle.gl_wiring.specs.PortNames.{column_ports, stream_ports, streams_ports, parameter_ports, late_ports}
use Rattle.gl_wiring.specs.EmittedPorts.{input, column_widths, column_inputs, stream_inputs, streams_inputs, parameter_inputs}
use Rattle.gl_wiring.specs.Output.{late_inputs}
use Rattle.gl_wiring.specs.Emitted.{bus_widths, IsPortOf, ArePorts, HasPorts, Puts}

-- ---- ports one by one

-- each shape stays
abbrev Grow : Net → Net → Type 0
Grow old new = (n : ℕ) (shape : Shape) → shape_in old.nodes n ≡ Some shape → shape_in new.nodes n ≡ Some shape

ports_stay : (old new : Net) (ports : List Port) (shapes : List PortShape) → Grow old new → ArePorts old.nodes ports shapes → ArePorts new.nodes ports shapes
ports_stay old new [] [] grow h = tt
ports_stay old new [] (s ∷ ss) grow h = absurd h
ports_stay old new (p ∷ ps) [] grow h = absurd h
ports_stay old new (p ∷ ps) (s ∷ ss) grow h =
    (record { direction = h.0.direction; name = h.0.name; bits = grow p.node (Value s.width) h.0.bits }, ports_stay old new ps ss grow h.1)

ports_push : (nodes : List Node) (ports : List Port) (shapes : List PortShape) (p : Port) (s : PortShape) → ArePorts nodes ports shapes → IsPortOf nodes p s → ArePorts nodes (ports ++ p ∷ []) (shapes ++ s ∷ [])
ports_push nodes [] [] p s h is = (is, tt)
ports_push nodes [] (x ∷ xs) p s h is = absurd h
ports_push nodes (q ∷ qs) [] p s h is = absurd h
ports_push nodes (q ∷ qs) (x ∷ xs) p s h is = (h.0, ports_push nodes qs xs p s h.1 is)

-- one port more
pub puts_one : (old new : Net) (d : Direction) (name : List ℕ) (n w : ℕ) → ((m : ℕ) (shape : Shape) → shape_in old.nodes m ≡ Some shape → shape_in new.nodes m ≡ Some shape) → new.ports ≡ old.ports ++ record { direction = d; name = name; node = n } ∷ [] → shape_in new.nodes n ≡ Some (Value w) → Puts old new (record { direction = d; name = name; width = w } ∷ [])
puts_one old new d name n w grow e there = record {
  all = λ before h. record {
    are = subst (λ (ports : List Port). ArePorts new.nodes ports (before ++ record { direction = d; name = name; width = w } ∷ [])) (sym e)
        (ports_push new.nodes old.ports before (record { direction = d; name = name; node = n }) (record { direction = d; name = name; width = w }) (ports_stay old new old.ports before grow h.are)
        (record { direction = refl; name = refl; bits = there }));
  };
}

-- none more
pub puts_none : (old new : Net) → ((m : ℕ) (shape : Shape) → shape_in old.nodes m ≡ Some shape → shape_in new.nodes m ≡ Some shape) → new.ports ≡ old.ports → Puts old new []
puts_none old new grow e = record {
  all = λ before h. record {
    are = subst (λ (shapes : List PortShape). ArePorts new.nodes new.ports shapes) (sym (append-nil before))
        (subst (λ (ports : List Port). ArePorts new.nodes ports before) (sym e) (ports_stay old new old.ports before grow h.are));
  };
}

pub puts_nothing : (net : Net) → Puts net net []
puts_nothing net = puts_none net net (λ m shape h. h) refl

pub puts_then : (a b c : Net) (xs ys : List PortShape) → Puts a b xs → Puts b c ys → Puts a c (xs ++ ys)
puts_then a b c xs ys x y = record { all = λ before h. subst (HasPorts c) (append_assoc before xs ys) (y.all (before ++ xs) (x.all before h)) }

-- a port of the netlist
pub port_last : (old new : Net) (d : Direction) (name : List ℕ) (n : ℕ) → new.ports ≡ old.ports ++ record { direction = d; name = name; node = n } ∷ [] → IsPort new d name n
port_last old new d name n e = record { place = length old.ports; there = ap (λ (x : List Port). slice_get x (length old.ports)) e ∙ last_there old.ports (record { direction = d; name = name; node = n }) }
  where
    last_there : (xs : List Port) (x : Port) → slice_get (xs ++ x ∷ []) (length xs) ≡ Some x
    last_there [] x = refl
    last_there (y ∷ ys) x = last_there ys x

abbrev shape_from : Direction → List ℕ → ℕ → PortShape
shape_from direction name width = record { direction = direction; name = name; width = width }

same_shape : (d e : Direction) (m n : List ℕ) (v w : ℕ) → d ≡ e → m ≡ n → v ≡ w → shape_from d m v ≡ shape_from e n w
same_shape d e m n v w a b c =
    ap (λ (x : Direction). shape_from x m v) a ∙ ap (λ (x : List ℕ). shape_from e x v) b ∙ ap (λ (x : ℕ). shape_from e n x) c

are_shapes : (net : Net) (ports : List Port) (shapes : List PortShape) → ArePorts net.nodes ports shapes → map (port_shape net) ports ≡ shapes
are_shapes net [] [] h = refl
are_shapes net [] (s ∷ ss) h = absurd h
are_shapes net (p ∷ ps) [] h = absurd h
are_shapes net (p ∷ ps) (s ∷ ss) h =
    let bits : bits_of (shape_in net.nodes p.node) ≡ s.width = ap bits_of h.0.bits in
    let first : port_shape net p ≡ s = same_shape p.direction s.direction p.name s.name (bits_of (shape_in net.nodes p.node)) s.width h.0.direction h.0.name bits in
    ap (λ (x : PortShape). x ∷ map (port_shape net) ps) first ∙ ap (λ (x : List PortShape). s ∷ x) (are_shapes net ps ss h.1)

-- all ports, where there were none before
pub all_put : (old new : Net) (shapes : List PortShape) → old.ports ≡ [] → Puts old new shapes → port_shapes new ≡ shapes
unfolding port_shapes
all_put old new shapes none put =
    let empty : HasPorts old [] = record { are = subst (λ (ports : List Port). ArePorts old.nodes ports []) (sym none) tt } in
    are_shapes new new.ports shapes (put.all [] empty).are

-- ---- streams and columns

columns_push : (s : List ℕ) (cs : List Column) (c : Column) → column_inputs s (cs ++ c ∷ []) ≡ column_inputs s cs ++ input (in_column s c.name) (width_of c.kind) ∷ []
columns_push s [] c = refl
columns_push s (d ∷ cs) c = ap (λ (x : List PortShape). input (in_column s d.name) (width_of d.kind) ∷ x) (columns_push s cs c)

-- one column more
pub columns_next : (a b c : Net) (s : List ℕ) (cs : List Column) (i : ℕ) (column : Column) → take (i + 1) cs ≡ take i cs ++ column ∷ [] → Puts a b (column_inputs s (take i cs)) → Puts b c (input (in_column s column.name) (width_of column.kind) ∷ []) → Puts a c (column_inputs s (take (i + 1) cs))
columns_next a b c s cs i column more x y =
    subst (λ (shapes : List PortShape). Puts a c shapes) (sym (ap (column_inputs s) more ∙ columns_push s (take i cs) column)) (puts_then a b c (column_inputs s (take i cs)) (input (in_column s column.name) (width_of column.kind) ∷ []) x y)

streams_join : (xs ys : List Stream) → streams_inputs (xs ++ ys) ≡ streams_inputs xs ++ streams_inputs ys
streams_join [] ys = refl
streams_join (x ∷ xs) ys = ap (λ (t : List PortShape). stream_inputs x ++ t) (streams_join xs ys) ∙ sym (append_assoc (stream_inputs x) (streams_inputs xs) (streams_inputs ys))

-- one stream more
pub streams_next : (a b c : Net) (ss : List Stream) (i : ℕ) (s : Stream) → i < length ss → s ≡ get_or ss i s → Puts a b (streams_inputs (take i ss)) → Puts b c (stream_inputs s) → Puts a c (streams_inputs (take (i + 1) ss))
streams_next a b c ss i s lt e x y =
    subst (λ (shapes : List PortShape). Puts a c shapes)
    (sym (ap streams_inputs (taken_next ss i s lt e) ∙ streams_join (take i ss) (s ∷ []) ∙ ap (λ (t : List PortShape). streams_inputs (take i ss) ++ t) (append-nil (stream_inputs s))))
    (puts_then a b c (streams_inputs (take i ss)) (stream_inputs s) x y)

-- ---- parameters

parameters_push : (ps : List Column) (p : Column) → parameter_inputs (ps ++ p ∷ []) ≡ parameter_inputs ps ++ input (in_parameter p.name) (width_of p.kind) ∷ []
parameters_push [] p = refl
parameters_push (q ∷ ps) p = ap (λ (x : List PortShape). input (in_parameter q.name) (width_of q.kind) ∷ x) (parameters_push ps p)

-- one parameter more
pub parameters_next : (a b c : Net) (ps : List Column) (i : ℕ) (p : Column) → take (i + 1) ps ≡ take i ps ++ p ∷ [] → Puts a b (parameter_inputs (take i ps)) → Puts b c (input (in_parameter p.name) (width_of p.kind) ∷ []) → Puts a c (parameter_inputs (take (i + 1) ps))
parameters_next a b c ps i p more x y =
    subst (λ (shapes : List PortShape). Puts a c shapes) (sym (ap parameter_inputs more ∙ parameters_push (take i ps) p))
    (puts_then a b c (parameter_inputs (take i ps)) (input (in_parameter p.name) (width_of p.kind) ∷ []) x y)

-- ---- widths

pub widths_push : (cs : List Column) (bs : List Bus) (c : Column) (b : Bus) → bus_widths bs ≡ column_widths cs → b.width ≡ width_of c.kind → bus_widths (bs ++ b ∷ []) ≡ column_widths (cs ++ c ∷ [])
widths_push cs bs c b e w =
    map-append (λ (x : Bus). x.width) bs (b ∷ [])
    ∙ ap (λ (x : List ℕ). x ++ b.width ∷ []) e ∙ ap (λ (x : ℕ). column_widths cs ++ x ∷ []) w
    ∙ sym (map-append (λ (x : Column). width_of x.kind) cs (c ∷ []))

-- ---- outputs

pub same_taken : {A B : Type 0} (i : ℕ) (xs : List A) (ys : List B) → length xs ≡ length ys → length (take i xs) ≡ length (take i ys)
same_taken zero xs ys e = refl
same_taken (suc i) [] [] e = refl
same_taken (suc i) [] (y ∷ ys) e = absurd (omega arith)
same_taken (suc i) (x ∷ xs) [] e = absurd (omega arith)
same_taken (suc i) (x ∷ xs) (y ∷ ys) e = ap suc (same_taken i xs ys (omega arith))

-- ---- names

abbrev pub names_in : List PortShape → List (List ℕ)
names_in shapes = map (λ (s : PortShape). s.name) shapes

pub shape_names : (net : Net) (ports : List Port) → names_in (map (port_shape net) ports) ≡ map (λ (p : Port). p.name) ports
shape_names net [] = refl
shape_names net (p ∷ ps) = ap (λ (x : List (List ℕ)). p.name ∷ x) (shape_names net ps)

column_names : (s : List ℕ) (cs : List Column) → names_in (column_inputs s cs) ≡ column_ports s cs
column_names s [] = refl
column_names s (c ∷ cs) = ap (λ (x : List (List ℕ)). in_column s c.name ∷ x) (column_names s cs)

stream_names : (s : Stream) → names_in (stream_inputs s) ≡ stream_ports s
stream_names s = ap (λ (x : List (List ℕ)). in_valid s.name ∷ x) (column_names s.name s.columns)

pub streams_names : (ss : List Stream) → names_in (streams_inputs ss) ≡ streams_ports ss
streams_names [] = refl
streams_names (s ∷ ss) = map-append (λ (x : PortShape). x.name) (stream_inputs s) (streams_inputs ss) ∙ ap (λ (x : List (List ℕ)). x ++ names_in (streams_inputs ss)) (stream_names s) ∙ ap (λ (x : List (List ℕ)). stream_ports s ++ x) (streams_names ss)

parameter_names : (ps : List Column) → names_in (parameter_inputs ps) ≡ parameter_ports ps
parameter_names [] = refl
parameter_names (p ∷ ps) = ap (λ (x : List (List ℕ)). in_parameter p.name ∷ x) (parameter_names ps)

late_names : (ticks : Bool) (ps : List Column) → names_in (late_inputs ticks ps) ≡ late_ports ticks ps
late_names true ps = ap (λ (x : List (List ℕ)). tick ∷ x) (parameter_names ps)
late_names false ps = parameter_names ps

-- the inputs behind the end, and outputs behind them
pub late_named : (ticks : Bool) (ps : List Column) (shapes : List PortShape) → names_in (late_inputs ticks ps ++ shapes) ≡ late_ports ticks ps ++ names_in shapes
late_named ticks ps shapes =
    map-append (λ (x : PortShape). x.name) (late_inputs ticks ps) shapes ∙ ap (λ (x : List (List ℕ)). x ++ names_in shapes) (late_names ticks ps)
