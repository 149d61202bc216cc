-- Buses that carry values of rows, and lists of them.
use Rattle.std.proofs.Common.{◌≡◌, ℕ, zero, suc, ◌+◌, ◌*◌, ◌<◌, List, [], ◌∷◌, ◌++◌, map, length, Some, refl, subst, sym, ap, ◌∙◌, arith, length-append}
use Rattle.std.specs.Prelude.{slice_get, slice_index, slice_index_or}
use Rattle.std.proofs.lemmas.List.{map-append}
use Rattle.std.proofs.lemmas.Option.{get_or_from_slice_get, slice_get-get_or}
use Rattle.gl_values.specs.Kinds.{width_of}
use Rattle.gl_values.specs.Results.{Row}
use Rattle.gl_values.specs.declared.kind.Kind.{Kind}
use Rattle.gl_algebra.specs.declared.node.Operand.TheVariants.{Parameter}
use Rattle.gl_algebra.specs.Columns.{kind_of_column}
use Rattle.gl_algebra.specs.Values.{Sets}
use Rattle.gl_net.specs.Builds.{IsHeldBus}
use Rattle.gl_net.specs.declared.node.Bus.{Bus}
use Rattle.gl_net.specs.Net.{Net, Run, IsRun, Keeps}
use Rattle.gl_net.proofs.Determined.{keeps_then}
use Rattle.gl_net.proofs.Growth.{same_keeps}
use Rattle.gl_wire.specs.Wire.{row_at, widths}
use Rattle.gl_wire.proofs.ColumnLemmas.{AreBuses-none, AreBuses-push, bus_kept, buses_kept, column_at, row_at-none, row_at-push, row_at-value, widths-push}
use Rattle.gl_rows.specs.Made.{AreHeldBuses, AreMade, Carries, IsOperand, IsSource}

pub no_words : (net : Net) → AreHeldBuses net []
no_words net = record { each = λ number b at. absurd (cc) }

-- the buses of parameters stay
pub words_kept : (old new : Net) (words : List Bus) → Keeps old new → AreHeldBuses old words → AreHeldBuses new words
words_kept old new words keeps held = record {
  each = λ number b at.
      let is = held.each number b at in
      record { bus = bus_kept old new b keeps is.bus; carries = λ run r. is.carries run (keeps.runs run r) };
}

pub source_kept : (old new : Net) (columns : List Bus) (kinds : List Kind) (words : List Bus) → Keeps old new → IsSource old columns kinds words → IsSource new columns kinds words
source_kept old new columns kinds words keeps source = record {
  buses = buses_kept old new columns keeps source.buses;
  same_widths = source.same_widths;
  held = words_kept old new words keeps source.held;
}

-- a column has the width of its kind
width_at : (columns : List Bus) (kinds : List Kind) → widths columns ≡ map width_of kinds → (k : ℕ) → k < length kinds → (none : Bus)
    → (slice_index_or columns k none).width ≡ width_of (kind_of_column kinds k)
width_at columns [] same k within none = absurd (omega (arith, within))
width_at [] (kind ∷ kinds) same k within none = absurd (cc)
width_at (b ∷ columns) (kind ∷ kinds) same zero within none = cc
width_at (b ∷ columns) (kind ∷ kinds) same (suc k) within none = width_at columns kinds (cc) k (omega (arith, within)) none

pub as_many : (columns : List Bus) (kinds : List Kind) → widths columns ≡ map width_of kinds → length columns ≡ length kinds
as_many [] [] same = refl
as_many [] (kind ∷ kinds) same = absurd (cc)
as_many (b ∷ columns) [] same = absurd (cc)
as_many (b ∷ columns) (kind ∷ kinds) same = ap suc (as_many columns kinds cc)

-- a column as it is
pub column_carries : (net : Net) (columns : List Bus) (kinds : List Kind) (words : List Bus) (k : ℕ) (none : Bus) → IsSource net columns kinds words → k < length kinds
    → Carries net net 1 (width_of (kind_of_column kinds k)) (λ run t. slice_index (row_at run t columns) k) (slice_index_or columns k none)
column_carries net columns kinds words k none source within =
    let there : slice_get columns k ≡ Some (slice_index_or columns k none) = slice_get-get_or columns k none (let enough : k < length columns = omega (arith, within, as_many columns kinds source.same_widths) in enough) in
    record {
      keeps = same_keeps net;
      cost = record { nodes = omega arith; registers = omega arith; memories = omega arith };
      bus = source.buses.each k (slice_index_or columns k none) there;
      same_width = width_at columns kinds source.same_widths k within none;
      carries = λ run r t. sym (row_at-value run t columns k (slice_index_or columns k none) there);
    }

-- the word of a parameter
pub word_carries : (net : Net) (columns : List Bus) (kinds : List Kind) (words : List Bus) (number : ℕ) (kind : Kind) (none : Bus) → AreHeldBuses net words
    → slice_get (widths words) number ≡ Some (width_of kind) → IsOperand net net columns kinds (Parameter number kind) (slice_index_or words number none)
word_carries net columns kinds words number kind none held known =
    let at = column_at words number (width_of kind) known in
    let same : slice_index_or words number none ≡ at.0 = get_or_from_slice_get words number at.0 none at.1 in
    let is : IsHeldBus net number at.0 = held.each number at.0 at.1 in
    subst (IsOperand net net columns kinds (Parameter number kind)) (sym same)
    (record {
      keeps = same_keeps net;
      cost = record { nodes = omega arith; registers = omega arith; memories = omega arith };
      bus = is.bus;
      same_width = at.2;
      carries = is.carries;
    })

-- a bus of a bus
pub carries_then : (old mid new : Net) (m n w v : ℕ) (value : Run → ℕ → ℕ) (f : ℕ → ℕ) (x b : Bus) → Carries old mid m w value x
    → Carries mid new n v (λ run t. f (run.at t x.node)) b → Carries old new (m + n) v (λ run t. f (value run t)) b
carries_then old mid new m n w v value f x b one two = record {
  keeps = keeps_then old mid new one.keeps two.keeps;
  cost = record { nodes = omega (arith, one.cost.nodes, two.cost.nodes); registers = omega (arith, one.cost.registers, two.cost.registers); memories = omega (arith, one.cost.memories, two.cost.memories) };
  bus = two.bus;
  same_width = two.same_width;
  carries = λ run r t. two.carries run r t ∙ ap f (one.carries run (two.keeps.runs run r) t);
}

-- a bus of two buses
pub carries_then2 : (old left right new : Net) (l m n w v u : ℕ) (first second : Run → ℕ → ℕ) (f : ℕ → ℕ → ℕ) (x y b : Bus) → Carries old left l w first x
    → Carries left right m v second y → Carries right new n u (λ run t. f (run.at t x.node) (run.at t y.node)) b
    → Carries old new (l + m + n) u (λ run t. f (first run t) (second run t)) b
carries_then2 old left right new l m n w v u first second f x y b one two three = record {
  keeps = keeps_then old right new (keeps_then old left right one.keeps two.keeps) three.keeps;
  cost = record {
    nodes = omega (arith, one.cost.nodes, two.cost.nodes, three.cost.nodes);
    registers = omega (arith, one.cost.registers, two.cost.registers, three.cost.registers);
    memories = omega (arith, one.cost.memories, two.cost.memories, three.cost.memories);
  };
  bus = three.bus;
  same_width = three.same_width;
  carries = λ run r t.
      let before = three.keeps.runs run r in
      three.carries run r t ∙ ap (λ (n : ℕ). f n (run.at t y.node)) (one.carries run (two.keeps.runs run before) t) ∙ ap (f (first run t)) (two.carries run before t);
}

-- no more nodes, counted more loosely
pub carries_within : (old new : Net) (m n w : ℕ) (value : Run → ℕ → ℕ) (b : Bus) → m < suc n → Carries old new m w value b → Carries old new n w value b
carries_within old new m n w value b less one = record {
  keeps = one.keeps;
  cost = record { nodes = omega (arith, one.cost.nodes, less); registers = one.cost.registers; memories = one.cost.memories };
  bus = one.bus;
  same_width = one.same_width;
  carries = one.carries;
}

-- what a bus carries, said otherwise
pub carries_as : (old new : Net) (m w : ℕ) (value other : Run → ℕ → ℕ) (b : Bus) → ((run : Run) → IsRun new run → (t : ℕ) → value run t ≡ other run t)
    → Carries old new m w value b → Carries old new m w other b
carries_as old new m w value other b same one = record {
  keeps = one.keeps;
  cost = one.cost;
  bus = one.bus;
  same_width = one.same_width;
  carries = λ run r t. one.carries run r t ∙ same run r t;
}

module _ {Item : Type 0} (m : ℕ) (columns : List Bus) (kind_of : Item → Kind) (value_of : Sets → Row → Item → ℕ) where
  pub made_none : (net : Net) → AreMade net net m columns kind_of value_of [] []
  made_none net = record {
    keeps = same_keeps net;
    cost = record { nodes = omega arith; registers = omega arith; memories = omega arith };
    buses = AreBuses-none net;
    same_widths = refl;
    row = λ run r t. row_at-none run t;
  }

  pub made_more : (old mid new : Net) (items : List Item) (item : Item) (bs : List Bus) (b : Bus) → AreMade old mid m columns kind_of value_of items bs
      → Carries mid new m (width_of (kind_of item)) (λ run t. value_of run.held (row_at run t columns) item) b
      → AreMade old new m columns kind_of value_of (items ++ item ∷ []) (bs ++ b ∷ [])
  made_more old mid new items item bs b all one = record {
    keeps = keeps_then old mid new all.keeps one.keeps;
    cost = record {
      nodes = omega (arith, all.cost.nodes, one.cost.nodes, ap (λ (n : ℕ). m * n) (length-append items (item ∷ [])));
      registers = omega (arith, all.cost.registers, one.cost.registers);
      memories = omega (arith, all.cost.memories, one.cost.memories);
    };
    buses = AreBuses-push new bs b (buses_kept mid new bs one.keeps all.buses) one.bus;
    same_widths = widths-push bs b ∙ ap (λ l. l ++ b.width ∷ []) all.same_widths
        ∙ ap (λ w. map width_of (map kind_of items) ++ w ∷ []) one.same_width
        ∙ sym (ap (map width_of) (map-append kind_of items (item ∷ [])) ∙ map-append width_of (map kind_of items) (kind_of item ∷ []));
    row = λ run r t.
        row_at-push run t bs b ∙ ap (λ l. l ++ run.at t b.node ∷ []) (all.row run (one.keeps.runs run r) t)
        ∙ ap (λ v. map (value_of run.held (row_at run t columns)) items ++ v ∷ []) (one.carries run r t)
        ∙ sym (map-append (value_of run.held (row_at run t columns)) items (item ∷ []));
  }
