-- What is read of the ports that show a result is what they have in a run.
use Rattle.std.proofs.Common.{◌≡◌, ℕ, suc, ◌+◌, ◌<◌, ◌≤◌, ◌^◌, Bool, List, [], ◌∷◌, Option, Some, None, map, length, refl, sym, ap, ◌∙◌, subst, arith}
use Rattle.std.specs.Prelude.{◌==◌, slice_get, slice_index, unwrap_or, IfSome}
use Rattle.std.specs.Option.{option_map, option_map_or}
use Rattle.std.specs.List.{AllByRecursion, AllZip}
use Rattle.gl_bits.proofs.AllLists.{length_map}
use Rattle.gl_bits.proofs.Bools.{bytes_same}
use Rattle.gl_values.specs.declared.kind.Kind.{Kind}
use Rattle.gl_values.specs.Kinds.{IsKind}
use Rattle.gl_bits.specs.Words.{Word, bits_of, widths_of}
use Rattle.gl_schema.specs.declared.schema.Schema.{Schema}
use Rattle.gl_schema.specs.Beats.{Beats}
use Rattle.gl_schema.specs.Ports.{PortValues, fault_group, out_eos, out_valid}
use Rattle.gl_schema.specs.Seen.{Shown, cycle_lines, shown, value_at}
use Rattle.gl_sim.specs.Simulation.{Simulation}
use Rattle.gl_verilog.specs.Evaluate.{nets_of}
use Rattle.gl_verilog.specs.Module.{Declaration, Module, number_of}
use Rattle.gl_verilog.specs.Widths.{width_at}
use Rattle.gl_verilog.proofs.Fits.{in_range, width_at-found}
use Rattle.gl_verilog_ports.specs.Profile.{FitsSchema, IsLine, ports_of, result_names}
use Rattle.gl_verilog_ports.proofs.Declared.{get_take}
use Rattle.gl_verilog_ports.proofs.Fits.{line_named}
use Rattle.gl_tuples.specs.declared.lines.Sample.{Sample}
use Rattle.gl_tuples.specs.Pieces.{sampled}
use Rattle.gl_tuples.proofs.Rows.{widths_length}
use Rattle.gl_testbench.specs.declared.pins.Shows.{Shows}
use Rattle.gl_testbench.specs.Benches.{AreShows, columns_from}
use Rattle.gl_testbench.specs.Carried.{name_at}
use Rattle.gl_testbench.proofs.Outputs.{IsNamed, clock_no_column, column_output, columns_are, columns_each, columns_widths, line_inside, line_readable, named, output_is_net}
use Rattle.gl_runner.specs.Cycles.{CanFollow, HasNoOther, HasOnPorts}
use Rattle.gl_runner.specs.Probes.{AreInside, IsLineIn, IsPortIn, IsProbe, IsSampled, IsSeen, Names, is_one, plain_names}
use Rattle.gl_runner.specs.Watches.{AreFirst}
use Rattle.gl_runner.specs.declared.following.ResultLines.{ResultLines}

-- ---- what a port has

-- a line
line_had : (m : Module) (s : Simulation) (port : PortValues) (t : ℕ) (name : List ℕ) → HasOnPorts m s port t → HasNoOther m port t → IsLineIn m name → unwrap_or (option_map (nets_of s.shown) (number_of (ports_of m) name)) 0 ≡ value_at port t name
line_had m s port t name have none line = pick (number_of (ports_of m) name) refl (named (ports_of m) name IsLine line.line)
  where
    pick : (o : Option ℕ) → number_of (ports_of m) name ≡ o → IfSome o (IsNamed (ports_of m) name IsLine) → unwrap_or (option_map (nets_of s.shown) o) 0 ≡ value_at port t name
    pick None e h = sym (ap (λ (x : Option ℕ). unwrap_or x 0) (none name e))
    pick (Some k) e h = (have k h.d h.there (line_readable name h.d line.other h.is h.same)).0 ∙ ap (value_at port t) (bytes_same h.d.name name h.same)

-- whether it is high
pub line_high : (m : Module) (s : Simulation) (port : PortValues) (t : ℕ) (name : List ℕ) (o : Option ℕ) (high : Bool) → HasOnPorts m s port t → HasNoOther m port t → IsLineIn m name → o ≡ number_of (ports_of m) name → high ≡ is_one s.shown o → high ≡ (value_at port t name == 1)
line_high m s port t name o high have none line found sampled' =
    sampled' ∙ ap (is_one s.shown) found ∙ ap (λ (x : ℕ). x == 1) (line_had m s port t name have none line)

pub name_there : (ds : List Declaration) (k : ℕ) (d : Declaration) → slice_get ds k ≡ Some d → name_at ds k ≡ d.name
name_there ds k d e = ap (λ (o : Option Declaration). option_map_or (λ (x : Declaration). x.name) o []) e

-- the columns
columns_had : (m : Module) (s : Simulation) (port : PortValues) (t : ℕ) (ks : List ℕ) → HasOnPorts m s port t → AllByRecursion (IsPortIn m) ks → map (slice_index s.shown) ks ≡ map (value_at port t) (map (name_at m.declarations) ks)
columns_had m s port t [] have h = refl
columns_had m s port t (k ∷ ks) have h =
    let there = get_take m.ports m.declarations k h.0.port h.0.there in
    let name : name_at m.declarations k ≡ h.0.port.name = name_there m.declarations k h.0.port there in
    let first : slice_index s.shown k ≡ value_at port t (name_at m.declarations k) = (have k h.0.port h.0.there h.0.readable).0 ∙ ap (value_at port t) (sym name) in
    let rest : map (slice_index s.shown) ks ≡ map (value_at port t) (map (name_at m.declarations) ks) = columns_had m s port t ks have h.1 in
    cc

columns_small : (m : Module) (s : Simulation) (port : PortValues) (t : ℕ) (ks : List ℕ) → HasOnPorts m s port t → AllByRecursion (IsPortIn m) ks → AllZip (λ n width. slice_index s.shown n < 2 ^ width) ks (map (width_at m.declarations) ks)
columns_small m s port t [] have h = tt
columns_small m s port t (k ∷ ks) have h =
    let there = get_take m.ports m.declarations k h.0.port h.0.there in
    (rw (width_at-found m.declarations k h.0.port there) (have k h.0.port h.0.there h.0.readable).1, columns_small m s port t ks have h.1)

-- ---- what a watcher asks for

pub lines_inside : (m : Module) (names : Names) (kinds : List Kind) (shows : Shows) (row : List Word) → IsProbe m names kinds shows row → AreInside m shows
lines_inside m names kinds shows row p = record {
  valid' = line_inside m names.valid shows.valid p.valid';
  end' = line_inside m names.end shows.end p.end';
  group' = line_inside m names.group shows.group p.group';
}

pub columns_in : (m : Module) (ks : List ℕ) → AllByRecursion (IsPortIn m) ks → AllByRecursion (λ n. n < length m.declarations) ks
columns_in m [] h = tt
columns_in m (k ∷ ks) h = (in_range m.declarations k h.0.port (get_take m.ports m.declarations k h.0.port h.0.there), columns_in m ks h.1)

pub columns_many : (m : Module) (names : Names) (kinds : List Kind) (shows : Shows) (row : List Word) → IsProbe m names kinds shows row → length shows.columns.items ≡ length row
columns_many m names kinds shows row p =
    sym (length_map (width_at m.declarations) shows.columns.items) ∙ ap length (p.wide' ∙ sym p.row') ∙ widths_length row

-- ---- what was read

pub row_read : (m : Module) (s : Simulation) (port : PortValues) (t : ℕ) (names : Names) (kinds : List Kind) (shows : Shows) (columns : List ℕ) (old new : List Word) → HasOnPorts m s port t → IsProbe m names kinds shows old → columns ≡ shows.columns.items
    → (AllZip (λ n width. slice_index s.shown n < 2 ^ width) columns (widths_of old) → bits_of new ≡ map (slice_index s.shown) columns) → bits_of new ≡ map (value_at port t) names.columns
row_read m s port t names kinds shows columns old new have p same set =
    let set' : AllZip (λ n width. slice_index s.shown n < 2 ^ width) shows.columns.items (widths_of old) → bits_of new ≡ map (slice_index s.shown) shows.columns.items =
    subst (λ (x : List ℕ). AllZip (λ n width. slice_index s.shown n < 2 ^ width) x (widths_of old) → bits_of new ≡ map (slice_index s.shown) x) same set in
    let fit : AllZip (λ n width. slice_index s.shown n < 2 ^ width) shows.columns.items (widths_of old) =
    subst (AllZip (λ n width. slice_index s.shown n < 2 ^ width) shows.columns.items) (p.wide' ∙ sym p.row') (columns_small m s port t shows.columns.items have p.columns') in
    set' fit ∙ columns_had m s port t shows.columns.items have p.columns' ∙ ap (map (value_at port t)) p.named'

pub seen_plain : (m : Module) (s : Simulation) (port : PortValues) (t : ℕ) (kinds : List Kind) (shows : Shows) (columns : List ℕ) (old new : List Word) (sample : Sample) → HasOnPorts m s port t → HasNoOther m port t → IsProbe m (plain_names m) kinds shows old → IsSampled s.shown shows sample → columns ≡ shows.columns.items
    → (AllZip (λ n width. slice_index s.shown n < 2 ^ width) columns (widths_of old) → bits_of new ≡ map (slice_index s.shown) columns) → IsSeen port (result_names m) t sample (bits_of new)
seen_plain m s port t kinds shows columns old new sample have none p is same set = record {
  valid' = line_high m s port t out_valid shows.valid sample.valid have none p.valid_line p.valid' is.valid';
  end' = line_high m s port t out_eos shows.end sample.end have none p.end_line p.end' is.end';
  group' = line_high m s port t fault_group shows.group sample.group have none p.group_line p.group' is.group';
  row' = row_read m s port t (plain_names m) kinds shows columns old new have p same set;
}

lines_same : (kinds : List Kind) (overflowed : Bool) (a b : Shown) → a.cycle ≡ b.cycle → a.row ≡ b.row → a.end ≡ b.end → a.group ≡ b.group → cycle_lines kinds overflowed a ≡ cycle_lines kinds overflowed b
lines_same kinds overflowed a b cycle row ends group = rw (cycle, row, ends, group) refl

-- the lines of what was sampled are those of what is shown
pub lines_seen : (port : PortValues) (outs : List (List ℕ)) (n : ℕ) (kinds : List Kind) (told : Bool) (sample : Sample) (row : List ℕ) → IsSeen port outs (suc n) sample row → cycle_lines kinds told (sampled sample n row) ≡ cycle_lines kinds told (shown port outs n)
unfolding shown
lines_seen port outs n kinds told sample row is = lines_same kinds told (sampled sample n row) (shown port outs n) refl (rw (is.valid', is.row') refl) is.end' is.group'

pub group_seen : (port : PortValues) (outs : List (List ℕ)) (n : ℕ) (sample : Sample) (row : List ℕ) → IsSeen port outs (suc n) sample row → sample.group ≡ (shown port outs n).group
unfolding shown
group_seen port outs n sample row is = is.group'

pub end_seen : (port : PortValues) (outs : List (List ℕ)) (n : ℕ) (sample : Sample) (row : List ℕ) → IsSeen port outs (suc n) sample row → sample.end ≡ (shown port outs n).end
unfolding shown
end_seen port outs n sample row is = is.end'

-- of a line alone
pub end_had : (m : Module) (s : Simulation) (port : PortValues) (n : ℕ) (o : Option ℕ) (high : Bool) → HasOnPorts m s port (suc n) → HasNoOther m port (suc n) → IsLineIn m out_eos → o ≡ number_of (ports_of m) out_eos → high ≡ is_one s.shown o → high ≡ (shown port (result_names m) n).end
unfolding shown
end_had m s port n o high have none line found is = line_high m s port (suc n) out_eos o high have none line found is

-- ---- the ports of one result

valid_line : (m : Module) (schema : Schema) → FitsSchema m schema → IsLineIn m out_valid
unfolding out_valid
valid_line m schema fits = record { other = refl; line = line_named m out_valid fits.valid }

pub end_line : (m : Module) (schema : Schema) → FitsSchema m schema → IsLineIn m out_eos
unfolding out_eos
end_line m schema fits = record { other = refl; line = line_named m out_eos fits.end }

group_line : (m : Module) (schema : Schema) → FitsSchema m schema → IsLineIn m fault_group
unfolding fault_group
group_line m schema fits = record { other = refl; line = fits.group }

columns_plain : (m : Module) → AllByRecursion (IsPortIn m) (columns_from 0 (ports_of m))
columns_plain m = columns_each (IsPortIn m) 0 (ports_of m)
    (λ n d e s. let same : n ≡ 0 + n = omega arith in
    subst (IsPortIn m) same (record { port = d; there = e; readable = (output_is_net d.kind (column_output d s), clock_no_column d s) }))

names_plain : (m : Module) → map (name_at m.declarations) (columns_from 0 (ports_of m)) ≡ result_names m
names_plain m = columns_are (name_at m.declarations) (λ (d : Declaration). d.name) 0 (ports_of m)
    (λ n d e. let same : 0 + n ≡ n = omega arith in rw same (name_there m.declarations n d (get_take m.ports m.declarations n d e)))

pub probe_plain : (m : Module) (schema : Schema) (kinds : List Kind) (beats : Beats) (shows : Shows) (w : ResultLines) → CanFollow m schema kinds beats → AreShows m shows → length kinds ≤ 32 → AllByRecursion IsKind kinds → AreFirst kinds shows w → IsProbe m (plain_names m) w.kinds.now w.shows w.row
probe_plain m schema kinds beats shows w can are many kinds' first =
    subst (λ (x : List Kind). IsProbe m (plain_names m) x w.shows w.row) (sym first.kinds') (
    subst (λ (x : Shows). IsProbe m (plain_names m) kinds x w.row) (sym first.shows') (record {
      valid' = are.valid';
      end' = are.end';
      group' = are.group';
      valid_line = valid_line m schema can.fits;
      end_line = end_line m schema can.fits;
      group_line = group_line m schema can.fits;
      columns' = subst (AllByRecursion (IsPortIn m)) (sym are.columns') (columns_plain m);
      named' = ap (map (name_at m.declarations)) are.columns' ∙ names_plain m;
      wide' = ap (map (width_at m.declarations)) are.columns' ∙ columns_widths m ∙ can.widths;
      row' = first.row';
      many = many;
      kinds' = kinds';
    }))
