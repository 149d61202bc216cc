-- A module that is handed in can be followed, and its columns printed in decimal.
use Rattle.std.proofs.Common.{◌≡◌, ℕ, zero, suc, ◌≤◌, Bool, true, false, List, [], ◌∷◌, length, map, take, refl, ap, ◌∙◌}
use Rattle.std.specs.Prelude.{filter, if◌then◌else◌}
use Rattle.std.specs.List.{AllByRecursion}
use Rattle.gl_bits.proofs.AllLists.{length_map}
use Rattle.gl_values.specs.declared.kind.Kind.{Kind}
use Rattle.gl_values.specs.declared.kind.Kind.TheVariants.{Unsigned}
use Rattle.gl_values.specs.Kinds.{IsKind, width_of}
use Rattle.gl_schema.specs.declared.schema.Schema.{Schema}
use Rattle.gl_schema.specs.Beats.{Beats, AreBeats}
use Rattle.gl_verilog.specs.Module.{Module, Declaration}
use Rattle.gl_verilog.specs.Valid.{IsValid}
use Rattle.gl_verilog.specs.Widths.{HasSize}
use Rattle.gl_runner.specs.Cycles.{CanFollow}
use Rattle.gl_runner.specs.Traces.{decimal_kinds}
use Rattle.gl_verilog_ports.specs.Profile.{FitsSchema, HasInputPorts, result_ports, result_widths, shows_column}

-- the kinds of the columns among these ports
abbrev pub decimals_of : List Declaration → List Kind
decimals_of ds = map Unsigned (map (λ (d : Declaration). d.width) (filter shows_column ds))

abbrev AllNarrow : List Declaration → Type 0
AllNarrow ds = AllByRecursion (λ width. width ≤ 64) (map (λ (d : Declaration). d.width) ds)

-- each of them is a kind: a valid module's widths are at least 1
sizes_kinds : (p : ℕ) (ds : List Declaration) → AllByRecursion HasSize ds → AllNarrow (filter shows_column (take p ds)) → AllByRecursion IsKind (decimals_of (take p ds))
sizes_kinds zero ds h n = tt
sizes_kinds (suc p) [] h n = tt
sizes_kinds (suc p) (d ∷ ds) h n = pick (shows_column d) (sizes_kinds p ds h.1) n
  where
    pick : (b : Bool) → (AllNarrow (filter shows_column (take p ds)) → AllByRecursion IsKind (decimals_of (take p ds))) → AllNarrow (if b then d ∷ filter shows_column (take p ds) else filter shows_column (take p ds))
        → AllByRecursion IsKind (map Unsigned (map (λ (x : Declaration). x.width) (if b then d ∷ filter shows_column (take p ds) else filter shows_column (take p ds))))
    pick true later n = ((h.0.0.some', n.0), later n.1)
    pick false later n = later n

pub decimals_are_kinds : (m : Module) (schema : Schema) → IsValid m → FitsSchema m schema → AllByRecursion IsKind (decimal_kinds m)
decimals_are_kinds m schema valid f = sizes_kinds m.ports m.declarations valid.sizes f.narrow

pub decimals_many : (m : Module) (schema : Schema) → FitsSchema m schema → length (decimal_kinds m) ≤ 32
decimals_many m schema f =
    let size : length (decimal_kinds m) ≡ length (result_ports m) = length_map Unsigned (result_widths m) ∙ length_map (λ (d : Declaration). d.width) (result_ports m) in
    rw size f.many

decimal_widths : (widths : List ℕ) → widths ≡ map width_of (map Unsigned widths)
decimal_widths [] = refl
decimal_widths (w ∷ ws) = ap (λ (all : List ℕ). w ∷ all) (decimal_widths ws)

pub can_trace : (m : Module) (schema : Schema) (beats : Beats) → IsValid m → HasInputPorts m → FitsSchema m schema → AreBeats schema beats → CanFollow m schema (decimal_kinds m) beats
can_trace m schema beats valid inputs f are = record { valid = valid; inputs = inputs; fits = f; widths = decimal_widths (result_widths m); beats' = are }
