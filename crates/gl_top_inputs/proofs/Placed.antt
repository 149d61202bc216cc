-- A misfit of a module that was read stands where the text shows it.
use Rattle.std.proofs.Common.{◌≡◌, ℕ, zero, suc, ◌+◌, ◌<◌, ◌≤◌, Bool, true, false, List, [], ◌∷◌, length, take, map, Option, Some, None, Result, Ok, Err, refl, sym, ap, subst, arith}
use Rattle.std.specs.Prelude.{slice_get, unwrap_or, if◌then◌else◌}
use Rattle.std.specs.List.{AllZip}
use Rattle.gl_bits.proofs.Options.{map_some}
use Rattle.gl_schema.specs.declared.schema.Schema.{Schema}
use Rattle.gl_verilog.specs.Module.{Module, Declaration}
use Rattle.gl_verilog.specs.Resolve.{resolve, resolve_items, module_from, declare_port}
use Rattle.gl_verilog.specs.Tokens.{IsPlaceOf}
use Rattle.gl_verilog.specs.View.{module_of}
use Rattle.gl_verilog.specs.Written.{WrittenPort, WrittenModule, spell_port}
use Rattle.gl_verilog_tokens.specs.declared.fault.VerilogFault.{VerilogFault}
use Rattle.gl_verilog_tokens.specs.declared.fault.VerilogFault.TheVariants.{BadPort}
use Rattle.gl_verilog_reader.specs.declared.source.Source.{Source}
use Rattle.gl_verilog_reader.specs.Sources.{IsSource, port_tokens}
use Rattle.gl_verilog_ports.specs.declared.fitting.Ports.{Ports}
use Rattle.gl_verilog_ports.specs.declared.fitting.Misfit.{Misfit}
use Rattle.gl_verilog_ports.specs.declared.fitting.Misfit.TheVariants.{Port, Lacks}
use Rattle.gl_verilog_ports.specs.Fit.{is_bad, with_port, first_bad, with_needed, found_in, unless_bad, fit_of}
use Rattle.gl_top_inputs.specs.Laws.{TellsPort}
use Rattle.gl_top_inputs.specs.Places.{misfit_place, misfit_at, fit_at, IsPortFault}
use Rattle.gl_verilog_ports.specs.Profile.{ports_of}

-- ---- the number of a bad port is that of a port

bad_inside : (schema : Schema) (n columns : ℕ) (ds : List Declaration) (k : ℕ) → first_bad schema n columns ds ≡ Some k → k < n + length ds
bad_inside schema n columns [] k e = absurd cc
bad_inside schema n columns (d ∷ ds) k e = pick (is_bad schema columns d) e (bad_inside schema (n + 1) (with_port columns d) ds k)
  where
    pick : (b : Bool) → (if b then Some n else first_bad schema (n + 1) (with_port columns d) ds) ≡ Some k → (first_bad schema (n + 1) (with_port columns d) ds ≡ Some k → k < n + 1 + length ds) → k < n + length (d ∷ ds)
    pick true e later = let same : n ≡ k = cc in omega arith
    pick false e later = let below : k < n + 1 + length ds = later e in omega arith

needs_no_port : (c v e reset input_end ticks group queue : Option ℕ) (n : ℕ) → with_needed c v e reset input_end ticks group queue ≡ Err (Port n) → ⊥
needs_no_port None v e reset input_end ticks group queue n h = absurd cc
needs_no_port (Some c) None e reset input_end ticks group queue n h = absurd cc
needs_no_port (Some c) (Some v) None reset input_end ticks group queue n h = absurd cc
needs_no_port (Some c) (Some v) (Some e) reset input_end ticks group queue n h = absurd cc

the_bad : (o : Option ℕ) (found : Result Ports Misfit) (n : ℕ) → (found ≡ Err (Port n) → ⊥) → unless_bad o found ≡ Err (Port n) → o ≡ Some n
the_bad None found n never h = absurd (never h)
the_bad (Some k) found n never h = let same : k ≡ n = cc in ap (λ (x : ℕ). Some x) same

at_most : {T : Type 0} (p : ℕ) (xs : List T) → length (take p xs) ≤ p
at_most zero xs = omega arith
at_most (suc p) [] = omega arith
at_most (suc p) (x ∷ xs) = let h : length (take p xs) ≤ p = at_most p xs in omega arith

misfit_inside : (m : Module) (schema : Schema) (n : ℕ) → fit_of m schema ≡ Err (Port n) → n < m.ports
misfit_inside m schema n e =
    let bad : first_bad schema 0 0 (ports_of m) ≡ Some n = the_bad (first_bad schema 0 0 (ports_of m)) (found_in (ports_of m)) n (needs_no_port _ _ _ _ _ _ _ _ n) e in
    let below : n < 0 + length (ports_of m) = bad_inside schema 0 0 (ports_of m) n bad in
    let most : length (ports_of m) ≤ m.ports = at_most m.ports m.declarations in
    omega arith

-- ---- where it stands

as_many : (w : WrittenModule) (m : Module) → resolve w ≡ Some m → m.ports ≡ length w.ports
as_many w m e =
    let r = map_some (module_from w) (resolve_items (map declare_port w.ports) w.items) m e in
    ap (λ (x : Module). x.ports) r.2

tokens_many : (k : ℕ) (ps : List WrittenPort) → length (port_tokens k ps) ≡ length ps
tokens_many k [] = refl
tokens_many k (p ∷ ps) = ap suc (tokens_many (k + length (spell_port p) + 1) ps)

-- of two lists that go together, what stands here in both
record AreHere {A B : Type 0} (R : A → B → Type 0) (xs : List A) (ys : List B) (n : ℕ) : Type 0 where
  first : A
  second : B
  there : slice_get xs n ≡ Some first
  there' : slice_get ys n ≡ Some second
  related : R first second

zip_at : {A B : Type 0} (R : A → B → Type 0) (xs : List A) (ys : List B) (n : ℕ) → AllZip R xs ys → n < length xs → AreHere R xs ys n
zip_at R [] ys n h below = absurd (omega arith)
zip_at R (x ∷ xs) [] n h below = absurd h
zip_at R (x ∷ xs) (y ∷ ys) zero h below = record { first = x; second = y; there = refl; there' = refl; related = h.0 }
zip_at R (x ∷ xs) (y ∷ ys) (suc n) h below =
    let r = zip_at R xs ys n h.1 (omega arith) in
    record { first = r.first; second = r.second; there = r.there; there' = r.there'; related = r.related }

shown : (text : List ℕ) (s : Source) (schema : Schema) (misfit : Misfit) → IsSource text s → fit_of (module_of s.design) schema ≡ Err misfit → IsPortFault text schema (misfit_place s misfit)
shown text s schema Lacks is e = record {
  written = is.written;
  spelled = is.spelled;
  grammar = is.grammar;
  limits = is.limits;
  design = module_of s.design;
  resolved = is.resolved;
  valid = is.valid;
  misfit = Lacks;
  is = e;
  token = 1;
  shows = refl;
  place = is.name;
}
shown text s schema (Port n) is e =
    let many = as_many is.written (module_of s.design) is.resolved in
    let inside : n < s.design.ports = misfit_inside (module_of s.design) schema n e in
    let tokens = tokens_many 3 is.written.ports in
    let here = zip_at (IsPlaceOf text) (port_tokens 3 is.written.ports) s.ports_at n is.ports (omega arith) in
    let place : unwrap_or (slice_get s.ports_at n) s.name_at ≡ here.second = ap (λ (o : Option ℕ). unwrap_or o s.name_at) here.there' in
    record {
      written = is.written;
      spelled = is.spelled;
      grammar = is.grammar;
      limits = is.limits;
      design = module_of s.design;
      resolved = is.resolved;
      valid = is.valid;
      misfit = Port n;
      is = e;
      token = here.first;
      shows = here.there;
      place = subst (IsPlaceOf text here.first) (sym place) here.related;
    }

pub told : (text : List ℕ) (source : Source) (schema : Schema) (e : VerilogFault) → IsSource text source → fit_at source schema ≡ Err e → TellsPort text schema e
told text s schema e is h = pick (fit_of (module_of s.design) schema) refl h
  where
    pick : (r : Result Ports Misfit) → fit_of (module_of s.design) schema ≡ r → misfit_at s r ≡ Err e → TellsPort text schema e
    pick (Ok ports) of h = absurd cc
    pick (Err misfit) of h =
        let same : BadPort (misfit_place s misfit) ≡ e = cc in
        subst (TellsPort text schema) same (shown text s schema misfit is of)
