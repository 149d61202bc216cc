-- Values that fit widths fit the ports that have them.
use Rattle.std.proofs.Common.{◌≡◌, ℕ, ◌<◌, ◌^◌, List, [], ◌∷◌, map, subst, zero, suc, refl}
use Rattle.std.specs.List.{AllZip}
use Rattle.std.specs.Prelude.{slice_get}
use Rattle.std.specs.Option.{option_map_or}
use Rattle.gl_verilog.specs.View.{declaration_of}
use Rattle.gl_verilog.specs.declared.module.Declaration.{Declaration}
use Rattle.gl_verilog.specs.Module.{Module}
use Rattle.gl_verilog.specs.Widths.{width_at}
use Rattle.gl_verilog.specs.Runnable.{FitInputs, inputs_of}

all_zip_map : (R : ℕ → ℕ → Type 0) (f : ℕ → ℕ) (ns values : List ℕ) → AllZip R (map f ns) values → AllZip (λ n x. R (f n) x) ns values
all_zip_map R f [] [] h = tt
all_zip_map R f [] (x ∷ xs) h = h
all_zip_map R f (n ∷ ns) [] h = h
all_zip_map R f (n ∷ ns) (x ∷ xs) h = (h.0, all_zip_map R f ns xs h.1)

pub fit_inputs : (m : Module) (widths values : List ℕ) → widths ≡ map (width_at m.declarations) (inputs_of m) → AllZip (λ width value. value < 2 ^ width) widths values → FitInputs m values
fit_inputs m widths values is h = all_zip_map (λ width value. value < 2 ^ width) (width_at m.declarations) (inputs_of m) values (subst (λ w. AllZip (λ width value. value < 2 ^ width) w values) is h)

pub width_is : (ds : List Declaration) (n : ℕ) → width_at (map declaration_of ds) n ≡ option_map_or (λ d. d.width) (slice_get ds n) 0
width_is [] zero = refl
width_is [] (suc n) = refl
width_is (d ∷ ds) zero = refl
width_is (d ∷ ds) (suc n) = width_is ds n
