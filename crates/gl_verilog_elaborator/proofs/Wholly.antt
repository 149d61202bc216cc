-- What is elaborated of a whole module is the valid one that is meant, or the first rule that is broken.
use Rattle.std.proofs.Common.{◌≡◌, ℕ, inl, inr, Bool, true, false, List, [], ◌∷◌, ◌++◌, length, Option, Some, None, Result, Ok, Err, refl, sym, ap, subst, ◌∙◌}
use Rattle.std.specs.Prelude.{slice_get, option_map, MatchResult, if◌then◌else◌}
use Rattle.gl_verilog.specs.Module.{Module}
use Rattle.gl_verilog.specs.Written.{WrittenModule, IsWritten}
use Rattle.gl_verilog.specs.Valid.{IsValid}
use Rattle.gl_verilog_faults.specs.Demands.{Rule, Loop, Demand, ask, AreMet, IsFirst, demands_of}
use Rattle.gl_verilog_faults.specs.Faults.{IsBroken}
use Rattle.gl_verilog_faults.proofs.Law.{demands_valid}
use Rattle.std.specs.Result.{IsErrAnd}
use Rattle.gl_verilog.specs.View.{module_of}
use Rattle.gl_verilog.specs.declared.module.Module as code
use Rattle.gl_verilog_elaborator.specs.declared.stop.Stop.{Stop}
use Rattle.gl_verilog_elaborator.specs.View.{is_broken, broken_of}
use Rattle.gl_verilog_elaborator.specs.Judged.{Broken}
use Rattle.gl_verilog_elaborator.specs.Elaborated.{Elaborated, elaborated, module_with}
use Rattle.gl_verilog_loops.specs.Looping.{IsFree, IsFirstLooped}
use Rattle.gl_verilog_elaborator.specs.Meant.{IsMeant, IsElaboration, looped_at}
use Rattle.gl_verilog_elaborator.proofs.Demanded.{Is, first_of}
use Rattle.gl_verilog_elaborator.proofs.Whole.{IsElaborated, elaborated_is}

abbrev Parts : List Demand → Rule → ℕ → Type 0
Parts ds rule token = (front : List Demand) × (back : List Demand) × (ds ≡ front ++ ask rule token false ∷ back) × AreMet front

parts_by : (d : Demand) (ds : List Demand) (b : Broken) (m : Bool) → d.met ≡ m → (if m then first_of ds else Some (record { rule = d.rule; token = d.token })) ≡ Some b → (first_of ds ≡ Some b → Parts ds b.rule b.token) → Parts (d ∷ ds) b.rule b.token
parts_by d ds b true e h f = (let p = f h in (d ∷ p.0, p.1, ap (λ (l : List Demand). d ∷ l) p.2, (e, p.3)))
parts_by d ds b false e h f =
    let same : (let x : Broken = record { rule = d.rule; token = d.token } in x) ≡ b = cc in
    ([], ds, subst (λ (x : Broken). d ∷ ds ≡ ask x.rule x.token false ∷ ds) same (ap (λ (m : Bool). ask d.rule d.token m ∷ ds) e), tt)

first_parts : (ds : List Demand) (b : Broken) → first_of ds ≡ Some b → Parts ds b.rule b.token
first_parts [] b h = absurd cc
first_parts (d ∷ ds) b h = parts_by d ds b d.met refl h (first_parts ds b)

broken_by : (w : WrittenModule) (r : Result Elaborated Broken) (b : Broken) → Is (demands_of w) (IsElaborated w) r → r ≡ Err b → IsFirst w b.rule b.token
broken_by w (Ok e) b h q = absurd cc
broken_by w (Err c) b h q = (let same : c ≡ b = cc in first_parts (demands_of w) b (subst (λ (x : Broken). first_of (demands_of w) ≡ Some x) same h))

pub whole_broken : (w : WrittenModule) (b : Broken) → IsWritten w → elaborated w ≡ Err b → IsBroken w b.rule b.token
whole_broken w b g h = inl (broken_by w (elaborated w) b (elaborated_is w g) h)

found_by : (w : WrittenModule) (r : Result Elaborated Broken) (e : Elaborated) → Is (demands_of w) (IsElaborated w) r → r ≡ Ok e → AreMet (demands_of w) × IsElaborated w e
found_by w (Ok x) e h q = (let same : x ≡ e = cc in (h.0, subst (IsElaborated w) same h.1))
found_by w (Err c) e h q = absurd cc

pub whole_found : (w : WrittenModule) (e : Elaborated) → IsWritten w → elaborated w ≡ Ok e → IsFree e.assignments → IsMeant w (module_with w.name (length w.ports) e)
whole_found w e g h free =
    let f = found_by w (elaborated w) e (elaborated_is w g) h in
    let own : Module = module_with w.name (length w.ports) e in
    let v = demands_valid w g f.0 (λ m q. (let same : own ≡ m = (let z : Some own ≡ Some m = sym f.1.resolved ∙ q in cc) in subst (λ (x : Module). IsFree x.assignments) same free)) in
    let same : v.0 ≡ own = (let z : Some v.0 ≡ Some own = sym v.1 ∙ f.1.resolved in cc) in
    record { resolved = f.1.resolved; valid = subst IsValid same v.2 }

pub whole_looped : (w : WrittenModule) (e : Elaborated) (i token : ℕ) → IsWritten w → elaborated w ≡ Ok e → IsFirstLooped e.assignments i → slice_get e.targets i ≡ Some token → IsBroken w Loop token
whole_looped w e i token g h l at =
    let f = found_by w (elaborated w) e (elaborated_is w g) h in
    inr (
      refl,
      record {
        met = f.0;
        meant = module_with w.name (length w.ports) e;
        resolved = f.1.resolved;
        front = l.front;
        looped = l.looped;
        back = l.back;
        parts = l.parts;
        free = l.free;
        loops = l.loops;
        place = ap (λ (ts : List ℕ). slice_get ts (length l.front)) (sym f.1.targets) ∙ ap (slice_get e.targets) l.place ∙ at;
      },
    )

pub whole_looped_by : (w : WrittenModule) (e : Elaborated) (i : ℕ) (b : Broken) → IsWritten w → elaborated w ≡ Ok e → IsFirstLooped e.assignments i → option_map looped_at (slice_get e.targets i) ≡ Some b → IsBroken w b.rule b.token
whole_looped_by w e i b g h l at = by (slice_get e.targets i) refl at
  where
    by : (o : Option ℕ) → slice_get e.targets i ≡ o → option_map looped_at o ≡ Some b → IsBroken w b.rule b.token
    by None f k = absurd cc
    by (Some t) f k = (let same : looped_at t ≡ b = cc in subst (λ (x : Broken). IsBroken w x.rule x.token) same (whole_looped w e i t g h l f))

-- what a refusal by `?` says of the whole
pub refused_whole : (w : WrittenModule) (r : Result code.Module Stop) (x : Stop) → IsErrAnd r (λ y. y ≡ x) → IsWritten w → (is_broken x ≡ true → elaborated w ≡ Err (broken_of x)) → IsElaboration w r
refused_whole w (Ok m) x h g f = absurd h
refused_whole w (Err y) x h g f = λ e. (let same : y ≡ x = h in subst (λ (z : Stop). IsBroken w (broken_of z).rule (broken_of z).token) (sym same) (whole_broken w (broken_of x) g (f (sym (ap is_broken same) ∙ e))))

pub made_whole : (w : WrittenModule) (e : Elaborated) (m : Module) (n : ℕ) → IsWritten w → elaborated w ≡ Ok e → IsFree e.assignments → n ≡ length w.ports → m ≡ module_with w.name n e → IsMeant w m
made_whole w e m n g h free size is = subst (IsMeant w) (sym (is ∙ ap (λ (k : ℕ). module_with w.name k e) size)) (whole_found w e g h free)

-- what is made of what was elaborated, where nothing loops
pub made_result : (w : WrittenModule) (e : Elaborated) (r : Result code.Module Stop) (n : ℕ) → IsWritten w → elaborated w ≡ Ok e → IsFree e.assignments → n ≡ length w.ports
    → MatchResult r (λ m. module_of m ≡ module_with w.name n e) (λ x. is_broken x ≡ false) → IsElaboration w r
made_result w e (Ok m) n g h free size is = made_whole w e (module_of m) n g h free size is
made_result w e (Err x) n g h free size is = λ b. absurd (let bad : true ≡ false = sym b ∙ is in cc)
