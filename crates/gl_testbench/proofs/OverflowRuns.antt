-- What an overflow line says in each cycle, where the text is right. A run in which it is 1 has the same line over the beats that are cut
-- behind the cycle. Those end, so the line is 1 at their end, and their rows are a result that spills.
use Rattle.std.proofs.Common.{◌≡◌, ℕ, zero, suc, ◌+◌, ◌-◌, ◌≤◌, inl, inr, Bool, true, false, List, Option, Some, None, refl, sym, ap, ◌∙◌, subst, arith, codes}
use Rattle.std.specs.Prelude.{IsTrue, bytes_eq}
use Rattle.std.specs.Option.{option_map}
use Rattle.std.proofs.lemmas.Bool.{cases_lt}
use Rattle.gl_bits.proofs.Bools.{bytes_same}
use Rattle.gl_gaps.specs.declared.Gaps.{Gaps}
use Rattle.gl_schema.specs.declared.schema.Schema.{Schema}
use Rattle.gl_schema.specs.Beats.{Beat, Beats, Inputs, AreBeats, beat_at, inputs_of}
use Rattle.gl_schema.specs.Ports.{PortValues, IsStimulus}
use Rattle.gl_schema.specs.Seen.{Shown, shown, seen, rows_of}
use Rattle.gl_schema.specs.Right.{Meaning, IsRight}
use Rattle.gl_net.specs.Net.{Net}
use Rattle.gl_verilog.specs.Module.{Module, Nets, number_of}
use Rattle.gl_verilog.specs.Run.{port_of, input_values}
use Rattle.gl_verilog.specs.Runnable.{IsRunnable, RunsAreCausal, SameInputs, SameNets, is_input}
use Rattle.gl_verilog.specs.Text.{HasModule}
use Rattle.gl_verilog.specs.Valid.{IsValid}
use Rattle.gl_verilog.specs.Laws.{EventRunsAreRuns}
use Rattle.gl_verilog_ports.specs.Profile.{HasInputPorts, ports_of}
use Rattle.gl_verilog_ports.proofs.Declared.{get_take}
use Rattle.gl_sim.proofs.Settling.{IsInputPort}
use Rattle.gl_testbench.specs.declared.pins.Pin.{Pin as Carried}
use Rattle.gl_testbench.specs.Carried.{at_reset, pin_at, with_beat}
use Rattle.gl_testbench.specs.Runs.{RunsOver}
use Rattle.gl_testbench.proofs.Inputs.{carried_at, port_carries}
use Rattle.gl_testbench.specs.Driven.{Drives, OverRuns}
use Rattle.gl_testbench.specs.Emission.{IsEmission, IsPastClock}
use Rattle.gl_testbench.specs.Overflow.{HasSpill, TellsGroup, beats_to}
use Rattle.gl_testbench.proofs.Emissions.{inputs_are_asked, ports_are_nets}
use Rattle.gl_testbench.proofs.Found.{found}
use Rattle.gl_testbench.proofs.OverflowBeats.{IsCut, cut_of, is_cut}
use Rattle.gl_testbench.proofs.Showing.{NoClock, SameAt, shown_same}

-- the laws of runs and of ports that this stands on
pub record RunLaws : Type 0 where
  pub event_runs_are_runs : (m : Module) → IsValid m → EventRunsAreRuns m
  pub inputs_are_ports : (text : List ℕ) (m : Module) → HasModule text m → HasInputPorts m
  pub runs_are_causal : (m : Module) → IsRunnable m → RunsAreCausal m
  pub valid_modules_run : (m : Module) → IsValid m → IsRunnable m

-- the line never falls, and from the end on it keeps its value
pub record KeepsLine (outs : List (List ℕ)) (port : PortValues) : Type 0 where
  pub lasts : (n : ℕ) → IsTrue (shown port outs n).group → IsTrue (shown port outs (suc n)).group
  pub stays : (e n : ℕ) → IsTrue (shown port outs e).end → e ≤ n → (shown port outs n).group ≡ (shown port outs e).group

-- ---- a line that is 1 in a cycle is 1 at the end

module _ (outs : List (List ℕ)) (port : PortValues) (keeps : KeepsLine outs port) (c : ℕ) (h : IsTrue (shown port outs c).group) where
  line_lasts : (k : ℕ) → IsTrue (shown port outs (k + c)).group
  line_lasts zero = subst (λ n. IsTrue (shown port outs n).group) (let z : c ≡ 0 + c = omega arith in z) h
  line_lasts (suc k) = subst (λ n. IsTrue (shown port outs n).group) (let z : suc (k + c) ≡ suc k + c = omega arith in z) (keeps.lasts (k + c) (line_lasts k))

  pub line_at_end : (e : ℕ) → IsTrue (shown port outs e).end → IsTrue (shown port outs e).group
  line_at_end e end = elim (cases_lt e c) [
    | inl lt ↦ sym (keeps.stays e c end (omega (arith, lt))) ∙ h
    | inr le ↦ subst (λ n. IsTrue (shown port outs n).group) (let z : e - c + c ≡ e = omega (arith, le) in z) (line_lasts (e - c))
  ]

-- so it does where the ports carry the same, the clock aside
pub keeps_past : (outs : List (List ℕ)) → NoClock outs → IsPastClock (λ beats port. KeepsLine outs port)
keeps_past outs none = λ beats port port' carry keeps.
    let same : (n : ℕ) → shown port outs n ≡ shown port' outs n = λ n. shown_same port port' outs n (carry (suc n)) none in
    record {
      lasts = λ n h. subst (λ (s : Shown). IsTrue s.group) (same (suc n)) (keeps.lasts n (subst (λ (s : Shown). IsTrue s.group) (sym (same n)) h));
      stays = λ e n h l.
          ap (λ (s : Shown). s.group) (sym (same n)) ∙ keeps.stays e n (subst (λ (s : Shown). IsTrue s.end) (sym (same e)) h) l ∙ ap (λ (s : Shown). s.group) (same e);
    }

-- ---- two runs over beats that are the same up to a cycle

carried_same : (beats beats' : Beats) (c : ℕ) → beats'.sets ≡ beats.sets → ((n : ℕ) → n ≤ c → beat_at beats'.list n ≡ beat_at beats.list n) → (t : ℕ) → t ≤ suc c → (p : Carried) → carried_at beats' t p ≡ carried_at beats t p
carried_same beats beats' c held same zero le p = ap (λ (sets : List ℕ). at_reset sets p) held
carried_same beats beats' c held same (suc n) le p =
    ap (λ (o : Option Beat). with_beat beats'.sets o p) (same n (omega (arith, le))) ∙ ap (λ (sets : List ℕ). with_beat sets (beat_at beats.list n) p) held

module _ (laws : RunLaws) (net : Net) (schema : Schema) (text : List ℕ) (e : IsEmission net schema text) where
  abbrev m : Module
  m = e.design

  inputs_same : (beats beats' : Beats) (value value' : ℕ → Nets) (c : ℕ) → AreBeats schema beats → AreBeats schema beats' → IsStimulus schema beats (input_values m value) → IsStimulus schema beats' (input_values m value')
      → beats'.sets ≡ beats.sets → ((n : ℕ) → n ≤ c → beat_at beats'.list n ≡ beat_at beats.list n) → (t : ℕ) → t ≤ suc c → SameInputs m.declarations (value t) (value' t)
  inputs_same beats beats' value value' c are are' stimulus stimulus' held same t le = λ n d there kind clock.
      let port : IsInputPort m.declarations n = record { declaration = d; is = there; input = ap is_input kind; no_clock = clock } in
      port_carries laws.inputs_are_ports text schema m beats value t e.has (inputs_are_asked net schema text e) are stimulus n port
      ∙ sym (carried_same beats beats' c held same t le (pin_at schema m.declarations n))
      ∙ sym (port_carries laws.inputs_are_ports text schema m beats' value' t e.has (inputs_are_asked net schema text e) are' stimulus' n port)

  -- where the nets are the same, the ports carry the same
  nets_carry : (value value' : ℕ → Nets) (t : ℕ) → SameNets m.declarations (value t) (value' t) → SameAt t (port_of m value) (port_of m value')
  nets_carry value value' t same name other = pick (number_of (ports_of m) name) refl
    where
      pick : (o : Option ℕ) → number_of (ports_of m) name ≡ o → option_map (value t) o ≡ option_map (value' t) o
      pick None q = refl
      pick (Some n) q =
          let f = found (ports_of m) name n q in
          let named : f.d.name ≡ name = bytes_same f.d.name name f.named in
          let no_clock : bytes_eq f.d.name (codes "clk") ≡ false = subst (λ (x : List ℕ). bytes_eq x (codes "clk") ≡ false) (sym named) other in
          ap (λ (v : ℕ). Some v) (same n f.d (get_take m.ports m.declarations n f.d f.there) (ports_are_nets net schema text e n f.d f.there, no_clock))

  -- ---- the line, as it is seen through a view of the ports

  module _ (view : PortValues → PortValues) (steady : (t : ℕ) (port port' : PortValues) → SameAt t port port' → SameAt t (view port) (view port'))
      (outs : List (List ℕ)) (none : NoClock outs) (means : Meaning) (latency : ℕ) (gaps : Gaps)
      (right : OverRuns m schema gaps (λ beats port. IsRight means latency beats outs (view port)))
      (keeps : OverRuns m schema gaps (λ beats port. KeepsLine outs (view port))) where
    spilled : (c : ℕ) → OverRuns m schema gaps (λ beats port. IsTrue (shown (view port) outs c).group → HasSpill means (inputs_of (beats_to c beats)))
    spilled c = λ beats value word driven h.
        let cut : Beats = cut_of schema gaps c beats in
        let is : IsCut schema gaps c beats cut = is_cut schema gaps c beats driven.are driven.keep in
        let first = laws.event_runs_are_runs m e.has.valid value word driven.run in
        let r : RunsOver m schema cut (value 0) (word 0) = e.runs cut (value 0) (word 0) is.are (first.fits 0) in
        let port : PortValues = view (port_of m r.value) in
        let both = laws.runs_are_causal m (laws.valid_modules_run m e.has.valid) value r.value word r.word first (laws.event_runs_are_runs m e.has.valid r.value r.word r.run) r.starts (suc c)
        (inputs_same beats cut value r.value c driven.are is.are driven.stimulus r.stimulus is.held is.same) (suc c) (omega arith) in
        let same = steady (suc c) (port_of m value) (port_of m r.value) (nets_carry value r.value (suc c) both.0) in
        let here : IsTrue (shown port outs c).group = subst (λ (s : Shown). IsTrue s.group) (shown_same (view (port_of m value)) port outs c same none) h in
        let again : Drives m schema gaps cut r.value r.word = record { are = is.are; keep = is.keeps; run = r.run; stimulus = r.stimulus } in
        let w : IsRight means latency cut outs port = right cut r.value r.word again in
        let spill : IsTrue (shown port outs w.ended).group = line_at_end outs port (keeps cut r.value r.word again) c here w.ended w.ends in
        let rows : List (List ℕ) = rows_of (seen port outs w.ended) in
        record {
          rows = rows;
          spills = subst (λ (i : Inputs). means i rows true) is.brings (subst (λ (b : Bool). means (inputs_of cut) rows b) spill w.meets);
        }

    pub tells_group : OverRuns m schema gaps (λ beats port. TellsGroup means beats outs (view port))
    tells_group = λ beats value word driven. record {
      lasts = (keeps beats value word driven).lasts;
      so = λ n. spilled n beats value word driven;
    }
