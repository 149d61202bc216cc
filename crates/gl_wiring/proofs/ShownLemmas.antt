-- What the ports of a result show of an output that is right.
use Rattle.std.proofs.Common.{◌≡◌, ℕ, zero, suc, ◌+◌, List, [], ◌∷◌, ◌++◌, Option, None, refl, sym, ap, subst, ◌∙◌, arith}
use Rattle.std.specs.Prelude.{map, option_to_list, nat_eq}
use Rattle.std.specs.List.{cons_option}
use Rattle.std.proofs.lemmas.List.Elements.{filter_map-append}
use Rattle.gl_algebra.specs.Results.{IsPlanResult}
use Rattle.gl_algebra.specs.declared.figures.Figures.{Figures}
use Rattle.gl_algebra.specs.declared.node.PlanNode.{PlanNode}
use Rattle.gl_values.specs.Results.{Row}
use Rattle.gl_net.specs.Net.{Net, Run}
use Rattle.gl_net.specs.PortValues.{port_values}
use Rattle.gl_net.specs.declared.node.Bit.{Bit}
use Rattle.gl_net.specs.declared.node.Bus.{Bus}
use Rattle.gl_net.specs.declared.node.Direction.TheVariants.{Out}
use Rattle.gl_schema.specs.Beats.{Beats, inputs_of, last_cycle}
use Rattle.gl_schema.specs.Ports.{PortValues, out_valid, out_column, out_eos, fault_group, fault_queue}
use Rattle.gl_schema.specs.Right.{IsRight}
use Rattle.gl_schema.specs.Seen.{Shown, rows_of, seen, shown, value_at}
use Rattle.gl_wire.specs.Wire as wire
use Rattle.gl_wire.specs.Wire.{Carried, carried, line_at, rows}
use Rattle.gl_wire.specs.declared.wire.Wire.{Wire}
use Rattle.gl_wire.proofs.RowsLemmas.{rows-split}
use Rattle.gl_wire.proofs.StageLemmas.{tuple_by}
use Rattle.gl_wiring.specs.Naming.{Naming, seen_as}
use Rattle.gl_wiring.specs.Output.{AreShown, Shows}
use Rattle.gl_wiring.specs.Root.{ShowsRight}
use Rattle.gl_wiring.specs.Wired.{KeepsGroup, plan_inputs, plan_means}
use Rattle.gl_wiring.proofs.BeatLemmas.{cons_is}
use Rattle.gl_wiring.proofs.Outputs.{AreApart, port_at}

columns_shown : (naming : Naming) (net : Net) (run : Run) (t : ℕ) (names : List (List ℕ)) (bs : List Bus) → AreApart net → AreShown naming net names bs
    → map (value_at (seen_as naming (port_values net run)) t) (map out_column names) ≡ map (λ (b : Bus). run.at t b.node) bs
columns_shown naming net run t [] [] apart h = refl
columns_shown naming net run t [] (b ∷ bs) apart h = absurd h
columns_shown naming net run t (n ∷ names) [] apart h = absurd h
columns_shown naming net run t (n ∷ names) (b ∷ bs) apart h =
    rw (port_at net run t Out (naming (out_column n)) b.node apart h.0, columns_shown naming net run t names bs apart h.1) refl

module _ (naming : Naming) (net : Net) (run : Run) (names : List (List ℕ)) (w : Wire) (group queue : Bit) (apart : AreApart net)
    (shows : Shows naming net names w group queue) where
  abbrev port : PortValues
  port = seen_as naming (port_values net run)

  abbrev outs : List (List ℕ)
  outs = map out_column names

  row_is : (n : ℕ) → (shown port outs n).row ≡ (carried run w).tuple (suc n)
  unfolding shown wire.row_at line_at
  row_is n =
      rw (port_at net run (suc n) Out (naming out_valid) w.valid.node apart shows.valid, columns_shown naming net run (suc n) names w.columns apart shows.columns)
      (sym (tuple_by run w.valid w.columns (suc n)))

  end_is : (n : ℕ) → (shown port outs n).end ≡ line_at run w.eos (suc n)
  unfolding shown line_at
  end_is n = ap (λ (v : ℕ). nat_eq v 1) (port_at net run (suc n) Out (naming out_eos) w.eos.node apart shows.end)

  group_is : (n : ℕ) → (shown port outs n).group ≡ line_at run group (suc n)
  unfolding shown line_at
  group_is n = ap (λ (v : ℕ). nat_eq v 1) (port_at net run (suc n) Out (naming fault_group) group.node apart shows.group')

  queue_is : (n : ℕ) → (shown port outs n).queue ≡ line_at run queue (suc n)
  unfolding shown line_at
  queue_is n = ap (λ (v : ℕ). nat_eq v 1) (port_at net run (suc n) Out (naming fault_queue) queue.node apart shows.queue')

  seen_rows : (n : ℕ) → rows_of (seen port outs n) ≡ rows (carried run w) 1 (suc n)
  seen_rows zero = cons_is (shown port outs 0).row [] ∙ ap (λ (x : Option Row). option_to_list x ++ []) (row_is 0)
  seen_rows (suc n) =
      let s = shown port outs (suc n) in
      let a : Carried = carried run w in
      let m : suc (suc n) ≡ suc n + 1 = omega arith in
      let k : 1 + suc n ≡ suc (suc n) = omega arith in
      filter_map-append (λ (x : Shown). x.row) (seen port outs n) (s ∷ [])
      ∙ ap (λ (x : List Row). x ++ cons_option s.row []) (seen_rows n)
      ∙ ap (λ (x : List Row). rows a 1 (suc n) ++ x) (cons_is s.row [] ∙ ap (λ (x : Option Row). option_to_list x ++ []) (row_is (suc n)))
      ∙ ap (λ (i : ℕ). rows a 1 (suc n) ++ rows a i 1) (sym k)
      ∙ sym (ap (rows a 1) m ∙ rows-split a (suc n) 1 1)

  module _ (f : Figures) (nodes : List PlanNode) (root : ℕ) (beats : Beats) (first : (carried run w).tuple 0 ≡ None)
      (s : ShowsRight f (IsPlanResult nodes root (plan_inputs (inputs_of beats))) (suc (last_cycle beats))
      (carried run w) (line_at run group) (line_at run queue)) where
    -- what the ports show of a right output is right
    pub shown_right : IsRight (plan_means nodes root) (f.le + 1) beats outs port
    shown_right = record {
      ended = s.ended;
      soonest = omega (arith, s.soonest);
      in_time = omega (arith, s.in_time);
      ends = end_is s.ended ∙ s.ends;
      once = λ n e. let z = s.once (suc n) (sym (end_is n) ∙ e) in omega (arith, z);
      none_later = λ n l. row_is n ∙ s.none_later (suc n) (omega (arith, l));
      no_overflow = λ n. queue_is n ∙ s.no_overflow (suc n);
      meets = subst (λ (xs : List Row). IsPlanResult nodes root (plan_inputs (inputs_of beats)) xs (shown port outs s.ended).group)
          (ap (λ (x : Option Row). option_to_list x ++ rows (carried run w) 1 (suc s.ended)) first ∙ sym (seen_rows s.ended))
          (subst (IsPlanResult nodes root (plan_inputs (inputs_of beats)) (rows (carried run w) 0 (suc (suc s.ended)))) (sym (group_is s.ended)) s.meets);
    }

    pub shown_group : KeepsGroup outs port
    shown_group = record {
      lasts = λ n h. group_is (suc n) ∙ s.lasts (suc n) (sym (group_is n) ∙ h);
      stays = λ e n h l.
          let z = s.once (suc e) (sym (end_is e) ∙ h) in
          let x : line_at run group (suc e) ≡ line_at run group (suc s.ended) = ap (line_at run group) z in
          group_is n ∙ s.stays (suc n) (omega (arith, z, l)) ∙ sym x ∙ sym (group_is e);
    }
