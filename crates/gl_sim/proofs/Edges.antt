-- What an edge leaves: registers and words that fit.
use Rattle.std.proofs.Common.{◌≡◌, ℕ, ◌^◌, ◌<◌, ◌≤◌, List, [], ◌∷◌, Option, None, map, refl, sym, ◌∙◌, ap, subst, arith, length, unwrap_or, slice_index}
use Rattle.std.specs.Prelude.{slice_get, slice_index_or}
use Rattle.std.specs.List.{AllByRecursion}
use Rattle.gl_bits.proofs.AllLists.{get_below, all_at}
use Rattle.gl_verilog.specs.Module as spec
use Rattle.gl_verilog.specs.Module.{Declaration, Nets, Memories, Nothing, Put, Write, Both, If, value_of, later_or, assigned, written, assigned_by, written_by}
use Rattle.gl_verilog.specs.Run.{IsRegister}
use Rattle.gl_verilog.specs.declared.module.Statement.{Statement}
use Rattle.gl_verilog.specs.View.{statement_of, chained}
use Rattle.gl_verilog.specs.Widths.{HasSize, IsMemory, width_of, KeepsWidthsIn}
use Rattle.gl_verilog.specs.Evaluate.{IsStore, nets_of, memories_of}
use Rattle.gl_verilog.proofs.Fits.{found_in, value_fits, can_evaluate, memory_words, pow_within}
use Rattle.gl_verilog.proofs.Edges.{unwrap_fits, assigned_fits, written_fits, later_or-none}
use Rattle.gl_sim.specs.declared.update.Update.{Update}
use Rattle.gl_sim.specs.Updates.{CanExecute, put_of}

-- ---- the blocks of a module are the chain of their statements

pub keeps_chain : (ds : List Declaration) (ss : List Statement) → AllByRecursion (KeepsWidthsIn ds) (map statement_of ss) → KeepsWidthsIn ds (chained ss)
keeps_chain ds [] h = tt
keeps_chain ds (s ∷ ss) h = (h.0, keeps_chain ds ss h.1)

pub assigned_chain : (v : Nets) (m : Memories) (ss : List Statement) (r : ℕ) → assigned v m (chained ss) r ≡ assigned_by v m (map statement_of ss) r
assigned_chain v m [] r = refl
assigned_chain v m (s ∷ ss) r = ap (λ (o : Option ℕ). later_or o (assigned v m (statement_of s) r)) (assigned_chain v m ss r)

pub written_chain : (v : Nets) (m : Memories) (ss : List Statement) (k at : ℕ) → written v m (chained ss) k at ≡ written_by v m (map statement_of ss) k at
written_chain v m [] k at = refl
written_chain v m (s ∷ ss) k at = ap (λ (o : Option ℕ). later_or o (written v m (statement_of s) k at)) (written_chain v m ss k at)

-- ---- where statements can be executed

pub can_execute : (ds : List Declaration) (vs : List ℕ) (bs : List (List ℕ)) (s : spec.Statement) → AllByRecursion HasSize ds → IsStore ds vs bs → KeepsWidthsIn ds s → CanExecute vs bs s
can_execute ds vs bs Nothing z st h = tt
can_execute ds vs bs (Put register value) z st h =
    let d = found_in (slice_get ds register) (λ d. IsRegister d.kind × (width_of ds value ≡ d.width)) h.0 in
    let lt : register < length ds = get_below ds register d.item d.is in
    (omega (arith, st.nets), can_evaluate ds vs bs value z st h.1)
can_execute ds vs bs (Write memory address value) z st h =
    let d = found_in (slice_get ds memory) (λ d. IsMemory d.kind (width_of ds address) × (width_of ds value ≡ d.width)) h.0 in
    let lt : memory < length ds = get_below ds memory d.item d.is in
    let size : length (slice_index_or bs memory []) ≡ 2 ^ width_of ds address = st.words memory d.item d.is ∙ memory_words d.item.kind (width_of ds address) d.fact.0 in
    let bits = (all_at HasSize ds memory d.item d.is z).1 (width_of ds address) d.fact.0 in
    let at : value_of (nets_of vs) (memories_of bs) address < 2 ^ width_of ds address = value_fits ds (nets_of vs) (memories_of bs) address st.fits h.1 in
    let small : 2 ^ width_of ds address ≤ 2 ^ 64 = pow_within (width_of ds address) 64 (omega (arith, bits.1)) in
    (omega (arith, st.memories), omega arith, omega arith, can_evaluate ds vs bs address z st h.1, can_evaluate ds vs bs value z st h.2)
can_execute ds vs bs (Both first second) z st h = (can_execute ds vs bs first z st h.0, can_execute ds vs bs second z st h.1)
can_execute ds vs bs (If test yes' no') z st h = (can_evaluate ds vs bs test z st h.1, can_execute ds vs bs yes' z st h.2, can_execute ds vs bs no' z st h.3)

-- the store behind an edge
pub store_clocked : (ds : List Declaration) (vs vs' : List ℕ) (bs bs' : List (List ℕ)) (s : spec.Statement) → IsStore ds vs bs → KeepsWidthsIn ds s → length vs' ≡ length vs → length bs' ≡ length bs → ((k : ℕ) → length (slice_index_or bs' k []) ≡ length (slice_index_or bs k []))
    → ((r : ℕ) → slice_index vs' r ≡ unwrap_or (assigned (nets_of vs) (memories_of bs) s r) (slice_index vs r)) → ((k at : ℕ) → memories_of bs' k at ≡ unwrap_or (written (nets_of vs) (memories_of bs) s k at) (memories_of bs k at)) → IsStore ds vs' bs'
store_clocked ds vs vs' bs bs' s st h size banks sizes registers words = record {
  nets = size ∙ st.nets;
  memories = banks ∙ st.memories;
  words = λ k d e. sizes k ∙ st.words k d e;
  fits = λ n d e. (
    subst (λ x. x < 2 ^ d.width) (sym (registers n)) (unwrap_fits d.width (assigned (nets_of vs) (memories_of bs) s n) (slice_index vs n) (assigned_fits ds (nets_of vs) (memories_of bs) s n d st.fits h e) (st.fits n d e).0),
    λ at. subst (λ x. x < 2 ^ d.width) (sym (words n at)) (unwrap_fits d.width (written (nets_of vs) (memories_of bs) s n at) (memories_of bs n at) (written_fits ds (nets_of vs) (memories_of bs) s n at d st.fits h e) ((st.fits n d e).1 at)),
  );
}

-- what an edge makes of values and banks
pub record AfterEdge (ds : List Declaration) (blocks : List spec.Statement) (vs vs' : List ℕ) (bs bs' : List (List ℕ)) : Type 0 where
  pub store : IsStore ds vs' bs'
  pub registers : (r : ℕ) → slice_index vs' r ≡ unwrap_or (assigned_by (nets_of vs) (memories_of bs) blocks r) (slice_index vs r)
  pub words : (k at : ℕ) → memories_of bs' k at ≡ unwrap_or (written_by (nets_of vs) (memories_of bs) blocks k at) (memories_of bs k at)

pub after_edge : (ds : List Declaration) (ss : List Statement) (vs vs' : List ℕ) (bs bs' : List (List ℕ)) (us : List Update) → IsStore ds vs bs → AllByRecursion (KeepsWidthsIn ds) (map statement_of ss) → length vs' ≡ length vs
    → ((r : ℕ) → slice_index vs' r ≡ unwrap_or (assigned (nets_of vs) (memories_of bs) (chained ss) r) (slice_index vs r))
    → ((k at : ℕ) → put_of us k at ≡ later_or (written (nets_of vs) (memories_of bs) (chained ss) k at) None)
    → length bs' ≡ length bs → ((k : ℕ) → length (slice_index_or bs' k []) ≡ length (slice_index_or bs k []))
    → ((k at : ℕ) → memories_of bs' k at ≡ unwrap_or (put_of us k at) (memories_of bs k at))
    → AfterEdge ds (map statement_of ss) vs vs' bs bs'
after_edge ds ss vs vs' bs bs' us st h size registers noted banks sizes put =
    let words : (k at : ℕ) → memories_of bs' k at ≡ unwrap_or (written (nets_of vs) (memories_of bs) (chained ss) k at) (memories_of bs k at) =
    λ k at. put k at ∙ ap (λ (o : Option ℕ). unwrap_or o (memories_of bs k at)) (noted k at ∙ later_or-none (written (nets_of vs) (memories_of bs) (chained ss) k at)) in
    record {
      store = store_clocked ds vs vs' bs bs' (chained ss) st (keeps_chain ds ss h) size banks sizes registers words;
      registers = λ r. registers r ∙ ap (λ (o : Option ℕ). unwrap_or o (slice_index vs r)) (assigned_chain (nets_of vs) (memories_of bs) ss r);
      words = λ k at. words k at ∙ ap (λ (o : Option ℕ). unwrap_or o (memories_of bs k at)) (written_chain (nets_of vs) (memories_of bs) ss k at);
    }
