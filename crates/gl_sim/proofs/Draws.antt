-- The numbers drawn, one after another.
use Rattle.std.proofs.Common.{◌≡◌, ℕ, zero, suc, ◌+◌, ◌*◌, ◌%◌, ◌^◌, ◌<◌, ◌≤◌, List, [], ◌∷◌, Some, map, replicate, get_or, refl, sym, ◌∙◌, ap, subst, arith, length, length-set, inl, inr, ◌⊎◌}
use Rattle.std.specs.Prelude.{slice_get, slice_index, slice_index_or, slice_set}
use Rattle.std.proofs.lemmas.Nat.{mod_below, pow_pos}
use Rattle.std.proofs.lemmas.List.Sums.{sum_by_more}
use Rattle.std.proofs.lemmas.Bool.{cases_eq, cases_lt}
use Rattle.std.proofs.lemmas.List.{get_or-set_same, get_or-set_other}
use Rattle.gl_bits.proofs.AllLists.{get_mapped, get_below}
use Rattle.gl_verilog.specs.Module.{Kind, Input, OutputWire, OutputRegister, Wire, Register, Memory, Declaration, Nets, Memories}
use Rattle.gl_verilog.specs.declared.module.Declaration.{Declaration as Rust}
use Rattle.gl_verilog.specs.View.{declaration_of}
use Rattle.gl_sim.proofs.Settling.{slice_get-at}
use Rattle.gl_verilog.specs.Run.{IsRegister}
use Rattle.gl_verilog.specs.Widths.{words_in, width_at}
use Rattle.gl_verilog.specs.Evaluate.{IsStore, nets_of, memories_of}
use Rattle.gl_verilog.specs.Runnable.{SameState}
use Rattle.gl_verilog.proofs.Fits.{width_at-found}
use Rattle.gl_verilog.proofs.Stores.{same_item, store_put}
use Rattle.gl_sim.proofs.Fresh.{zeros_at, zero_words_at}
use Rattle.gl_verilog.specs.declared.start.Start.TheVariants.{Zero, Drawn}
use Rattle.gl_sim.specs.Starts.{next_draw, draw, draws_for, draws_before, word_drawn, register_at, word_at, zero_bank, DrawsOne, IsDrawnTo}

pub draw-suc : (s k : ℕ) → draw s (suc k) ≡ next_draw (draw s k)
unfolding draw
draw-suc s k = refl

pub draw-zero : (s : ℕ) → draw s 0 ≡ s
unfolding draw
draw-zero s = refl

pub draw-one : (s : ℕ) → draw s 1 ≡ next_draw s
unfolding draw
draw-one s = refl

pub draw-two : (s : ℕ) → draw s 2 ≡ next_draw (next_draw s)
unfolding draw
draw-two s = refl

pub draw-add : (s k j : ℕ) → draw (draw s k) j ≡ draw s (k + j)
draw-add s k zero = draw-zero (draw s k) ∙ ap (draw s) (let e : k ≡ k + 0 = omega arith in e)
draw-add s k (suc j) = draw-suc (draw s k) j ∙ ap next_draw (draw-add s k j) ∙ sym (draw-suc s (k + j)) ∙ ap (draw s) (let e : suc (k + j) ≡ k + suc j = omega arith in e)

pub word_drawn-from : (s k j w : ℕ) → word_drawn (draw s k) j w ≡ word_drawn s (k + j) w
word_drawn-from s k j w =
    let e1 : k + (j + 1) ≡ (k + j) + 1 = omega arith in
    let e2 : k + (j + 2) ≡ (k + j) + 2 = omega arith in
    rw (draw-add s k (j + 1), draw-add s k (j + 2), e1, e2) refl

-- a word of the next two numbers
pub word_next : (s k st st' x w : ℕ) → st ≡ draw s k → st' ≡ next_draw (next_draw st) → x ≡ (next_draw st * 2 ^ 64 + next_draw (next_draw st)) % 2 ^ w → (x ≡ word_drawn s k w) × (st' ≡ draw s (k + 2))
word_next s k st st' x w is moved value =
    let one : next_draw st ≡ draw s (k + 1) = ap next_draw is ∙ sym (draw-one (draw s k)) ∙ draw-add s k 1 in
    let two : next_draw (next_draw st) ≡ draw s (k + 2) = ap (λ n. next_draw (next_draw n)) is ∙ sym (draw-two (draw s k)) ∙ draw-add s k 2 in
    (value ∙ ap (λ a. (a * 2 ^ 64 + next_draw (next_draw st)) % 2 ^ w) one ∙ ap (λ b. (draw s (k + 1) * 2 ^ 64 + b) % 2 ^ w) two, moved ∙ two)

pub word_drawn-fits : (s k w : ℕ) → word_drawn s k w < 2 ^ w
word_drawn-fits s k w = mod_below (draw s (k + 1) * 2 ^ 64 + draw s (k + 2)) (2 ^ w) (pow_pos w)

-- ---- one bank

pub record IsDrawnIn (s st : ℕ) (at width : ℕ) (before bank : List ℕ) : Type 0 where
  pub moved : st ≡ draw s (2 * at)
  pub size : length bank ≡ length before
  pub words : (j : ℕ) → j < at → slice_index bank j ≡ word_drawn s (2 * j) width

pub drawn_in-first : (s width : ℕ) (bank : List ℕ) → IsDrawnIn s s 0 width bank bank
drawn_in-first s width bank = record { moved = sym (draw-zero s); size = refl; words = λ j lt. absurd (omega arith) }

pub drawn_in-more : (s st st' at width x : ℕ) (before bank : List ℕ) → IsDrawnIn s st at width before bank → at < length before → st' ≡ next_draw (next_draw st) → x ≡ (next_draw st * 2 ^ 64 + next_draw (next_draw st)) % 2 ^ width → IsDrawnIn s st' (at + 1) width before (slice_set bank at x)
drawn_in-more s st st' at width x before bank h lt moved value =
    let next = word_next s (2 * at) st st' x width h.moved moved value in
    let twice : 2 * at + 2 ≡ 2 * (at + 1) = omega arith in
    record {
      moved = next.1 ∙ ap (draw s) twice;
      size = length-set bank at x ∙ h.size;
      words = λ j below. elim (cases_eq at j) [
        | inl same ↦ subst (λ i. slice_index (slice_set bank at x) i ≡ word_drawn s (2 * i) width) same (get_or-set_same bank at x 0 (let e : length bank ≡ length before = h.size in omega arith) ∙ next.0)
        | inr other ↦ get_or-set_other bank at j x 0 (λ q. other (sym q)) ∙ h.words j (omega arith)
      ];
    }

-- ---- one declaration

-- a bank put in place of another
pub store_bank : (ds : List Declaration) (vs : List ℕ) (bs : List (List ℕ)) (k : ℕ) (b : List ℕ) (d : Declaration) → IsStore ds vs bs → slice_get ds k ≡ Some d → length b ≡ words_in d.kind → ((at : ℕ) → slice_index b at < 2 ^ d.width) → IsStore ds vs (slice_set bs k b)
store_bank ds vs bs k b d st e size fits =
    let within : k < length bs = let h : k < length ds = get_below ds k d e in omega (arith, st.memories) in
    record {
      nets = st.nets;
      memories = length-set bs k b ∙ st.memories;
      words = λ k' d' e'. elim (cases_eq k k') [
        | inl same ↦
            let is : d ≡ d' = same_item ds k d d' e (subst (λ i. slice_get ds i ≡ Some d') (sym same) e') in
            subst (λ i. length (slice_index_or (slice_set bs k b) i []) ≡ words_in d'.kind) same
            (ap (λ (x : List ℕ). length x) (get_or-set_same bs k b [] within) ∙ size ∙ ap (λ (x : Declaration). words_in x.kind) is)
        | inr other ↦ ap (λ (x : List ℕ). length x) (get_or-set_other bs k k' b [] (λ q. other (sym q))) ∙ st.words k' d' e'
      ];
      fits = λ n d' e'. (
        (st.fits n d' e').0,
        λ at. elim (cases_eq k n) [
          | inl same ↦
              let is : d ≡ d' = same_item ds k d d' e (subst (λ i. slice_get ds i ≡ Some d') (sym same) e') in
              subst (λ i. memories_of (slice_set bs k b) i at < 2 ^ d'.width) same
              (subst (λ (x : List ℕ). slice_index x at < 2 ^ d'.width) (sym (get_or-set_same bs k b [] within)) (subst (λ (x : Declaration). slice_index b at < 2 ^ x.width) is (fits at)))
          | inr other ↦ subst (λ (x : List ℕ). slice_index x at < 2 ^ d'.width) (sym (get_or-set_other bs k n b [] (λ q. other (sym q)))) ((st.fits n d' e').1 at)
        ],
      );
    }

no_words : (k : Kind) → IsRegister k → words_in k ≡ 0
no_words OutputRegister r = refl
no_words Register r = refl
no_words Input r = absurd r
no_words OutputWire r = absurd r
no_words Wire r = absurd r
no_words (Memory bits) r = absurd r

two_draws : (k : Kind) → IsRegister k → draws_for k ≡ 2
two_draws OutputRegister r = refl
two_draws Register r = refl
two_draws Input r = absurd r
two_draws OutputWire r = absurd r
two_draws Wire r = absurd r
two_draws (Memory bits) r = absurd r

pub draws_register : (ds : List Declaration) (n : ℕ) (d : Declaration) (st st' x : ℕ) (vs : List ℕ) (bs : List (List ℕ)) → IsStore ds vs bs → slice_get ds n ≡ Some d → IsRegister d.kind → st' ≡ next_draw (next_draw st) → x ≡ (next_draw st * 2 ^ 64 + next_draw (next_draw st)) % 2 ^ d.width → DrawsOne ds n d st st' vs (slice_set vs n x) bs bs
draws_register ds n d st st' x vs bs store e r moved value =
    let next = word_next st 0 st st' x d.width (sym (draw-zero st)) moved value in
    let within : n < length vs = let h : n < length ds = get_below ds n d e in omega (arith, store.nets) in
    record {
      moved = next.1 ∙ ap (draw st) (sym (two_draws d.kind r));
      store = store_put ds vs bs n x d store e (subst (λ y. y < 2 ^ d.width) (sym next.0) (word_drawn-fits st 0 d.width));
      register = λ _. get_or-set_same vs n x 0 within ∙ next.0;
      words = λ at lt. absurd (let none : words_in d.kind ≡ 0 = no_words d.kind r in omega arith);
      other_values = λ k ne. get_or-set_other vs n k x 0 ne;
      other_words = λ k at ne. refl;
    }

pub draws_memory : (ds : List Declaration) (n : ℕ) (d : Declaration) (bits st st' : ℕ) (b : List ℕ) (vs : List ℕ) (bs : List (List ℕ)) → IsStore ds vs bs → slice_get ds n ≡ Some d → d.kind ≡ Memory bits → IsDrawnIn st st' (words_in d.kind) d.width (slice_index_or bs n []) b → DrawsOne ds n d st st' vs vs bs (slice_set bs n b)
draws_memory ds n d bits st st' b vs bs store e is h =
    let within : n < length bs = let p : n < length ds = get_below ds n d e in omega (arith, store.memories) in
    let size : length b ≡ words_in d.kind = h.size ∙ store.words n d e in
    record {
      moved = h.moved ∙ ap (draw st) (rw is refl);
      store = store_bank ds vs bs n b d store e size (λ at. fits at);
      register = λ r. absurd (subst IsRegister is r);
      words = λ at lt. ap (λ (x : List ℕ). slice_index x at) (get_or-set_same bs n b [] within) ∙ h.words at lt;
      other_values = λ k ne. refl;
      other_words = λ k at ne. ap (λ (x : List ℕ). slice_index x at) (get_or-set_other bs n k b [] ne);
    }
  where
    past : (xs : List ℕ) (at : ℕ) → length xs ≤ at → slice_index xs at ≡ 0
    past [] at le = refl
    past (x ∷ xs) zero le = absurd (omega arith)
    past (x ∷ xs) (suc at) le = past xs at (omega arith)

    below : (at : ℕ) → (at < words_in d.kind) ⊎ (words_in d.kind ≤ at)
    below at = cases_lt at (words_in d.kind)

    fits : (at : ℕ) → slice_index b at < 2 ^ d.width
    fits at = elim (below at) [
      | inl lt ↦ subst (λ y. y < 2 ^ d.width) (sym (h.words at lt)) (word_drawn-fits st (2 * at) d.width)
      | inr le ↦ subst (λ y. y < 2 ^ d.width) (sym (past b at (let size : length b ≡ words_in d.kind = h.size ∙ store.words n d e in omega arith))) (pow_pos d.width)
    ]

pub draws_none : (ds : List Declaration) (n : ℕ) (d : Declaration) (st : ℕ) (vs : List ℕ) (bs : List (List ℕ)) → IsStore ds vs bs → (IsRegister d.kind → ⊥) → draws_for d.kind ≡ 0 → words_in d.kind ≡ 0 → DrawsOne ds n d st st vs vs bs bs
draws_none ds n d st vs bs store no_register none no_word = record {
  moved = sym (draw-zero st) ∙ ap (draw st) (sym none);
  store = store;
  register = λ r. absurd (no_register r);
  words = λ at lt. absurd (omega arith);
  other_values = λ k ne. refl;
  other_words = λ k at ne. refl;
}

-- ---- all declarations

pub drawn_to-first : (ds : List Declaration) (seed : ℕ) (vs : List ℕ) (bs : List (List ℕ)) → IsStore ds vs bs → IsDrawnTo ds seed 0 seed vs bs
drawn_to-first ds seed vs bs store = record {
  moved = sym (draw-zero seed);
  store = store;
  registers = λ k d lt e r. absurd (omega arith);
  words = λ k d at lt e w. absurd (omega arith);
}

draws_before-more : (ds : List Declaration) (n : ℕ) (d : Declaration) → slice_get ds n ≡ Some d → draws_before ds (n + 1) ≡ draws_before ds n + draws_for d.kind
draws_before-more ds n d e =
    sum_by_more (λ c. draws_for c.kind) ds n d (get_below ds n d e) ∙ ap (λ (x : Declaration). draws_before ds n + draws_for x.kind) (found_at ds n d e)
  where
    found_at : (xs : List Declaration) (i : ℕ) (x : Declaration) → slice_get xs i ≡ Some x → get_or xs i x ≡ x
    found_at [] i x e = absurd cc
    found_at (y ∷ xs) zero x e = let same : y ≡ x = cc in same
    found_at (y ∷ xs) (suc i) x e = found_at xs i x e

pub drawn_to-more : (ds : List Declaration) (seed n : ℕ) (d : Declaration) (st st' : ℕ) (vs vs' : List ℕ) (bs bs' : List (List ℕ)) → slice_get ds n ≡ Some d → IsDrawnTo ds seed n st vs bs → DrawsOne ds n d st st' vs vs' bs bs' → IsDrawnTo ds seed (n + 1) st' vs' bs'
drawn_to-more ds seed n d st st' vs vs' bs bs' e h one = record {
  moved = one.moved ∙ ap (λ s. draw s (draws_for d.kind)) h.moved ∙ draw-add seed (draws_before ds n) (draws_for d.kind) ∙ ap (draw seed) (sym (draws_before-more ds n d e));
  store = one.store;
  registers = λ k c lt g r. elim (cases_eq k n) [
    | inl same ↦
        let is : d ≡ c = same_item ds n d c e (subst (λ i. slice_get ds i ≡ Some c) same g) in
        let w : width_at ds n ≡ d.width = width_at-found ds n d e in
        subst (λ i. slice_index vs' i ≡ register_at (Drawn seed) ds i) (sym same)
        (one.register (subst (λ (x : Declaration). IsRegister x.kind) (sym is) r)
        ∙ ap (λ s. word_drawn s 0 d.width) h.moved ∙ word_drawn-from seed (draws_before ds n) 0 d.width
        ∙ ap (λ k. word_drawn seed k d.width) (let z : draws_before ds n + 0 ≡ draws_before ds n = omega arith in z) ∙ ap (word_drawn seed (draws_before ds n)) (sym w))
    | inr other ↦ one.other_values k other ∙ h.registers k c (omega arith) g r
  ];
  words = λ k c at lt g below. elim (cases_eq k n) [
    | inl same ↦
        let is : d ≡ c = same_item ds n d c e (subst (λ i. slice_get ds i ≡ Some c) same g) in
        let w : width_at ds n ≡ d.width = width_at-found ds n d e in
        subst (λ i. memories_of bs' i at ≡ word_at (Drawn seed) ds i at) (sym same)
        (one.words at (subst (λ (x : Declaration). at < words_in x.kind) (sym is) below)
        ∙ ap (λ s. word_drawn s (2 * at) d.width) h.moved ∙ word_drawn-from seed (draws_before ds n) (2 * at) d.width ∙ ap (word_drawn seed (draws_before ds n + 2 * at)) (sym w))
    | inr other ↦ one.other_words k at other ∙ h.words k c at (omega arith) g below
  ];
}

pub drawn_all : (ds : List Declaration) (seed n st : ℕ) (vs : List ℕ) (bs : List (List ℕ)) → length ds ≤ n → IsDrawnTo ds seed n st vs bs → SameState ds (register_at (Drawn seed) ds) (word_at (Drawn seed) ds) (nets_of vs) (memories_of bs)
drawn_all ds seed n st vs bs le h = record {
  registers = λ k d e r. sym (h.registers k d (let lt : k < length ds = get_below ds k d e in omega arith) e r);
  words = λ k d at e below. sym (h.words k d at (let lt : k < length ds = get_below ds k d e in omega arith) e below);
}

-- the declaration at a place of the program's list
pub declared_at : (all slice : List Rust) (n : ℕ) (x : Rust) → slice ≡ all → n < length all → x ≡ get_or slice n x → slice_get (map declaration_of all) n ≡ Some (declaration_of x)
declared_at all slice n x same lt is =
    subst (λ (xs : List Rust). slice_get (map declaration_of xs) n ≡ Some (declaration_of x)) same
    (get_mapped declaration_of slice n x (slice_get-at slice n x (subst (λ (xs : List Rust). n < length xs) (sym same) lt) is))

-- two that hold what a third does
pub state_along : (ds : List Declaration) (s v w : Nets) (sm m n : Memories) → SameState ds s sm v m → SameState ds s sm w n → SameState ds v m w n
state_along ds s v w sm m n p q = record {
  registers = λ k d e r. sym (p.registers k d e r) ∙ q.registers k d e r;
  words = λ k d at e lt. sym (p.words k d at e lt) ∙ q.words k d at e lt;
}

-- a store of zeros starts with zeros
pub started_zero : (ds : List Declaration) (vs : List ℕ) (bs : List (List ℕ)) → vs ≡ replicate (length ds) 0 → bs ≡ map zero_bank ds → SameState ds (register_at Zero ds) (word_at Zero ds) (nets_of vs) (memories_of bs)
started_zero ds vs bs values banks = record {
  registers = λ k d e r. sym (ap (λ (xs : List ℕ). slice_index xs k) values ∙ zeros_at (length ds) k);
  words = λ k d at e lt. sym (ap (λ (xs : List (List ℕ)). memories_of xs k at) banks ∙ zero_words_at ds k at);
}
