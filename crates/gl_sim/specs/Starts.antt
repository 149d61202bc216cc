-- What registers and memory words hold before the first cycle.
use Rattle.std.specs.Prelude.{◌≡◌, ◌≢◌, ◌<◌, Some, slice_get, slice_index, ℕ, zero, suc, ◌+◌, ◌*◌, ◌%◌, ◌^◌, List, take, replicate}
use Rattle.std.specs.List.{sum_by}
use Rattle.gl_verilog.specs.Module.{Kind, OutputRegister, Register, Memory, Declaration, Module, Nets, Memories}
use Rattle.gl_verilog.specs.Run.{IsRegister, IsRun}
use Rattle.gl_verilog.specs.Evaluate.{IsStore, memories_of}
use Rattle.gl_verilog.specs.Runnable.{SameState, HasInputs}
use Rattle.gl_verilog.specs.Widths.{width_at, words_in}
use Rattle.gl_verilog.specs.declared.start.Start.{Start}
use Rattle.gl_verilog.specs.declared.start.Start.TheVariants.{Zero, Drawn}

-- the next number of the sequence
abbrev pub next_draw : ℕ → ℕ
next_draw x = (x * 6364136223846793005 + 1442695040888963407) % 2 ^ 64

-- the numbers drawn from a seed: the seed itself is the one before the first
unfoldable pub draw : ℕ → ℕ → ℕ
draw seed zero = seed
draw seed (suc k) = next_draw (draw seed k)

-- how many numbers a declaration takes: two for each register and each word
abbrev pub draws_for : Kind → ℕ
draws_for OutputRegister = 2
draws_for Register = 2
draws_for (Memory address_bits) = 2 * 2 ^ address_bits
draws_for _ = 0

-- how many the declarations before this one take
abbrev pub draws_before : List Declaration → ℕ → ℕ
draws_before ds n = sum_by (λ d. draws_for d.kind) (take n ds)

-- the word of the two numbers behind the first k, cut to its width
abbrev pub word_drawn : ℕ → ℕ → ℕ → ℕ
word_drawn seed k width = (draw seed (k + 1) * 2 ^ 64 + draw seed (k + 2)) % 2 ^ width

-- what a register holds before the first cycle
abbrev pub register_at : Start → List Declaration → ℕ → ℕ
register_at Zero ds n = 0
register_at (Drawn seed) ds n = word_drawn seed (draws_before ds n) (width_at ds n)

-- what a word of a memory holds before the first cycle
abbrev pub word_at : Start → List Declaration → ℕ → ℕ → ℕ
word_at Zero ds k at = 0
word_at (Drawn seed) ds k at = word_drawn seed (draws_before ds k + 2 * at) (width_at ds k)

-- words of 0, one for each address
abbrev pub zero_bank : Declaration → List ℕ
zero_bank d = replicate (words_in d.kind) 0

-- a run that begins with these registers and words
abbrev pub StartsFrom : Start → Module → (ℕ → Nets) → (ℕ → Memories) → Type 0
StartsFrom start m value word =
    SameState m.declarations (register_at start m.declarations) (word_at start m.declarations) (value 0) (word 0)

-- one declaration drawn: two numbers for its register, or for each of its words
pub record DrawsOne (ds : List Declaration) (n : ℕ) (d : Declaration) (state state' : ℕ) (values values' : List ℕ)
    (banks banks' : List (List ℕ)) : Type 0 where
  pub moved : state' ≡ draw state (draws_for d.kind)
  pub store : IsStore ds values' banks'
  pub register : IsRegister d.kind → slice_index values' n ≡ word_drawn state 0 d.width
  pub words : (at : ℕ) → at < words_in d.kind → memories_of banks' n at ≡ word_drawn state (2 * at) d.width
  pub other_values : (k : ℕ) → k ≢ n → slice_index values' k ≡ slice_index values k
  pub other_words : (k at : ℕ) → k ≢ n → memories_of banks' k at ≡ memories_of banks k at

-- the declarations before n drawn
pub record IsDrawnTo (ds : List Declaration) (seed n state : ℕ) (values : List ℕ) (banks : List (List ℕ)) : Type 0 where
  pub moved : state ≡ draw seed (draws_before ds n)
  pub store : IsStore ds values banks
  pub registers : (k : ℕ) (d : Declaration) → k < n → slice_get ds k ≡ Some d → IsRegister d.kind
      → slice_index values k ≡ register_at (Drawn seed) ds k
  pub words : (k : ℕ) (d : Declaration) (at : ℕ) → k < n → slice_get ds k ≡ Some d → at < words_in d.kind
      → memories_of banks k at ≡ word_at (Drawn seed) ds k at

-- a run from a start whose inputs are these rows, one for each cycle
pub record RunsWith (start : Start) (m : Module) (rows : ℕ → List ℕ) : Type 0 where
  pub value : ℕ → Nets
  pub word : ℕ → Memories
  pub is : IsRun m value word
  pub starts : StartsFrom start m value word
  pub inputs : (t : ℕ) → HasInputs m (value t) (rows t)
