-- What waits for the edge, one statement after another.
use Rattle.std.proofs.Common.{◌≡◌, ℕ, ◌+◌, List, [], ◌∷◌, ◌++◌, Option, Some, None, refl, ◌∙◌, ap, length, unwrap_or, slice_index}
use Rattle.gl_verilog.specs.Module as spec
use Rattle.gl_verilog.specs.Module.{Nets, Memories, Both, Nothing, Write, value_of, later_or, assigned, written}
use Rattle.gl_verilog.specs.declared.module.Statement.{Statement}
use Rattle.gl_sim.specs.declared.update.Update.{Update}
use Rattle.gl_sim.specs.Updates.{put_by, put_of, AreInside, CanExecute}

pub later_or-assoc : (a b c : Option ℕ) → later_or (later_or c b) a ≡ later_or c (later_or b a)
later_or-assoc a b None = refl
later_or-assoc a b (Some x) = refl

pub unwrap-later : (a b : Option ℕ) (x : ℕ) → unwrap_or (later_or b a) x ≡ unwrap_or b (unwrap_or a x)
unwrap-later a None x = refl
unwrap-later a (Some y) x = refl

pub put_of-push : (us : List Update) (u : Update) (k at : ℕ) → put_of (us ++ u ∷ []) k at ≡ later_or (put_by u k at) (put_of us k at)
put_of-push [] u k at = alone (put_by u k at)
  where
    alone : (o : Option ℕ) → o ≡ later_or o None
    alone None = refl
    alone (Some x) = refl
put_of-push (w ∷ us) u k at = ap (λ (o : Option ℕ). later_or o (put_by w k at)) (put_of-push us u k at) ∙ later_or-assoc (put_by w k at) (put_of us k at) (put_by u k at)

-- a write that is noted
pub put_of-note : (us us' : List Update) (v : Nets) (m : Memories) (memory : ℕ) (address value : spec.Expr) (at word : ℕ) → us' ≡ us ++ record { memory = memory; address = at; value = word } ∷ [] → at ≡ value_of v m address → word ≡ value_of v m value → (k place : ℕ) → put_of us' k place ≡ later_or (written v m (Write memory address value) k place) (put_of us k place)
put_of-note us us' v m memory address value at word is at_is word_is k place =
    ap (λ (xs : List Update). put_of xs k place) is ∙ put_of-push us (record { memory = memory; address = at; value = word }) k place ∙ rw (at_is, word_is) refl

-- ---- what a list of statements leaves, as far as it was executed

pub record IsUnderWay (vs : List ℕ) (bs : List (List ℕ)) (v : Nets) (m : Memories) (all rest : spec.Statement) (next next' : List ℕ) (us us' : List Update) : Type 0 where
  pub can : CanExecute vs bs rest
  pub size : length next' ≡ length next
  pub inside : AreInside bs us'
  pub registers : (r : ℕ) → unwrap_or (assigned v m rest r) (slice_index next' r) ≡ unwrap_or (assigned v m all r) (slice_index next r)
  pub words : (k at : ℕ) → later_or (written v m rest k at) (put_of us' k at) ≡ later_or (written v m all k at) (put_of us k at)

pub under_way_first : (vs : List ℕ) (bs : List (List ℕ)) (v : Nets) (m : Memories) (all : spec.Statement) (next : List ℕ) (us : List Update) → CanExecute vs bs all → AreInside bs us → IsUnderWay vs bs v m all all next next us us
under_way_first vs bs v m all next us can inside = record { can = can; size = refl; inside = inside; registers = λ r. refl; words = λ k at. refl }

-- how many parts a statement has
abbrev pub parts_of : spec.Statement → ℕ
parts_of spec.Nothing = 1
parts_of (spec.Put register value) = 1
parts_of (spec.Write memory address value) = 1
parts_of (spec.Both first second) = parts_of first + parts_of second + 1
parts_of (spec.If test yes' no') = parts_of yes' + parts_of no' + 1
