-- What a call of the program leaves.
use Rattle.std.specs.Prelude.{ℕ, List}
use Rattle.gl_outside.specs.States.{ShelfState, SinkState}
use Rattle.gl_top_status.specs.declared.status.Status.{Status}
use Rattle.gl_top_status.specs.Refusals.{Puts, puts}
use Rattle.gl_top_inputs.specs.Causes.{Change, change}
use Rattle.gl_top.specs.declared.desk.Desk.{Desk}

-- the words that it was given, the shelf, the output and the notes before and after it, the text that it left, and its
-- status
pub record Call : Type 0 where
  pub words : List (List ℕ)
  pub shelf : Change
  pub out : Puts
  pub notes : Puts
  pub text : List ℕ
  pub status : Status

-- the call by which the shelf changed so, by what is seen of the desk's output and notes before and after it
abbrev pub call_over : {S K N : Type 0} → (K → SinkState) → (N → SinkState) → List (List ℕ) → Change → Desk S K N
    → Desk S K N → Status → Call
call_over seen_out seen_notes words shelf old new status = record {
  words = words;
  shelf = shelf;
  out = puts (seen_out old.out) (seen_out new.out);
  notes = puts (seen_notes old.notes) (seen_notes new.notes);
  text = new.text.items;
  status = status;
}

-- a call by its words, and by what is seen of the desk's shelf, output and notes before and after it
abbrev pub call_of : {S K N : Type 0} → (S → ShelfState) → (K → SinkState) → (N → SinkState) → List (List ℕ)
    → Desk S K N → Desk S K N → Status → Call
call_of seen seen_out seen_notes words old new status =
    call_over seen_out seen_notes words (change (seen old.shelf) (seen new.shelf)) old new status
