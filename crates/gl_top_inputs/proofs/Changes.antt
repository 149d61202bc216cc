-- Changes of a shelf, one after the other.
use Rattle.std.proofs.Common.{◌≡◌, ℕ, List, Result, Ok, Err, sym, subst}
use Rattle.std.specs.Result.{IsErrAnd}
use Rattle.gl_outside.specs.States.{ShelfState, Stays, IsCalm}
use Rattle.gl_outside.proofs.Counting.{calm_then, missed_then, faulted_then}
use Rattle.gl_top_status.specs.declared.refusal.Refusal.{Refusal}
use Rattle.gl_top_status.specs.declared.refusal.Refusal.TheVariants.{Usage, Missing, ReadFault, TooLong, Schema, Query, Limit, Verilog, Tuples, Dump, Memory}
use Rattle.gl_top_status.proofs.Later.{same_told}
use Rattle.gl_top_inputs.specs.Causes.{change, IsNext, IsRefused, HasCause, Leaves}

-- what a later call refuses, where the earlier ones refused nothing
cause_later : (words : List (List ℕ)) (a b c : ShelfState) (r : Refusal) → Stays a b → IsCalm a b → HasCause words (change b c) r → HasCause words (change a c) r
cause_later words a b c Usage k q h = (h.0, calm_then a b c q h.1)
cause_later words a b c (Missing p) k q h = (same_told (λ t. IsRefused t words (Missing p)) a.told b.told k.texts h.0, missed_then a b c _ q h.1)
cause_later words a b c (ReadFault p) k q h = (same_told (λ t. IsNext t words p) a.told b.told k.texts h.0, faulted_then a b c _ q h.1)
cause_later words a b c (TooLong p) k q h = (same_told (λ t. IsRefused t words (TooLong p)) a.told b.told k.texts h.0, calm_then a b c q h.1)
cause_later words a b c (Schema f) k q h = (same_told (λ t. IsRefused t words (Schema f)) a.told b.told k.texts h.0, calm_then a b c q h.1)
cause_later words a b c (Query f) k q h = (same_told (λ t. IsRefused t words (Query f)) a.told b.told k.texts h.0, calm_then a b c q h.1)
cause_later words a b c (Limit l) k q h = (same_told (λ t. IsRefused t words (Limit l)) a.told b.told k.texts h.0, calm_then a b c q h.1)
cause_later words a b c (Verilog f) k q h = (same_told (λ t. IsRefused t words (Verilog f)) a.told b.told k.texts h.0, calm_then a b c q h.1)
cause_later words a b c (Tuples f) k q h = (same_told (λ t. IsRefused t words (Tuples f)) a.told b.told k.texts h.0, calm_then a b c q h.1)
cause_later words a b c (Dump f) k q h = (same_told (λ t. IsRefused t words (Dump f)) a.told b.told k.texts h.0, calm_then a b c q h.1)
cause_later words a b c Memory k q h = calm_then a b c q h

pub leaves_later : {T : Type 0} (words : List (List ℕ)) (a b c : ShelfState) (r : Result T Refusal) → Stays a b → IsCalm a b → Leaves words b c r → Leaves words a c r
leaves_later words a b c (Ok x) k q h = calm_then a b c q h
leaves_later words a b c (Err f) k q h = cause_later words a b c f k q h

-- what a refusal that is handed on leaves
pub handed_on : {T : Type 0} (words : List (List ℕ)) (a b : ShelfState) (r : Result T Refusal) (f : Refusal) → IsErrAnd r (λ g. g ≡ f) → HasCause words (change a b) f → Leaves words a b r
handed_on words a b (Ok x) f h cause = absurd h
handed_on words a b (Err g) f h cause = (let same : g ≡ f = h in subst (HasCause words (change a b)) (sym same) cause)
