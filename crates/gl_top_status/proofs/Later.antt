-- What a later fetch leaves, where the earlier ones refused nothing.
use Rattle.std.proofs.Common.{◌≡◌, ℕ, ◌<◌, List, length, subst}
use mathlib.Core.Path.{fun_ext}
use Rattle.gl_outside.specs.Told.{Told, IsLacking, IfTold}
use Rattle.gl_outside.specs.States.{ShelfState, Stays, IsCalm}
use Rattle.gl_outside.proofs.Counting.{calm_then, missed_then, faulted_then}
use Rattle.gl_top_forms.specs.declared.command.Part.{Part}
use Rattle.gl_top_forms.specs.Forms.{name_of}
use Rattle.gl_top_status.specs.declared.refusal.Refusal.{Refusal}
use Rattle.gl_top_status.specs.declared.refusal.Refusal.TheVariants as refusal
use Rattle.gl_top_status.specs.Texts.{IsUnfetched}

-- the texts stay, and what is said of them
pub same_told : (P : (List ℕ → Told) → Type 0) (a b : List ℕ → Told) → ((n : List ℕ) → b n ≡ a n) → P b → P a
same_told P a b e p = let same : b ≡ a = fun_ext e in subst P same p

pub unfetched_later : (words : List (List ℕ)) (p : Part) (a b c : ShelfState) (r : Refusal) → Stays a b → IsCalm a b → IsUnfetched words p b c r → IsUnfetched words p a c r
unfetched_later words p a b c (refusal.Missing q) k calm h = (h.0, same_told (λ t. IsLacking (t (name_of words p))) a.told b.told k.texts h.1, missed_then a b c _ calm h.2)
unfetched_later words p a b c (refusal.ReadFault q) k calm h = (h.0, faulted_then a b c _ calm h.1)
unfetched_later words p a b c (refusal.TooLong q) k calm h =
    (h.0, same_told (λ t. IfTold (t (name_of words p)) (λ text. 67108864 < length text)) a.told b.told k.texts h.1, calm_then a b c calm h.2)
unfetched_later words p a b c refusal.Memory k calm h = calm_then a b c calm h
unfetched_later words p a b c refusal.Usage k calm h = absurd h
unfetched_later words p a b c (refusal.Schema f) k calm h = absurd h
unfetched_later words p a b c (refusal.Query f) k calm h = absurd h
unfetched_later words p a b c (refusal.Limit l) k calm h = absurd h
unfetched_later words p a b c (refusal.Verilog f) k calm h = absurd h
unfetched_later words p a b c (refusal.Tuples f) k calm h = absurd h
unfetched_later words p a b c (refusal.Dump f) k calm h = absurd h
