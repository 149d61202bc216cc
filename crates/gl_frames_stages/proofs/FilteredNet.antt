-- Words with a bit above the value, in a netlist.
use Rattle.std.proofs.Common.{◌≡◌, ℕ, zero, suc, ◌+◌, ◌*◌, ◌%◌, ◌^◌, ◌<◌, Some, None, sym, ap, ◌∙◌, arith}
use Rattle.std.specs.Prelude.{if◌then◌else◌, nat_eq}
use Rattle.std.proofs.Math.Nat.{mod-eq_of_lt}
use Rattle.gl_bits.specs.Words.{join_of}
use Rattle.gl_frames_stages.specs.FilteredNets.{pack}

-- a bit above a word that is 0 where the bit is
pub packed_word : (w b x : ℕ) → b < 2 → x < 2 ^ w → join_of w b (if nat_eq b 1 then x else 0) ≡ pack w (if nat_eq b 1 then Some (x % 2 ^ w) else None)
unfolding join_of
packed_word w zero x less fits = let e : 0 * 2 ^ w + 0 ≡ 0 = omega arith in e
packed_word w (suc zero) x less fits = let e : 1 * 2 ^ w + x ≡ 2 ^ w + x = omega arith in e ∙ ap (λ (n : ℕ). 2 ^ w + n) (sym (mod-eq_of_lt fits))
packed_word w (suc (suc b)) x less fits = absurd (omega (arith, less))
