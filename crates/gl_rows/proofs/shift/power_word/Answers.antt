use Rattle.std.proofs.Common.{◌*◌, ◌^◌, arith}
use Rattle.std.proofs.Math.Nat.{mod-le}
use Rattle.std.proofs.Math.Pow.{pow-lt}
use Rattle.gl_rows.proofs.shift.power_word.Goals as goal

pub unwrap-requires : goal.unwrap-requires
unwrap-requires c =
    let wide = c.width.ensures.word.width in
    let same = c.width.ensures.value in
    let less = pow-lt {i = c.places_in.result} {j = c.width.result} (omega (arith, c.requires, c.places_in.ensures, same)) in
    let cut = mod-le (1 * 2 ^ c.places_in.result) 340282366920938463463374607431768211456 in
    c.new.ensures.given.1 (omega (arith, wide.some', same), omega (arith, wide.most, same), omega (arith, less, cut))
