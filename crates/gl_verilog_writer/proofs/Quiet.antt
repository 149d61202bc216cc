-- Comments give no tokens, and how long they are.
use Rattle.std.proofs.Common.{◌≡◌, ℕ, zero, suc, ◌+◌, ◌-◌, ◌*◌, ◌≤◌, Bool, true, false, ◌&&◌, List, [], ◌∷◌, ◌++◌, length, length-append, length-take, take, refl, sym, ap, ◌∙◌, append_assoc, arith, ne_eqb, leb-true}
use Rattle.std.specs.Prelude.{codes, nat_eq, nat_le, if◌then◌else◌}
use Rattle.gl_bits.proofs.Bools.{and_left, and_parts, and_right, not_both}
use Rattle.gl_bits.proofs.Numbers.{not_zero}
use Rattle.gl_verilog.specs.Tokens.{Between, InLine, Move, after, to, scan, Reads}
use Rattle.gl_verilog.proofs.Pieces.{reads_on}
use Rattle.gl_verilog_writer.specs.Comments.{shown_byte, break_text, ends_at, room_behind, wrapped, comment_text, heading_text, cut_note, last_text, header_from, header_text}

-- what is shown of a byte ends no line
shown-stays : (b : ℕ) → nat_eq (shown_byte b) 10 ≡ false
shown-stays b = by (nat_le 32 b && nat_le b 126) refl
  where
    by : (t : Bool) → (nat_le 32 b && nat_le b 126) ≡ t → nat_eq (if t then b else 63) 10 ≡ false
    by true e = ne_eqb b 10 (λ q. (let l = leb-true 32 b (and_left (nat_le 32 b) (nat_le b 126) e) in omega (arith, l, q)))
    by false e = refl

shown-on : (b : ℕ) (w : List ℕ) → scan InLine w ≡ to Between [] → scan InLine (shown_byte b ∷ w) ≡ to Between []
shown-on b w h = let f = shown-stays b in rw f (ap (λ (x : Move). after [] x) h)

-- behind the signs that begin a comment
begun : (w : List ℕ) → scan InLine w ≡ to Between [] → Reads (codes "//|     " ++ w) []
begun w h = record { is = ap (λ (x : Move). after [] (after [] (after [] (after [] (after [] (after [] (after [] (after [] x)))))))) h }

byte-ends : (front : List ℕ) → Reads front [] → (ends full : Bool) (b : ℕ) (rest : List ℕ) → scan InLine rest ≡ to Between []
    → scan InLine ((if ends then break_text front else if full then break_text front ++ shown_byte b ∷ [] else shown_byte b ∷ []) ++ rest) ≡ to Between []
byte-ends front f true full b rest h =
    let r = reads_on front (codes "//|     " ++ rest) [] [] f (begun rest h) in
    ap (λ (x : Move). after [] x) (ap (scan Between) (append_assoc front (codes "//|     ") rest) ∙ r.is)
byte-ends front f false true b rest h =
    let more = shown_byte b ∷ rest in
    let r = reads_on front (codes "//|     " ++ more) [] [] f (begun more (shown-on b rest h)) in
    let e : front ++ (codes "//|     " ++ more) ≡ ((front ++ codes "//|     ") ++ shown_byte b ∷ []) ++ rest =
    sym (append_assoc (front ++ codes "//|     ") (shown_byte b ∷ []) rest ∙ append_assoc front (codes "//|     ") more) in
    ap (λ (x : Move). after [] x) (ap (scan Between) (sym e) ∙ r.is)
byte-ends front f false false b rest h = shown-on b rest h

wrapped-ends : (front : List ℕ) → Reads front [] → (room : ℕ) (w : List ℕ) → scan InLine (wrapped front room w) ≡ to Between []
wrapped-ends front f room [] = refl
wrapped-ends front f room (b ∷ w) =
    byte-ends front f (ends_at room b) (nat_eq room 0) b (wrapped front (room_behind room b) w) (wrapped-ends front f (room_behind room b) w)

comment-reads : (front w : List ℕ) → Reads front [] → Reads (comment_text front w) []
comment-reads front w f = record { is = ap (λ (x : Move). after [] (after [] (after [] (after [] x)))) (wrapped-ends front f 115 w) }

pub heading-reads : (w : List ℕ) → Reads (heading_text w) []
unfolding heading_text
heading-reads [] = record { is = refl }
heading-reads (b ∷ w) = reads_on (codes "\n    ") _ [] [] (record { is = refl }) (comment-reads (codes "    ") (take 200 (b ∷ w)) (record { is = refl }))

header-by : (t : Bool) (room : ℕ) (l rest : List ℕ) → Reads rest [] → Reads (if t then comment_text [] l ++ rest else last_text room l) []
header-by true room l rest r = reads_on (comment_text [] l) rest [] [] (comment-reads [] l (record { is = refl })) r
header-by false room l rest r = reads_on (comment_text [] (take room l)) cut_note [] [] (comment-reads [] (take room l) (record { is = refl })) (record { is = refl })

header-from : (room : ℕ) (ls : List (List ℕ)) → Reads (header_from room ls) []
header-from room [] = record { is = refl }
header-from room (l ∷ ls) = header-by (nat_le 5 room && nat_le (length l) (room - 5)) room l (header_from (room - 5 - length l) ls) (header-from (room - 5 - length l) ls)

pub header-reads : (ls : List (List ℕ)) → Reads (header_text ls) []
unfolding header_text
header-reads ls = header-from 65536 ls

-- ---- lengths

-- what a line may cost before it ends
abbrev left_of : ℕ → ℕ
left_of room = 13 * (75 - (room - 40))

break-long : (front : List ℕ) → length front ≤ 4 → length (break_text front) ≤ 13
break-long front f = let z = length-append (codes "\n" ++ front) (codes "//|     ") in omega (arith, f, z)

byte-long : (front : List ℕ) → length front ≤ 4 → (ends full : Bool) (room b n : ℕ) (rest : ℕ → List ℕ) → (ends ≡ true → room ≤ 40) → nat_eq room 0 ≡ full
    → ((r : ℕ) → r ≤ 115 → 71 * length (rest r) ≤ 84 * n + left_of r + 71) → room ≤ 115
    → 71 * length ((if ends then break_text front else if full then break_text front ++ shown_byte b ∷ [] else shown_byte b ∷ [])
    ++ rest (if ends then 111 else if full then 110 else room - 1)) ≤ 84 * suc n + left_of room + 71
byte-long front f true full room b n rest few z each h =
    let r = each 111 (omega arith) in
    let x = length-append (break_text front) (rest 111) in
    let y = break-long front f in
    let low = few refl in
    omega (arith, r, x, y, low)
byte-long front f false true zero b n rest few z each h =
    let r = each 110 (omega arith) in
    let x = length-append (break_text front ++ shown_byte b ∷ []) (rest 110) in
    let y = length-append (break_text front) (shown_byte b ∷ []) in
    let w = break-long front f in
    omega (arith, r, x, y, w)
byte-long front f false true (suc room) b n rest few z each h = absurd (not_both (nat_eq (suc room) 0) z (not_zero room))
byte-long front f false false zero b n rest few z each h = absurd cc
byte-long front f false false (suc room) b n rest few z each h =
    let r = each (suc room - 1) (omega (arith, h)) in
    omega (arith, r, h)

wrapped-long : (front : List ℕ) → length front ≤ 4 → (room : ℕ) (w : List ℕ) → room ≤ 115 → 71 * length (wrapped front room w) ≤ 84 * length w + left_of room + 71
wrapped-long front f room [] h = omega arith
wrapped-long front f room (b ∷ w) h =
    byte-long front f (ends_at room b) (nat_eq room 0) room b (length w) (λ r. wrapped front r w)
    (λ e. leb-true room 40 (and_right (nat_eq b 32) (nat_le room 40) e)) refl (λ r k. wrapped-long front f r w k) h

comment-long : (front w : List ℕ) → length front ≤ 4 → 71 * length (comment_text front w) ≤ 84 * length w + 355
comment-long front w f = let r = wrapped-long front f 115 w (omega arith) in omega (arith, r)

pub heading-long : (w : List ℕ) → length (heading_text w) ≤ 246
unfolding heading_text
heading-long [] = omega arith
heading-long (b ∷ w) =
    let r = comment-long (codes "    ") (take 200 (b ∷ w)) (omega arith) in
    let t : length (take 200 (b ∷ w)) ≤ 200 = omega (arith, length-take 200 (b ∷ w)) in
    omega (arith, r, t)

header-short : (t : Bool) (room : ℕ) (l rest : List ℕ) → (nat_le 5 room && nat_le (length l) (room - 5)) ≡ t → 71 * length rest ≤ 84 * (room - 5 - length l) + 4615
    → 71 * length (if t then comment_text [] l ++ rest else last_text room l) ≤ 84 * room + 4615
header-short true room l rest e h =
    let p = and_parts (nat_le 5 room) (nat_le (length l) (room - 5)) e in
    let a = leb-true 5 room p.0 in
    let b = leb-true (length l) (room - 5) p.1 in
    let c = comment-long [] l (omega arith) in
    let d = length-append (comment_text [] l) rest in
    omega (arith, a, b, c, d, h)
header-short false room l rest e h =
    let c = comment-long [] (take room l) (omega arith) in
    let t : length (take room l) ≤ room = omega (arith, length-take room l) in
    let d = length-append (comment_text [] (take room l)) cut_note in
    let n : length cut_note ≤ 60 = omega arith in
    omega (arith, c, t, d, n)

header-long : (room : ℕ) (ls : List (List ℕ)) → 71 * length (header_from room ls) ≤ 84 * room + 4615
header-long room [] = omega arith
header-long room (l ∷ ls) = header-short (nat_le 5 room && nat_le (length l) (room - 5)) room l (header_from (room - 5 - length l) ls) refl (header-long (room - 5 - length l) ls)

pub header-within : (ls : List (List ℕ)) → length (header_text ls) ≤ 77600
unfolding header_text
header-within ls = let h = header-long 65536 ls in omega (arith, h)
