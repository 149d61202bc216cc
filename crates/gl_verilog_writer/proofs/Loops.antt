-- What is left of a text in a loop.
use Rattle.std.proofs.Common.{◌≡◌, ℕ, zero, suc, ◌+◌, ◌-◌, ◌<◌, ◌≤◌, true, false, List, [], ◌∷◌, ◌++◌, length, drop, get_or, Option, Some, None, refl, sym, ap, ◌∙◌, append_assoc, add-one, drop-cons, arith, map, le-leb, Vec, Global}
use Rattle.std.specs.Prelude.{codes, unwrap_or, nat_le, ◌&&◌, if◌then◌else◌}
use Rattle.std.proofs.lemmas.Bool.{lt-leb, lt-ltb}
use Rattle.std.specs.Option.{option_map_or}
use Rattle.std.specs.List.{list_all}
use Rattle.gl_bits.proofs.Bools.{and_parts}
use Rattle.gl_net.specs.declared.node.Node.{Node}
use Rattle.gl_net.specs.declared.node.Port.{Port}
use Rattle.gl_net.specs.Net.{Net}
use Rattle.gl_verilog_writer.specs.Pieces.{family_text}
use Rattle.gl_verilog_writer.specs.Comments.{wrapped, byte_text, room_behind, comment_text, last_text, header_from}
use Rattle.gl_verilog_writer.specs.Labelled.{Scheme, name_in, begins_port, family_from, bytes_of, clean, is_name_byte, kept_byte, room_left}
use Rattle.gl_verilog_writer.specs.Printed.{Line, line_text, lines_text, port_text, more_ports_text, head_text, end_text}
use Rattle.gl_verilog_writer.specs.Design.{with_option, numbered, clock_port, items_of, parts_text, text_by, declared_line, driven_line, shown_line, written_port}
use Rattle.gl_verilog_writer.specs.Texts.{PutsHead}

pub lines-first : (o : Option Line) (ls : List Line) → lines_text (with_option o ls) ≡ option_map_or line_text o [] ++ lines_text ls
lines-first None ls = refl
lines-first (Some l) ls = refl

next : {A : Type 0} (f : ℕ → A → Option Line) (xs : List A) (at : ℕ) (d : A) → at < length xs → lines_text (numbered f at (drop at xs)) ≡ option_map_or line_text (f at (get_or xs at d)) [] ++ lines_text (numbered f (at + 1) (drop (at + 1) xs))
next f xs at d lt = rw (drop-cons xs at d lt, add-one) (lines-first (f at (get_or xs at d)) (numbered f (suc at) (drop (suc at) xs)))

-- what is written for the elements from a place on
pub declarations_next : (names : Scheme) (xs : List Node) (at : ℕ) (d : Node) → at < length xs → lines_text (numbered (declared_line names) at (drop at xs)) ≡ option_map_or line_text (declared_line names at (get_or xs at d)) [] ++ lines_text (numbered (declared_line names) (at + 1) (drop (at + 1) xs))
declarations_next names xs at d lt = next (declared_line names) xs at d lt

pub drivers_next : (names : Scheme) (ports : List Port) (xs : List Node) (at : ℕ) (d : Node) → at < length xs → lines_text (numbered (driven_line names ports) at (drop at xs)) ≡ option_map_or line_text (driven_line names ports at (get_or xs at d)) [] ++ lines_text (numbered (driven_line names ports) (at + 1) (drop (at + 1) xs))
drivers_next names ports xs at d lt = next (driven_line names ports) xs at d lt

pub outputs_next : (names : Scheme) (xs : List Port) (at : ℕ) (d : Port) → at < length xs → lines_text (numbered (shown_line names) at (drop at xs)) ≡ option_map_or line_text (shown_line names at (get_or xs at d)) [] ++ lines_text (numbered (shown_line names) (at + 1) (drop (at + 1) xs))
outputs_next names xs at d lt = next (shown_line names) xs at d lt

-- the bytes of a label from a place on, and those of a comment
pub clean_next : (room : ℕ) (xs : List ℕ) (at d : ℕ) → at < length xs → clean room (drop at xs) ≡ kept_byte room (get_or xs at d) ++ clean (room_left room (get_or xs at d)) (drop (at + 1) xs)
clean_next room xs at d lt = rw (drop-cons xs at d lt, add-one) refl

-- a short label of name bytes alone is itself
pub clean_same : (room : ℕ) (w : List ℕ) → length w ≤ room → list_all is_name_byte w ≡ true → clean room w ≡ w
clean_same room [] h all = refl
clean_same zero (b ∷ w) h all = absurd (omega (arith, h))
clean_same (suc room) (b ∷ w) h all =
    let p = and_parts (is_name_byte b) (list_all is_name_byte w) all in
    let some = lt-ltb 0 (suc room) (omega arith) in
    let s : suc room - 1 ≡ room = omega arith in
    rw (p.0, some, s) (ap (λ (bs : List ℕ). b ∷ bs) (clean_same room w (omega (arith, h)) p.1))

pub wrapped_next : (front : List ℕ) (room : ℕ) (xs : List ℕ) (at d : ℕ) → at < length xs → wrapped front room (drop at xs) ≡ byte_text front room (get_or xs at d) ++ wrapped front (room_behind room (get_or xs at d)) (drop (at + 1) xs)
wrapped_next front room xs at d lt = rw (drop-cons xs at d lt, add-one) refl

-- the lines of a header from a place on, where the first has room and where it has none
header-next : (room : ℕ) (xs : List (Vec ℕ Global)) (at : ℕ) (d : Vec ℕ Global) → at < length xs → header_from room (map bytes_of (drop at xs)) ≡ (if nat_le 5 room && nat_le (length (get_or xs at d).items) (room - 5) then comment_text [] (get_or xs at d).items ++ header_from (room - 5 - length (get_or xs at d).items) (map bytes_of (drop (at + 1) xs)) else last_text room (get_or xs at d).items)
header-next room xs at d lt = rw (drop-cons xs at d lt, add-one) refl

pub header_next : (room : ℕ) (xs : List (Vec ℕ Global)) (at : ℕ) (d : Vec ℕ Global) → at < length xs → 5 ≤ room → length (get_or xs at d).items ≤ room - 5 → header_from room (map bytes_of (drop at xs)) ≡ comment_text [] (get_or xs at d).items ++ header_from (room - 5 - length (get_or xs at d).items) (map bytes_of (drop (at + 1) xs))
header_next room xs at d lt h k =
    let e : nat_le 5 room ≡ true = le-leb 5 room h in
    let f : nat_le (length (get_or xs at d).items) (room - 5) ≡ true = le-leb (length (get_or xs at d).items) (room - 5) k in
    header-next room xs at d lt ∙ rw (e, f) refl

pub header_small : (room : ℕ) (xs : List (Vec ℕ Global)) (at : ℕ) (d : Vec ℕ Global) → at < length xs → room < 5 → header_from room (map bytes_of (drop at xs)) ≡ last_text room (get_or xs at d).items
header_small room xs at d lt h = let e : nat_le 5 room ≡ false = lt-leb 5 room h in header-next room xs at d lt ∙ rw e refl

pub header_long : (room : ℕ) (xs : List (Vec ℕ Global)) (at : ℕ) (d : Vec ℕ Global) → at < length xs → 5 ≤ room → room - 5 < length (get_or xs at d).items → header_from room (map bytes_of (drop at xs)) ≡ last_text room (get_or xs at d).items
header_long room xs at d lt h k =
    let e : nat_le 5 room ≡ true = le-leb 5 room h in
    let f : nat_le (length (get_or xs at d).items) (room - 5) ≡ false = lt-leb (length (get_or xs at d).items) (room - 5) k in
    header-next room xs at d lt ∙ rw (e, f) refl

pub ports_next : (nodes : List Node) (xs : List Port) (at : ℕ) (d : Port) → at < length xs → more_ports_text (map (written_port nodes) (drop at xs)) ≡ (codes "," ++ port_text (written_port nodes (get_or xs at d))) ++ more_ports_text (map (written_port nodes) (drop (at + 1) xs))
ports_next nodes xs at d lt = rw (drop-cons xs at d lt, add-one) (sym (append_assoc (codes ",") (port_text (written_port nodes (get_or xs at d))) (more_ports_text (map (written_port nodes) (drop (suc at) xs)))))

-- the search for a free names
pub family_next : (ports : List Port) (n at : ℕ) → at < n → begins_port ports (family_text at) ≡ true → family_from ports (n - at) at ≡ family_from ports (n - (at + 1)) (at + 1)
family_next ports n at lt h = let e : n - at ≡ suc (n - (at + 1)) = omega arith in rw (e, h) refl

pub family_found : (ports : List Port) (n at : ℕ) → at < n → begins_port ports (family_text at) ≡ false → family_from ports (n - at) at ≡ at
family_found ports n at lt h = let e : n - at ≡ suc (n - (at + 1)) = omega arith in rw (e, h) refl

pub family_last : (ports : List Port) (n : ℕ) → family_from ports (n - n) n ≡ n
family_last ports n = let e : n - n ≡ 0 = omega arith in rw e refl

pub ruleset loop_steps = (declarations_next, drivers_next, outputs_next, ports_next, clean_next, wrapped_next, header_next, header_small, header_long, family_next, family_found, family_last)

-- one piece behind another
pub joined : (a b c t u : List ℕ) → b ≡ a ++ t → c ≡ b ++ u → c ≡ a ++ (t ++ u)
joined a b c t u e f = f ∙ ap (λ (w : List ℕ). w ++ u) e ∙ append_assoc a t u

-- a head, the parts and the end are the module's text
pub text-put : (net : Net) (scheme : Scheme) (name : List ℕ) (nodes : List Node) (ports : List Port) (a b d e : List ℕ) → net.name ≡ Some name → nodes ≡ net.nodes → ports ≡ net.ports
    → PutsHead a b name nodes ports → d ≡ b ++ parts_text scheme nodes ports → e ≡ d ++ end_text → e ≡ a ++ text_by scheme net
unfolding text_by
text-put net scheme name nodes ports a b d e n x p h f g =
    let items = items_of (name_in scheme) net.nodes net.ports in
    let whole : List ℕ → List Node → List Port → List ℕ = λ m xs qs. a ++ (head_text (record { name = m; ports = clock_port ∷ map (written_port xs) qs; items = items }) ++ parts_text scheme xs qs ++ end_text) in
    joined a d e _ end_text (joined a b d _ (parts_text scheme nodes ports) (h items) f) g
    ∙ ap (λ (m : List ℕ). whole m nodes ports) (sym (ap (λ (o : Option (List ℕ)). unwrap_or o []) n))
    ∙ ap (λ (xs : List Node). whole (unwrap_or net.name []) xs ports) x
    ∙ ap (λ (qs : List Port). whole (unwrap_or net.name []) net.nodes qs) p
