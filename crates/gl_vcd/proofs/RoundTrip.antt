-- What is written of a run is a dump of that run, and shows its lines.
use Rattle.std.proofs.Common.{◌≡◌, ℕ, zero, suc, ◌+◌, ◌^◌, ◌<◌, ◌≤◌, Bool, true, false, not, ◌&&◌, List, [], ◌∷◌, ◌++◌, length, map, Option, Some, None, Ok, refl, sym, ap, subst, ◌∙◌, append-nil, arith, add-one, ne_eqb}
use Rattle.std.specs.Prelude.{bytes_eq, nat_eq, option_map, slice_get, unwrap_or, ◌==◌, if◌then◌else◌}
use Rattle.std.specs.List.{AllByRecursion}
use Rattle.std.proofs.Math.Nat.{pow-le-pow_right}
use Rattle.std.proofs.lemmas.Bool.{and_left, cond-false, cond-true}
use Rattle.gl_bits.specs.Words.{IsWord, Word}
use Rattle.gl_bits.proofs.AllLists.{all_at, get_below, get_mapped, get_there, get_unmapped, length_map}
use Rattle.gl_bits.proofs.Bools.{bytes_own}
use Rattle.gl_bits.proofs.Options.{some_same}
use Rattle.gl_bits.proofs.Places.{place_step}
use Rattle.gl_schema.specs.Ports.{PortValues, fault_group, fault_queue, out_eos, out_valid}
use Rattle.gl_schema.specs.Seen as seen
use Rattle.gl_schema.specs.Seen.{Shown, is_high, lines, row_shown, shown}
use Rattle.gl_vcd.specs.Dumped.{Port, port_of}
use Rattle.gl_vcd.specs.Reading.{Changes, dump_from, dump_of, end_of, start}
use Rattle.gl_vcd.specs.RoundTrip.{AreApart, CanDump, DumpsReadBack, IsRow, IsRunOver, lines_over, names_of, signal_at, signals_from, value_named}
use Rattle.gl_vcd.specs.Signals.{Change, Dump, Signal, all_given, columns_of, kind_of, lines_of, number_of_name, ports_of, seen_below, value_at, value_of}
use Rattle.gl_vcd.specs.Tokens.{tokens_from, tokens_of}
use Rattle.gl_vcd.specs.Written.{cycles, dump_text, header}
use Rattle.gl_vcd.proofs.Bytes.{Reads, reads_then}
use Rattle.gl_vcd.proofs.Declarations.{read_header}
use Rattle.gl_vcd.proofs.Numbered.{code_found, names_differ, signal_there}
use Rattle.gl_vcd.proofs.Rows.{AllTaken, RowsTaken, Takes, changing, read_rows}
use Rattle.gl_vcd.proofs.Values.{AreLong, changes_of, given_rows}

-- ---- rows of ports are taken by their signals

count_signals : (i : ℕ) (ps : List Port) → length (signals_from i ps) ≡ length ps
count_signals i [] = refl
count_signals i (p ∷ ps) = ap suc (count_signals (i + 1) ps)

row_long : (ports : List Port) (row : List Word) → IsRow ports row → length row ≡ length ports
row_long ports row is = sym (length_map (λ (w : Word). w.width) row) ∙ ap length is.widths ∙ length_map (λ (p : Port). p.width) ports

taken_at : (ports : List Port) (row : List Word) (k : ℕ) (w : Word) → IsRow ports row → slice_get row k ≡ Some w → Takes (signals_from 0 ports) k w
taken_at ports row k w is at =
    let width : slice_get (map (λ (p : Port). p.width) ports) k ≡ Some w.width = ap (λ (ws : List ℕ). slice_get ws k) (sym is.widths) ∙ get_mapped (λ (x : Word). x.width) row k w at in
    let port = get_unmapped (λ (p : Port). p.width) ports k w.width width in
    let word : IsWord w = all_at IsWord row k w at is.words in
    let below : k < length ports = get_below ports k port.0 port.1 in
    let least : 2 ^ w.width ≤ 2 ^ 128 = pow-le-pow_right {n = 2} (omega arith) {i = w.width} {j = 128} word.width.most in
    record {
      signal = signal_at (0 + k) port.0;
      found = code_found 0 k k ports below (let e : k ≡ 0 + k = omega arith in e);
      there = signal_there 0 k ports port.0 port.1;
      fits' = subst (λ (n : ℕ). w.bits < 2 ^ n) (sym port.2) word.fits;
      narrow = λ one. subst (λ (n : ℕ). w.bits < 2 ^ n) one word.fits;
      small = omega (arith, word.fits, least);
    }

all_taken : (signals : List Signal) (i : ℕ) (ws : List Word) → ((k : ℕ) (w : Word) → slice_get ws k ≡ Some w → Takes signals (i + k) w) → AllTaken signals i ws
all_taken signals i [] h = tt
all_taken signals i (w ∷ ws) h = (
  subst (λ (n : ℕ). Takes signals n w) (let e : i + 0 ≡ i = omega arith in e) (h 0 w refl),
  all_taken signals (i + 1) ws (λ k v at. subst (λ (n : ℕ). Takes signals n v) (let e : i + suc k ≡ i + 1 + k = omega arith in e) (h (suc k) v at)),
)

row_taken : (ports : List Port) (row : List Word) → IsRow ports row → AllTaken (signals_from 0 ports) 0 row
row_taken ports row is = all_taken (signals_from 0 ports) 0 row (λ k w at. subst (λ (n : ℕ). Takes (signals_from 0 ports) n w) (let e : k ≡ 0 + k = omega arith in e) (taken_at ports row k w is at))

rows_taken : (ports : List Port) (rows : List (List Word)) → AllByRecursion (IsRow ports) rows → RowsTaken (signals_from 0 ports) rows
rows_taken ports [] are = tt
rows_taken ports (row ∷ rows) are = (row_taken ports row are.0, rows_taken ports rows are.1)

rows_long : (ports : List Port) (rows : List (List Word)) → AllByRecursion (IsRow ports) rows → AreLong (length ports) rows
rows_long ports [] are = tt
rows_long ports (row ∷ rows) are = (row_long ports row are.0, rows_long ports rows are.1)

-- ---- what the text tells

abbrev told : List Port → List (List Word) → Dump
told ports rows = record { signals = signals_from 0 ports; changes = changes_of 0 None rows; last = length rows }

-- behind a time that is not the first nothing is lacking
ended : (signals : List Signal) (cs : List Change) (n len : ℕ) → end_of (changing signals (Some (suc n)) cs Changes) len ≡ Ok (record { signals = signals; changes = cs; last = suc n })
unfolding end_of
ended signals cs n len =
    cond-false (nat_eq (suc n) 0 && not (all_given cs (length signals))) _ _
    (and_left (nat_eq (suc n) 0) (not (all_given cs (length signals))) (ne_eqb (suc n) 0 (λ e. omega (arith, e))))

read_all : (name : List ℕ) (ports : List Port) (row : List Word) (rows : List (List Word)) → CanDump name ports (row ∷ rows) → dump_of (dump_text name ports (row ∷ rows)) ≡ Ok (told ports (row ∷ rows))
unfolding dump_of tokens_of dump_text
read_all name ports row rows can =
    let text = header name ports ++ cycles 0 None (row ∷ rows) in
    let signals = signals_from 0 ports in
    let last = changing signals (Some (length (row ∷ rows))) (changes_of 0 None (row ∷ rows)) Changes in
    let long : length row ≡ length signals = row_long ports row can.rows'.0 ∙ sym (count_signals 0 ports) in
    let all : Reads start text last =
    reads_then start (changing signals None [] Changes) last (header name ports) (cycles 0 None (row ∷ rows))
    (read_header name ports can.named can.names can.apart can.widths can.shows)
    (read_rows signals row rows (row_taken ports row can.rows'.0) (rows_taken ports rows can.rows'.1) long can.short) in
    ap (λ (bytes : List ℕ). dump_from (length text) (tokens_from None 0 bytes) start) (sym (append-nil text))
    ∙ all.goes (length text) 0 []
    ∙ ended signals (changes_of 0 None (row ∷ rows)) (length rows) (length text)

-- ---- the values of ports

-- in the time of a row each signal has its word
value_is : (ports : List Port) (rows : List (List Word)) (n i : ℕ) (row : List Word) (w : Word) → AllByRecursion (IsRow ports) rows → slice_get rows n ≡ Some row → slice_get row i ≡ Some w
    → value_at (changes_of 0 None rows) i n ≡ Some w.bits
unfolding value_at
value_is ports rows n i row w are at here =
    let long : length row ≡ length ports = row_long ports row (all_at (IsRow ports) rows n row at are) in
    let below : i < length ports = (let l = get_below row i w here in omega (arith, l, long)) in
    given_rows None 0 None rows (length ports) i n n row w (rows_long ports rows are) below tt at (let e : n ≡ 0 + n = omega arith in e) here

abbrev look : (ℕ → Option ℕ) → Option ℕ → Option ℕ
look f None = None
look f (Some i) = f i

look_on : (f : ℕ → Option ℕ) (o : Option ℕ) → look f (option_map (λ m. m + 1) o) ≡ look (λ i. f (i + 1)) o
look_on f None = refl
look_on f (Some i) = refl

look_value : (dump : Dump) (n : ℕ) (o : Option ℕ) → value_of dump n o ≡ look (λ i. value_at dump.changes i n) o
look_value dump n None = refl
look_value dump n (Some i) = refl

-- the signal of a name has the value of the port of that name
look_named : (f : ℕ → Option ℕ) (j : ℕ) (ports : List Port) (row : List Word) (name : List ℕ) → length row ≡ length ports
    → ((i : ℕ) (w : Word) → slice_get row i ≡ Some w → f i ≡ Some w.bits) → look f (number_of_name (signals_from j ports) name) ≡ value_named ports row name
look_named f j [] [] name long is = refl
look_named f j [] (w ∷ row) name long is = absurd cc
look_named f j (p ∷ ports) [] name long is = absurd cc
look_named f j (p ∷ ports) (w ∷ row) name long is =
    ap (look f) (place_step (λ (s : Signal). bytes_eq s.name name) (signal_at j p) (signals_from (j + 1) ports))
    ∙ by (bytes_eq p.name name)
    (look_named (λ i. f (i + 1)) (j + 1) ports row name (omega (arith, long)) (λ i v at. is (i + 1) v (ap (slice_get (w ∷ row)) (add-one i) ∙ at)))
  where
    by : (b : Bool) → look (λ i. f (i + 1)) (number_of_name (signals_from (j + 1) ports) name) ≡ value_named ports row name
        → look f (if b then Some 0 else option_map (λ m. m + 1) (number_of_name (signals_from (j + 1) ports) name)) ≡ (if b then Some w.bits else value_named ports row name)
    by true rest = is 0 w refl
    by false rest = look_on f (number_of_name (signals_from (j + 1) ports) name) ∙ rest

-- a port that no other has the name of
value_there : (ports : List Port) (row : List Word) (i : ℕ) (p : Port) (w : Word) → AreApart (names_of ports) → slice_get ports i ≡ Some p → slice_get row i ≡ Some w → value_named ports row p.name ≡ Some w.bits
value_there [] row i p w apart at here = absurd cc
value_there (q ∷ ports) [] i p w apart at here = absurd cc
value_there (q ∷ ports) (v ∷ row) zero p w apart at here =
    let port : q ≡ p = some_same q p at in
    let word : v ≡ w = some_same v w here in
    cond-true (bytes_eq q.name p.name) (Some v.bits) (value_named ports row p.name) (ap (λ (x : Port). bytes_eq x.name p.name) port ∙ bytes_own p.name) ∙ ap (λ (x : Word). Some x.bits) word
value_there (q ∷ ports) (v ∷ row) (suc i) p w apart at here =
    cond-false (bytes_eq q.name p.name) (Some v.bits) (value_named ports row p.name) (names_differ q p ports i apart at) ∙ value_there ports row i p w apart.1 at here

-- ---- the run and what the text tells of it

same_ports : (ports : List Port) (rows : List (List Word)) (run : PortValues) → AllByRecursion (IsRow ports) rows → IsRunOver ports rows run
    → (n : ℕ) → n < length rows → (name : List ℕ) → ports_of (told ports rows) (suc n) name ≡ run (suc n) name
same_ports ports rows run are over n lt name =
    let row = get_there rows n lt in
    look_value (told ports rows) n (number_of_name (signals_from 0 ports) name)
    ∙ look_named (λ i. value_at (changes_of 0 None rows) i n) 0 ports row.0 name (row_long ports row.0 (all_at (IsRow ports) rows n row.0 row.1 are))
    (λ i w at. value_is ports rows n i row.0 w are row.1 at)
    ∙ sym (over n row.0 row.1 name)

ports_back : (i : ℕ) (ports : List Port) → map port_of (signals_from i ports) ≡ ports
ports_back i [] = refl
ports_back i (p ∷ ports) = ap (λ (ps : List Port). p ∷ ps) (ports_back (i + 1) ports)

port_there : (j : ℕ) (ports : List Port) (i : ℕ) (s : Signal) → slice_get (signals_from j ports) i ≡ Some s → (p : Port) × (slice_get ports i ≡ Some p) × (s.name ≡ p.name)
port_there j [] i s at = absurd cc
port_there j (p ∷ ports) zero s at = let same : signal_at j p ≡ s = some_same (signal_at j p) s at in (p, refl, sym (ap (λ (x : Signal). x.name) same))
port_there j (p ∷ ports) (suc i) s at = port_there (j + 1) ports i s at

values_told : (ports : List Port) (rows : List (List Word)) (run : PortValues) → AreApart (names_of ports) → AllByRecursion (IsRow ports) rows → IsRunOver ports rows run
    → (n i : ℕ) (s : Signal) → n < length rows → slice_get (signals_from 0 ports) i ≡ Some s → run (suc n) s.name ≡ value_at (changes_of 0 None rows) i n
values_told ports rows run apart are over n i s lt at =
    let row = get_there rows n lt in
    let port = port_there 0 ports i s at in
    let long : length row.0 ≡ length ports = row_long ports row.0 (all_at (IsRow ports) rows n row.0 row.1 are) in
    let below = get_below ports i port.0 port.1 in
    let word = get_there row.0 i (omega (arith, below, long)) in
    over n row.0 row.1 s.name
    ∙ ap (value_named ports row.0) port.2
    ∙ value_there ports row.0 i port.0 word.0 apart port.1 word.1
    ∙ sym (value_is ports rows n i row.0 word.0 are row.1 word.1)

-- ---- the lines

same_values : (p q : PortValues) (t : ℕ) (names : List (List ℕ)) → ((name : List ℕ) → p t name ≡ q t name) → map (seen.value_at p t) names ≡ map (seen.value_at q t) names
same_values p q t [] same = refl
same_values p q t (name ∷ names) same =
    ap (λ (o : Option ℕ). unwrap_or o 0 ∷ map (seen.value_at p t) names) (same name) ∙ ap (λ (vs : List ℕ). unwrap_or (q t name) 0 ∷ vs) (same_values p q t names same)

same_line : (p q : PortValues) (t : ℕ) (name : List ℕ) → p t name ≡ q t name → is_high p t name ≡ is_high q t name
same_line p q t name same = ap (λ (o : Option ℕ). unwrap_or o 0 == 1) same

abbrev shown_of : ℕ → Option (List ℕ) → Bool → Bool → Bool → Shown
shown_of n row end' group queue = record { cycle = n; row = row; end = end'; group = group; queue = queue }

pub same_shown : (p q : PortValues) (outs : List (List ℕ)) (n : ℕ) → ((name : List ℕ) → p (suc n) name ≡ q (suc n) name) → shown p outs n ≡ shown q outs n
unfolding shown
same_shown p q outs n same =
    let valid = same_line p q (suc n) out_valid (same out_valid) in
    let row : row_shown p outs (suc n) ≡ row_shown q outs (suc n) =
    ap (λ (b : Bool). if b then Some (map (seen.value_at p (suc n)) outs) else None) valid
    ∙ ap (λ (vs : List ℕ). if is_high q (suc n) out_valid then Some vs else None) (same_values p q (suc n) outs same) in
    let end' = same_line p q (suc n) out_eos (same out_eos) in
    let group = same_line p q (suc n) fault_group (same fault_group) in
    let queue = same_line p q (suc n) fault_queue (same fault_queue) in
    ap (λ (x : Option (List ℕ)). shown_of n x (is_high p (suc n) out_eos) (is_high p (suc n) fault_group) (is_high p (suc n) fault_queue)) row
    ∙ ap (λ (x : Bool). shown_of n (row_shown q outs (suc n)) x (is_high p (suc n) fault_group) (is_high p (suc n) fault_queue)) end'
    ∙ ap (λ (x : Bool). shown_of n (row_shown q outs (suc n)) (is_high q (suc n) out_eos) x (is_high p (suc n) fault_queue)) group
    ∙ ap (λ (x : Bool). shown_of n (row_shown q outs (suc n)) (is_high q (suc n) out_eos) (is_high q (suc n) fault_group) x) queue

same_seen : (p q : PortValues) (outs : List (List ℕ)) (n : ℕ) → ((k : ℕ) → k ≤ n → (name : List ℕ) → p (suc k) name ≡ q (suc k) name) → seen.seen p outs n ≡ seen.seen q outs n
same_seen p q outs zero same = ap (λ (s : Shown). s ∷ []) (same_shown p q outs 0 (same 0 (omega arith)))
same_seen p q outs (suc n) same =
    ap (λ (all : List Shown). all ++ shown p outs (suc n) ∷ []) (same_seen p q outs n (λ k le. same k (omega (arith, le))))
    ∙ ap (λ (s : Shown). seen.seen q outs n ++ s ∷ []) (same_shown p q outs (suc n) (same (suc n) (omega arith)))

same_below : (p q : PortValues) (outs : List (List ℕ)) (n : ℕ) → ((k : ℕ) → k < n → (name : List ℕ) → p (suc k) name ≡ q (suc k) name) → seen_below p outs n ≡ seen_below q outs n
same_below p q outs zero same = refl
same_below p q outs (suc n) same = same_seen p q outs n (λ k le. same k (omega (arith, le)))

same_lines : (ports : List Port) (rows : List (List Word)) (run : PortValues) → AllByRecursion (IsRow ports) rows → IsRunOver ports rows run → lines_of (told ports rows) ≡ lines_over ports run (length rows)
unfolding lines_of
same_lines ports rows run are over =
    let columns = columns_of (signals_from 0 ports) in
    ap (lines (map kind_of columns)) (same_below (ports_of (told ports rows)) run (map (λ (s : Signal). s.name) columns) (length rows) (same_ports ports rows run are over))

-- ---- both

pub reads_back : DumpsReadBack
reads_back name ports [] run can over = absurd (let some : 1 ≤ 0 = can.some' in omega (arith, some))
reads_back name ports (row ∷ rows) run can over =
    let reads = read_all name ports row rows can in
    record {
      dumped = record {
        dump = told ports (row ∷ rows);
        reads = reads;
        declares = ports_back 0 ports;
        lasts = refl;
        values = values_told ports (row ∷ rows) run can.apart can.rows' over;
      };
      shows = record {
        dump = told ports (row ∷ rows);
        reads = reads;
        is = same_lines ports (row ∷ rows) run can.rows' over;
      };
    }
