-- Of a result that stands beside others: where it is shown, what is read there, and what is written of it.
use Rattle.std.proofs.Common.{◌≡◌, ℕ, suc, ◌+◌, ◌<◌, ◌≤◌, ◌^◌, Bool, true, false, ◌||◌, ◌&&◌, not, List, [], ◌∷◌, ◌++◌, Option, None, Some, Result, map, refl, sym, ap, ◌∙◌, subst, add-one}
use Rattle.std.specs.Prelude.{bytes_eq, codes, find, nat_le, slice_get, slice_index, unwrap_or, if◌then◌else◌}
use Rattle.std.specs.List.{AllByRecursion, AllZip, flat_map, list_all}
use Rattle.gl_bits.proofs.AllLists.{length_map, map_map}
use Rattle.gl_bits.proofs.Bools.{bytes_same}
use Rattle.gl_values.specs.declared.kind.Kind.{Kind}
use Rattle.gl_values.specs.Kinds.{IsKind, width_of}
use Rattle.gl_bits.specs.Words.{Word, bits_of, widths_of}
use Rattle.gl_outside.specs.States.{Broke, SinkState, Took, Wrote}
use Rattle.gl_outside.proofs.Takes.{broke_more, wrote_then}
use Rattle.gl_schema.specs.declared.schema.Column.{Column}
use Rattle.gl_schema.specs.Ports.{PortValues, fault_group, out_column, out_eos, out_valid}
use Rattle.gl_schema.specs.Schemas.{kinds_of}
use Rattle.gl_schema.specs.Seen.{Shown, shown, value_at}
use Rattle.gl_testbench.specs.Views.{seen_as, within}
use Rattle.gl_sim.specs.Simulation.{Simulation}
use Rattle.gl_verilog.specs.Module.{Declaration, Module, number_of}
use Rattle.gl_verilog.specs.Widths.{is_clock, width_at}
use Rattle.gl_verilog.proofs.Fits.{width_at-found}
use Rattle.gl_verilog_ports.specs.Profile.{ports_of}
use Rattle.gl_verilog_ports.proofs.Declared.{get_take}
use Rattle.gl_verilog_ports.proofs.Fits.{line_named}
use Rattle.gl_tuples.specs.declared.lines.Sample.{Sample}
use Rattle.gl_tuples.specs.Pieces.{line_if, lines_with, row_with, sampled}
use Rattle.gl_testbench.specs.declared.pins.Shows.{Shows}
use Rattle.gl_testbench.specs.Carried.{name_at}
use Rattle.gl_testbench.proofs.Outputs.{output_is_net}
use Rattle.gl_runner.specs.declared.faces.Face.{Face}
use Rattle.gl_runner.specs.declared.naming.NamedResult.{NamedResult}
use Rattle.gl_runner.specs.Cycles.{HasNoOther, HasOnPorts}
use Rattle.gl_runner.specs.Faces.{HasColumn, HasFace}
use Rattle.gl_runner.specs.Naming.{IsNew, ServesFace, StandsNamed, column_at, names_of}
use Rattle.gl_runner.specs.Probes.{IsLineIn, IsPortIn, IsProbe, IsSampled, IsSeen}
use Rattle.gl_runner.specs.Several.{all_ended, ended_before, lines_as, lines_in, outs_of, row_as, shown_by, told_by}
use Rattle.gl_runner.proofs.Probing.{line_high, name_there, row_read}
use Rattle.gl_runner.proofs.Running.{told_more}

-- ---- the ports

-- the number of a declaration that is found by its name
record IsFoundAt (ds : List Declaration) (name : List ℕ) (d : Declaration) : Type 0 where
  place : ℕ
  number : number_of ds name ≡ Some place
  there : slice_get ds place ≡ Some d
  same : bytes_eq d.name name ≡ true

found_at : (ds : List Declaration) (name : List ℕ) (d : Declaration) → find (λ (x : Declaration). bytes_eq x.name name) ds ≡ Some d → IsFoundAt ds name d
found_at [] name d e = absurd cc
found_at (x ∷ ds) name d e = pick (bytes_eq x.name name) refl e (found_at ds name d)
  where
    pick : (b : Bool) → bytes_eq x.name name ≡ b → (if b then Some x else find (λ (y : Declaration). bytes_eq y.name name) ds) ≡ Some d
        → (find (λ (y : Declaration). bytes_eq y.name name) ds ≡ Some d → IsFoundAt ds name d) → IsFoundAt (x ∷ ds) name d
    pick true q h later =
        let is : x ≡ d = cc in
        record { place = 0; number = rw q refl; there = h; same = subst (λ (y : Declaration). bytes_eq y.name name ≡ true) is q }
    pick false q h later =
        let f = later h in
        record { place = f.place + 1; number = rw (q, f.number) refl; there = rw (add-one f.place) f.there; same = f.same }

-- no such name is the clock's
column_is_no_clock : (result column : List ℕ) → bytes_eq (within result (out_column column)) (codes "clk") ≡ false
unfolding out_column
column_is_no_clock result column = refl

-- the port of a column
record IsColumnAt (m : Module) (result : List ℕ) (c : Column) (k : ℕ) : Type 0 where
  there : IsPortIn m k
  called : name_at m.declarations k ≡ within result (out_column c.name)
  wide : width_at m.declarations k ≡ width_of c.kind

column_there : (m : Module) (result : List ℕ) (c : Column) → HasColumn m result c → IsColumnAt m result c (column_at m result c)
column_there m result c has =
    let f = found_at (ports_of m) (within result (out_column c.name)) has.port has.there in
    let declared = get_take m.ports m.declarations f.place has.port f.there in
    let name : has.port.name ≡ within result (out_column c.name) = bytes_same has.port.name (within result (out_column c.name)) f.same in
    let clock : is_clock has.port ≡ false = subst (λ (x : List ℕ). bytes_eq x (codes "clk") ≡ false) (sym name) (column_is_no_clock result c.name) in
    let place : column_at m result c ≡ f.place = ap (λ (o : Option ℕ). unwrap_or o 0) f.number in
    subst (IsColumnAt m result c) (sym place) (record {
      there = record { port = has.port; there = f.there; readable = (output_is_net has.port.kind has.output, clock) };
      called = name_there m.declarations f.place has.port declared ∙ name;
      wide = width_at-found m.declarations f.place has.port declared ∙ has.wide;
    })

columns_there : (m : Module) (result : List ℕ) (cs : List Column) → AllByRecursion (HasColumn m result) cs → AllByRecursion (IsPortIn m) (map (column_at m result) cs)
columns_there m result [] h = tt
columns_there m result (c ∷ cs) h = ((column_there m result c h.0).there, columns_there m result cs h.1)

columns_called : (m : Module) (result : List ℕ) (cs : List Column) → AllByRecursion (HasColumn m result) cs → map (name_at m.declarations) (map (column_at m result) cs) ≡ map (within result) (map (λ (c : Column). out_column c.name) cs)
columns_called m result [] h = refl
columns_called m result (c ∷ cs) h =
    let here : name_at m.declarations (column_at m result c) ≡ within result (out_column c.name) = (column_there m result c h.0).called in
    let rest : map (name_at m.declarations) (map (column_at m result) cs) ≡ map (within result) (map (λ (x : Column). out_column x.name) cs) = columns_called m result cs h.1 in
    cc

columns_wide : (m : Module) (result : List ℕ) (cs : List Column) → AllByRecursion (HasColumn m result) cs → map (width_at m.declarations) (map (column_at m result) cs) ≡ map width_of (kinds_of cs)
columns_wide m result [] h = refl
columns_wide m result (c ∷ cs) h =
    let here : width_at m.declarations (column_at m result c) ≡ width_of c.kind = (column_there m result c h.0).wide in
    let rest : map (width_at m.declarations) (map (column_at m result) cs) ≡ map width_of (kinds_of cs) = columns_wide m result cs h.1 in
    cc

pub kinds_are : (cs : List Column) → AllByRecursion (λ (c : Column). IsKind c.kind) cs → AllByRecursion IsKind (kinds_of cs)
kinds_are [] h = tt
kinds_are (c ∷ cs) h = (h.0, kinds_are cs h.1)

valid_line : (m : Module) (f : Face) → HasFace m f → IsLineIn m (within f.name out_valid)
unfolding out_valid
valid_line m f has = record { other = refl; line = line_named m (within f.name out_valid) has.valid }

end_line : (m : Module) (f : Face) → HasFace m f → IsLineIn m (within f.name out_eos)
unfolding out_eos
end_line m f has = record { other = refl; line = line_named m (within f.name out_eos) has.end }

group_line : (m : Module) (f : Face) → HasFace m f → IsLineIn m (within f.name fault_group)
unfolding fault_group
group_line m f has = record { other = refl; line = has.group }

serves_one : (m : Module) (f : Face) (r : NamedResult) → HasFace m f → IsNew m f r → ServesFace m f r
serves_one m f r has is =
    record {
      kinds' = is.kinds';
      probe = subst (λ (ks : List Kind). IsProbe m (names_of f) ks r.shows r.row) (sym is.kinds') (record {
        valid' = is.shows'.valid';
        end' = is.shows'.end';
        group' = is.shows'.group';
        valid_line = valid_line m f has;
        end_line = end_line m f has;
        group_line = group_line m f has;
        columns' = subst (AllByRecursion (IsPortIn m)) (sym is.shows'.columns') (columns_there m f.name f.columns has.columns');
        named' = ap (map (name_at m.declarations)) is.shows'.columns' ∙ columns_called m f.name f.columns has.columns';
        wide' = ap (map (width_at m.declarations)) is.shows'.columns' ∙ columns_wide m f.name f.columns has.columns';
        row' = is.row';
        many = subst (λ (n : ℕ). n ≤ 32) (sym (length_map (λ (c : Column). c.kind) f.columns)) has.many;
        kinds' = kinds_are f.columns has.kinds;
      });
    }

-- ---- in front of the first cycle

-- one more of each
pub zip_push : {A B : Type 0} (R : A → B → Type 0) (xs : List A) (ys : List B) (x : A) (y : B) → AllZip R xs ys → R x y → AllZip R (xs ++ x ∷ []) (ys ++ y ∷ [])
zip_push R [] [] x y h is = (is, tt)
zip_push R [] (b ∷ ys) x y h is = absurd h
zip_push R (a ∷ xs) [] x y h is = absurd h
zip_push R (a ∷ xs) (b ∷ ys) x y h is = (h.0, zip_push R xs ys x y h.1 is)

pub serves_new : (m : Module) (fs : List Face) (rs : List NamedResult) → AllByRecursion (HasFace m) fs → AllZip (IsNew m) fs rs → AllZip (ServesFace m) fs rs
serves_new m [] [] has h = tt
serves_new m [] (r ∷ rs) has h = absurd h
serves_new m (f ∷ fs) [] has h = absurd h
serves_new m (f ∷ fs) (r ∷ rs) has h = (serves_one m f r has.0 h.0, serves_new m fs rs has.1 h.1)

pub stands_new : (m : Module) (last : ℕ) (port : PortValues) (fs : List Face) (rs : List NamedResult) → AllZip (IsNew m) fs rs → AllZip (StandsNamed last port 0) fs rs
stands_new m last port [] [] h = tt
stands_new m last port [] (r ∷ rs) h = absurd h
stands_new m last port (f ∷ fs) [] h = absurd h
stands_new m last port (f ∷ fs) (r ∷ rs) h = (record { told' = h.0.told'; ended' = h.0.ended' }, stands_new m last port fs rs h.1)

-- ---- a cycle

pub seen_named : (m : Module) (s : Simulation) (port : PortValues) (t : ℕ) (f : Face) (kinds : List Kind) (shows : Shows) (columns : List ℕ) (old new : List Word) (sample : Sample) → HasOnPorts m s port t → HasNoOther m port t → IsProbe m (names_of f) kinds shows old → IsSampled s.shown shows sample → columns ≡ shows.columns.items
    → (AllZip (λ n width. slice_index s.shown n < 2 ^ width) columns (widths_of old) → bits_of new ≡ map (slice_index s.shown) columns) → IsSeen (seen_as f.name port) (outs_of f) t sample (bits_of new)
seen_named m s port t f kinds shows columns old new sample have none p is same set = record {
  valid' = line_high m s port t (within f.name out_valid) shows.valid sample.valid have none p.valid_line p.valid' is.valid';
  end' = line_high m s port t (within f.name out_eos) shows.end sample.end have none p.end_line p.end' is.end';
  group' = line_high m s port t (within f.name fault_group) shows.group sample.group have none p.group_line p.group' is.group';
  row' = row_read m s port t (names_of f) kinds shows columns old new have p same set ∙ map_map (value_at port t) (within f.name) (outs_of f);
}

lines_same : (name : List ℕ) (kinds : List Kind) (told : Bool) (a b : Shown) → a.cycle ≡ b.cycle → a.row ≡ b.row → a.end ≡ b.end → a.group ≡ b.group → lines_as name kinds told a ≡ lines_as name kinds told b
lines_same name kinds told a b cycle row ends group = rw (cycle, row, ends, group) refl

row_named : (name : List ℕ) (kinds : List Kind) (n : ℕ) (row : Option (List ℕ)) → row_with (Some name) kinds n row ≡ row_as name kinds n row
row_named name kinds n None = refl
row_named name kinds n (Some row) = refl

-- the lines that are printed with a name are those of a result that stands beside others
pub lines_as_named : (name : List ℕ) (kinds : List Kind) (told : Bool) (s : Shown) → lines_with (Some name) kinds told s ≡ lines_as name kinds told s
lines_as_named name kinds told s =
    ap (λ (x : List ℕ). line_if (s.group && not told) (Some name) s.cycle (codes ",overflow\n") ++ (x ++ line_if s.end (Some name) s.cycle (codes ",end\n")))
    (row_named name kinds s.cycle s.row)

-- the lines of what was sampled are those of what is shown
pub lines_named : (f : Face) (port : PortValues) (n : ℕ) (name : List ℕ) (kinds : List Kind) (told : Bool) (sample : Sample) (row : List ℕ) → name ≡ f.name → kinds ≡ kinds_of f.columns → told ≡ told_by f port n → IsSeen (seen_as f.name port) (outs_of f) (suc n) sample row → lines_as name kinds told (sampled sample n row) ≡ lines_in port n f
unfolding shown
lines_named f port n name kinds told sample row same alike before is =
    ap (λ (x : List ℕ). lines_as x kinds told (sampled sample n row)) same
    ∙ ap (λ (x : List Kind). lines_as f.name x told (sampled sample n row)) alike
    ∙ ap (λ (x : Bool). lines_as f.name (kinds_of f.columns) x (sampled sample n row)) before
    ∙ lines_same f.name (kinds_of f.columns) (told_by f port n) (sampled sample n row) (shown_by f port n) refl (rw (is.valid', is.row') refl) is.end' is.group'

-- what is known behind it
pub stands_behind : (last : ℕ) (port : PortValues) (n : ℕ) (f : Face) (old new : NamedResult) (group ends late : Bool) → StandsNamed last port n f old → new.told ≡ (old.told || group) → new.ended ≡ (old.ended || late) → late ≡ (nat_le last n && ends)
    → group ≡ (shown_by f port n).group → ends ≡ (shown_by f port n).end → StandsNamed last port (n + 1) f new
stands_behind last port n f old new group ends late before told ended is group' ends' =
    let next : n + 1 ≡ suc n = add-one n in
    record {
      told' = told ∙ told_more old.told (seen_as f.name port) (outs_of f) n group before.told' group';
      ended' = ended ∙ ap (λ (b : Bool). b || late) before.ended' ∙ ap (λ (b : Bool). ended_before last (λ k. (shown_by f port k).end) n || b) (is ∙ ap (λ (b : Bool). nat_le last n && b) ends')
          ∙ ap (ended_before last (λ k. (shown_by f port k).end)) (sym next);
    }

-- nothing more is waited for where the end of each was seen
pub all_over : (last : ℕ) (port : PortValues) (n : ℕ) (fs : List Face) (rs : List NamedResult) → AllZip (StandsNamed last port (n + 1)) fs rs → list_all (λ (r : NamedResult). r.ended) rs ≡ all_ended fs last port n
all_over last port n [] [] h = refl
all_over last port n [] (r ∷ rs) h = absurd h
all_over last port n (f ∷ fs) [] h = absurd h
all_over last port n (f ∷ fs) (r ∷ rs) h =
    let next : n + 1 ≡ suc n = add-one n in
    let here : r.ended ≡ ended_before last (λ k. (shown_by f port k).end) (suc n) = h.0.ended' ∙ ap (ended_before last (λ k. (shown_by f port k).end)) next in
    let rest : list_all (λ (x : NamedResult). x.ended) rs ≡ all_ended fs last port n = all_over last port n fs rs h.1 in
    ap (λ (b : Bool). b && list_all (λ (x : NamedResult). x.ended) rs) here ∙ ap (λ (b : Bool). ended_before last (λ k. (shown_by f port k).end) (suc n) && b) rest

-- ---- one behind the other

-- of the first and of the others
pub zip_parts : {A B : Type 0} (R : A → B → Type 0) (xs xs' : List A) (ys ys' : List B) (x : A) (y : B) → xs ≡ x ∷ xs' → ys ≡ y ∷ ys' → AllZip R xs ys → R x y × AllZip R xs' ys'
zip_parts {A} {B} R xs xs' ys ys' x y p q h = subst (λ (s : List A). AllZip R s (y ∷ ys')) p (subst (AllZip R xs) q h)

-- the sink failed in the lines of the first
pub first_broke : (port : PortValues) (n : ℕ) (fs others : List Face) (f : Face) (a b : SinkState) → fs ≡ f ∷ others → Broke a b (lines_in port n f) → Broke a b (flat_map (lines_in port n) fs)
first_broke port n fs others f a b same broke =
    subst (λ (x : List Face). Broke a b (flat_map (lines_in port n) x)) (sym same) (broke_more a b (lines_in port n f) (flat_map (lines_in port n) others) broke)

-- and what was written of the others behind it
pub others_wrote : {E : Type 0} (port : PortValues) (n : ℕ) (fs others : List Face) (f : Face) (a b c : SinkState) (r : Result (Unit {0}) E) → fs ≡ f ∷ others → Took a b (lines_in port n f) → Wrote b c (flat_map (lines_in port n) others) r → Wrote a c (flat_map (lines_in port n) fs) r
others_wrote port n fs others f a b c r same took wrote =
    subst (λ (x : List Face). Wrote a c (flat_map (lines_in port n) x) r) (sym same) (wrote_then a b c (lines_in port n f) (flat_map (lines_in port n) others) r took wrote)
