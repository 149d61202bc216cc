use Rattle.std.proofs.Common.{◌≡◌, ◌<◌, ◌-◌, ℕ, Bool, List, Option, map, ap, sym, subst, ◌∙◌}
use Rattle.std.specs.Prelude.{◌^◌, OnOk}
use Rattle.std.specs.List.{AllZip}
use Rattle.gl_values.specs.declared.kind.Kind.{Kind}
use Rattle.gl_bits.specs.Words.{bits_of, widths_of}
use Rattle.gl_tuples.specs.declared.lines.Sample.{Sample}
use Rattle.gl_outside.proofs.Takes.{wrote_same}
use Rattle.gl_schema.specs.Seen.{lines_after}
use Rattle.gl_vcd.specs.Signals.{columns_of, number_of_name}
use Rattle.gl_vcd.specs.Showings.{cycles_of, names_shown, steady, value_in}
use Rattle.gl_vcd.specs.Standing.{signals_of}
use Rattle.gl_vcd.proofs.Shown.{columns_few, columns_fit, columns_kinds, columns_widths, lines_same, steady_shows, told_same}
use Rattle.gl_vcd.proofs.showing.Showing.put.Goals as goal

pub fill-requires-clause-room : goal.fill-requires-clause-room
fill-requires-clause-room g c =
    let s = c.args.self.now in
    let ss = signals_of s.signals.now in
    subst (λ (ns : List (Option ℕ)). AllZip (λ n width. value_in c.args.values.now n < 2 ^ width) ns (widths_of s.row)) (sym (c.as_slice.ensures.value ∙ c.requires.shows.columns'.numbers'))
    (subst (λ (ws : List ℕ). AllZip (λ n width. value_in c.args.values.now n < 2 ^ width) (map (λ c. number_of_name ss c.name) (columns_of ss)) ws) (sym c.requires.shows.widths')
    (columns_fit ss c.args.values.now c.requires.shows.indexed.apart' c.requires.room))

pub put_cycles-requires-clause-many : goal.put_cycles-requires-clause-many
put_cycles-requires-clause-many g c =
    columns_few (signals_of c.args.self.now.signals.now) c.as_slice-kinds.result.now c.requires.shows.shows (c.as_slice-kinds.ensures.value ∙ c.requires.shows.columns'.kinds')

pub put_cycles-requires-clause-kinds : goal.put_cycles-requires-clause-kinds
put_cycles-requires-clause-kinds g c =
    columns_kinds (signals_of c.args.self.now.signals.now) c.as_slice-kinds.result.now c.requires.shows.shows c.requires.shows.indexed.widths'
    (c.as_slice-kinds.ensures.value ∙ c.requires.shows.columns'.kinds')

pub put_cycles-requires-clause-widths : goal.put_cycles-requires-clause-widths
put_cycles-requires-clause-widths g c =
    c.fill.ensures.widths ∙ c.requires.shows.widths'
    ∙ sym (columns_widths (signals_of c.args.self.now.signals.now) c.as_slice-kinds.result.now (c.as_slice-kinds.ensures.value ∙ c.requires.shows.columns'.kinds'))

pub returns-clause-lines : goal.returns-clause-lines
returns-clause-lines g c =
    let s = c.args.self.now in
    let ss = signals_of s.signals.now in
    let values = c.args.values.now in
    let sample : Sample = record { group = c.is_high.result; valid = c.is_high-2.result; end = c.is_high-3.result } in
    let row = bits_of c.fill.new.row in
    let same = steady_shows ss values sample row s.valid s.end s.group c.as_slice.result.now c.is_high-2.ensures c.is_high-3.ensures c.is_high.ensures c.fill.ensures.bits
    c.requires.shows.valid' c.requires.shows.end' c.requires.shows.group' (c.as_slice.ensures.value ∙ c.requires.shows.columns'.numbers') in
    wrote_same _ _ _ _ c.put_cycles.result
    (ap (λ (ks : List Kind). lines_after s.told ks (cycles_of sample row c.args.from (c.args.to - c.args.from))) c.as_slice-kinds.ensures.value
    ∙ lines_same sample row (steady ss values) (names_shown ss) same s.columns.kinds.items s.told c.args.from (c.args.to - c.args.from))
    c.put_cycles.ensures.wrote

pub returns-clause-told : goal.returns-clause-told
returns-clause-told g c =
    let s = c.args.self.now in
    let ss = signals_of s.signals.now in
    let values = c.args.values.now in
    let sample : Sample = record { group = c.is_high.result; valid = c.is_high-2.result; end = c.is_high-3.result } in
    let row = bits_of c.fill.new.row in
    let same = steady_shows ss values sample row s.valid s.end s.group c.as_slice.result.now c.is_high-2.ensures c.is_high-3.ensures c.is_high.ensures c.fill.ensures.bits
    c.requires.shows.valid' c.requires.shows.end' c.requires.shows.group' (c.as_slice.ensures.value ∙ c.requires.shows.columns'.numbers') in
    subst (λ (told : Bool). OnOk c.put_cycles.result (c.put_cycles.new.told ≡ told))
    (told_same sample row (steady ss values) (names_shown ss) same s.told c.args.from (c.args.to - c.args.from))
    c.put_cycles.ensures.told
