use Rattle.std.proofs.Common.{[], ◌∷◌, ◌∙◌, ap, map, sym, subst}
use Rattle.std.specs.List.{AllByRecursion}
use Rattle.std.proofs.lemmas.List.{map-append}
use Rattle.gl_bits.specs.Words.{IsWidth}
use Rattle.gl_vcd.specs.Signals.{Signal}
use Rattle.gl_vcd.specs.Standing.{AreNumbered, signal_of, signals_of, words_in}
use Rattle.gl_vcd.proofs.Found.{new_word, numbers_push, widths_push, words_push}
use Rattle.gl_vcd.proofs.signals.Signals.add.Goals as goal

pub put-requires : goal.put-requires
put-requires c =
    let s = c.args.self.now in
    new_word (words_in s.codes.keys) (signals_of s) (λ (x : Signal). x.code) c.args.signal.code.now c.requires.indexed.codes' c.requires.new.code'

pub put-requires-2 : goal.put-requires-2
put-requires-2 c =
    let s = c.args.self.now in
    new_word (words_in s.names.keys) (signals_of s) (λ (x : Signal). x.name) c.args.signal.name.now c.requires.indexed.names' c.requires.new.name'

pub returns-clause-added : goal.returns-clause-added
returns-clause-added c = ap (map signal_of) c.in_ok-push.ensures.items ∙ map-append signal_of c.args.self.now.list.items (c.args.signal ∷ [])

pub returns-clause-indexed : goal.returns-clause-indexed
returns-clause-indexed c =
    let s = c.args.self.now in
    let x = signal_of c.args.signal in
    let all = ap (map signal_of) c.in_ok-push.ensures.items ∙ map-append signal_of s.list.items (c.args.signal ∷ []) in
    record {
      codes' = words_push (words_in s.codes.keys) _ (signals_of s) x (λ (y : Signal). y.code) c.requires.indexed.codes' c.in_ok-put.ensures ∙ ap (map (λ (y : Signal). y.code)) (sym all);
      names' = words_push (words_in s.names.keys) _ (signals_of s) x (λ (y : Signal). y.name) c.requires.indexed.names' c.in_ok-put-2.ensures ∙ ap (map (λ (y : Signal). y.name)) (sym all);
      widths' = subst (AllByRecursion (λ (y : Signal). IsWidth y.width)) (sym all) (widths_push (signals_of s) x c.requires.indexed.widths' c.requires.new.width');
      apart' = subst AreNumbered (sym all) (numbers_push (signals_of s) x c.requires.indexed.apart' c.requires.new.name');
    }
