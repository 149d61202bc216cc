use Rattle.std.proofs.Common.{◌≡◌, ℕ, ◌≤◌, List, Option, None, length, replicate, sym, ap, subst, ◌∙◌, arith}
use Rattle.std.specs.Prelude.{unwrap_or}
use Rattle.std.specs.List.{AllByRecursion}
use Rattle.std.proofs.lemmas.List.{length-replicate}
use Rattle.gl_bits.specs.Words.{Word}
use Rattle.gl_bits.proofs.AllLists.{length_map}
use Rattle.gl_vcd.specs.Signals.{Change, value_at}
use Rattle.gl_vcd.specs.Standing.{bits_in, now_of, signal_of}
use Rattle.gl_vcd.proofs.Kept.{no_value}
use Rattle.gl_vcd.proofs.changing.Changing.new.Goals as goal

pub returns-clause-keeps : goal.returns-clause-keeps
unfolding value_at
returns-clause-keeps c = λ r b.
    let now : now_of r ≡ 0 = ap (λ (o : Option ℕ). unwrap_or o 0) b.time' in
    record {
      stage' = b.stage';
      holds = record {
        signals' = b.signals';
        time' = b.time';
        early = subst (AllByRecursion (λ (x : Change). x.time ≤ now_of r)) (sym b.changes') tt;
        late = omega (arith, now);
        values' = λ i lt.
            ap (λ (vs : List (Option Word)). bits_in vs i) c.in_ok-values.ensures ∙ no_value c.len.result i
            ∙ sym (ap (λ (cs : List Change). value_at cs i (now_of r)) b.changes');
      };
    }

pub returns-clause-ready : goal.returns-clause-ready
returns-clause-ready c =
    let list = c.args.signals.now.list.items in
    let items : c.in_ok-values.values.items ≡ replicate c.len.result None = c.in_ok-values.ensures in
    let none : Option Word = None in
    record {
      indexed = c.requires;
      long = ap length items ∙ omega (arith, length-replicate c.len.result none, c.len.ensures, length_map signal_of list);
      room = λ i v s at is. absurd cc (sym (ap (λ (vs : List (Option Word)). bits_in vs i) items ∙ no_value c.len.result i) ∙ is);
      bits = tt;
    }
